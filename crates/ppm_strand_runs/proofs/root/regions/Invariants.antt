use Rattle.std.proofs.Common.{◌≡◌, ◌++◌, ◌+◌, drop}
use Rattle.ppm_depth.specs.Start.{regions_from}
use Rattle.ppm_depth.specs.Image.{word_count}
use Rattle.ppm_strand_runs.proofs.root.regions.Given as goal

-- the regions so far, and those that are left
abbrev pub invariant-loop-array : goal.invariant-loop-array
invariant-loop-array l = record {
  regions : l.regions.items ++ regions_from l.start (drop l.array-index l.arrays) ≡ regions_from 0 l.arrays;
  start : l.start + word_count (drop l.array-index l.arrays) ≡ word_count l.arrays;
}
