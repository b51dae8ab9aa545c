use Rattle.std.proofs.Common.{◌≡◌, ◌++◌, get_or, map, take}
use Rattle.ppm_strand_runs.proofs.root.push_regions.Given as goal

-- the regions so far
abbrev pub invariant-loop-array : goal.invariant-loop-array
invariant-loop-array l = l.words.items ≡ l.fn.words.items ++ map (λ a. get_or l.regions a 0) (take l.array-index l.arrays)
