use Rattle.std.proofs.Common.{◌≡◌, ◌++◌, map, take}
use Rattle.ppm_cells.specs.Region.{region_word}
use Rattle.ppm_layout.specs.Opening.{whole_array}
use Rattle.ppm_layout.proofs.root.push_regions.Given as goal

-- the regions so far
abbrev pub invariant-loop-number : goal.invariant-loop-number
invariant-loop-number l =
    l.frame.items ≡ l.fn.frame.items ++ map (λ n. region_word (whole_array l.arrays n)) (take l.number-index l.numbers)
