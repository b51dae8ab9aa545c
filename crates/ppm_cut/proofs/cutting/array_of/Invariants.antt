use Rattle.std.proofs.Common.{◌≡◌, ◌≤◌, drop, length}
use Rattle.ppm_tree.specs.Program.{whole_from}
use Rattle.ppm_cut.proofs.cutting.array_of.Given as goal

-- the first one is among those that follow
abbrev pub invariant-loop-array : goal.invariant-loop-array
invariant-loop-array l =
    (l.number ≡ l.array-index)
    × (length l.arrays ≤ 64)
    × (whole_from l.number (drop l.array-index l.arrays) l.name ≡ whole_from 0 l.arrays l.name)
