use Rattle.std.proofs.Common.{◌≡◌, ◌+◌, ◌++◌, length}
use Rattle.ppm_core.specs.Machine.{seen}
use Rattle.ppm_loading.specs.Says.{arrays_from}
use Rattle.ppm_loading.proofs.arrays.arrays_of.Given as goal

-- the arrays so far, and those that are left
abbrev pub invariant-loop-left : goal.invariant-loop-left
invariant-loop-left l =
    let m = seen l.machine in
    (l.named.items ++ arrays_from m.shape m.array_lengths m.state.words l.number l.left
    ≡ arrays_from m.shape m.array_lengths m.state.words 0 l.arrays)
    × (l.number + length l.left ≡ length l.arrays)

abbrev pub decreases-loop-left : goal.decreases-loop-left
decreases-loop-left l = length l.left
