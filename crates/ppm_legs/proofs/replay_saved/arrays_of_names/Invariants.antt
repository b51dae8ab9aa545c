use Rattle.std.proofs.Common.{◌≡◌, ◌+◌, ◌++◌, length}
use Rattle.ppm_core.specs.Machine.{seen}
use Rattle.ppm_loading.specs.Says.{arrays_from}
use Rattle.ppm_outcomes.specs.Resumes.{named}
use Rattle.ppm_legs.proofs.replay_saved.arrays_of_names.Given as goal

-- the arrays so far, and those that are left
abbrev pub invariant-loop-left : goal.invariant-loop-left
invariant-loop-left l =
    let m = seen l.machine in
    (l.arrays.items ++ arrays_from m.shape m.array_lengths m.state.words l.number (named l.left)
    ≡ arrays_from m.shape m.array_lengths m.state.words 0 (named l.names))
    × (l.number + length l.left ≡ length l.names)

abbrev pub decreases-loop-left : goal.decreases-loop-left
decreases-loop-left l = length l.left
