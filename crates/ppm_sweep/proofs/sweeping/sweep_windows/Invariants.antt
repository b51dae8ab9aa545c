use Rattle.std.proofs.Common.{length}
use Rattle.ppm_core.specs.Machine.{seen}
use Rattle.ppm_sweep.proofs.BeginLemmas.{Goes}
use Rattle.ppm_sweep.proofs.sweeping.sweep_windows.Given as goal

-- what is found of the windows that are left is found of all
abbrev pub invariant-loop-left : goal.invariant-loop-left
invariant-loop-left l = Goes (seen l.machine) l.sweeping l.wanted l.schedule.items l.windows l.left l.initial.tally l.tally

abbrev pub decreases-loop-left : goal.decreases-loop-left
decreases-loop-left l = length l.left
