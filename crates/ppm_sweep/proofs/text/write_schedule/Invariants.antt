use Rattle.std.proofs.Common.{◌≡◌, ◌++◌, length}
use Rattle.ppm_sweep.specs.Text.{schedule_text}
use Rattle.ppm_sweep.proofs.TextLemmas.{more_text}
use Rattle.ppm_sweep.proofs.text.write_schedule.Given as goal

-- what is written, and each item that is left after its comma
abbrev pub invariant-loop-left : goal.invariant-loop-left
invariant-loop-left l = l.text.items ++ more_text l.left ≡ schedule_text l.items

abbrev pub decreases-loop-left : goal.decreases-loop-left
decreases-loop-left l = length l.left
