use Rattle.std.proofs.Common.{◌≡◌, length}
use Rattle.ppm_by_name.specs.Readings.{is_read}
use Rattle.ppm_by_name.proofs.reading.is_read.Given as goal

-- what is left has what is sought
abbrev pub invariant-loop-left : goal.invariant-loop-left
invariant-loop-left l = is_read l.left l.name ≡ is_read l.readings l.name

abbrev pub decreases-loop-left : goal.decreases-loop-left
decreases-loop-left l = length l.left
