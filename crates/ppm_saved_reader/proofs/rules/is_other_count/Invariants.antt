use Rattle.std.proofs.Common.{◌≡◌, length}
use Rattle.ppm_saved_reader.specs.Rules.{is_other_count}
use Rattle.ppm_saved_reader.proofs.rules.is_other_count.Given as goal

-- the lines that are left are to have the rest
abbrev pub invariant-loop-times : goal.invariant-loop-times
invariant-loop-times l = is_other_count l.rest_count l.left ≡ is_other_count l.count l.text

abbrev pub decreases-loop-times : goal.decreases-loop-times
decreases-loop-times l = length l.left
