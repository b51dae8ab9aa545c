use Rattle.std.proofs.Common.{◌≡◌, length}
use Rattle.ppm_saved_reader.specs.Rules.{is_twice}
use Rattle.ppm_saved_reader.proofs.rules.is_twice.Given as goal

-- the answer is that for those that are left
abbrev pub invariant-loop-left : goal.invariant-loop-left
invariant-loop-left l = is_twice l.left l.name ≡ is_twice l.arrays l.name

abbrev pub decreases-loop-left : goal.decreases-loop-left
decreases-loop-left l = length l.left
