use Rattle.std.proofs.Common.{◌≡◌, length}
use Rattle.ppm_case.specs.Rules.{is_named}
use Rattle.ppm_case.proofs.arrays.is_named.Given as goal

-- the answer is that for those that are left
abbrev pub invariant-loop-left : goal.invariant-loop-left
invariant-loop-left l = is_named l.left l.name ≡ is_named l.arrays l.name

abbrev pub decreases-loop-left : goal.decreases-loop-left
decreases-loop-left l = length l.left
