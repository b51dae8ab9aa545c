use Rattle.std.proofs.Common.{◌≡◌, ◌++◌, length, map}
use Rattle.ppm_code.specs.declared.code.Capsule.{Capsule}
use Rattle.ppm_widths.specs.Widths.{width_of}
use Rattle.ppm_widths.proofs.width.widths.Given as goal

-- the widths so far, and those of the capsules that are left
abbrev pub invariant-loop-left : goal.invariant-loop-left
invariant-loop-left l = l.widths.items ++ map (λ (capsule : Capsule). width_of capsule.instrs) l.left ≡ map (λ (capsule : Capsule). width_of capsule.instrs) l.code.capsules

abbrev pub decreases-loop-left : goal.decreases-loop-left
decreases-loop-left l = length l.left
