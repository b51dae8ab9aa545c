use Rattle.std.proofs.Common.{◌≡◌, ◌+◌, length}
use Rattle.ppm_by_name.specs.Frames.{slot_of}
use Rattle.ppm_by_name.proofs.frame.slot_in.Given as goal

-- none so far has the name
abbrev pub invariant-loop-left : goal.invariant-loop-left
invariant-loop-left l = (slot_of l.locals l.name ≡ l.at + slot_of l.left l.name) × (l.at + length l.left ≡ length l.locals)

abbrev pub decreases-loop-left : goal.decreases-loop-left
decreases-loop-left l = length l.left
