use Rattle.std.proofs.Common.{◌≡◌, length, max}
use Rattle.ppm_widths.specs.Widths.{width_of}
use Rattle.ppm_widths.proofs.width.width_of.Given as goal

-- those so far, and those that are left
abbrev pub invariant-loop-left : goal.invariant-loop-left
invariant-loop-left l = max l.width (width_of l.left) ≡ width_of l.instrs

abbrev pub decreases-loop-left : goal.decreases-loop-left
decreases-loop-left l = length l.left
