use Rattle.std.proofs.Common.{◌≡◌, ◌++◌, map, length}
use Rattle.ppm_racy.specs.Acts.{plain_of}
use Rattle.ppm_racy.proofs.code.plain_instrs.Given as goal

-- those so far, and those that are left
abbrev pub invariant-loop-left : goal.invariant-loop-left
invariant-loop-left l = l.plain.items ++ map plain_of l.left ≡ map plain_of l.instrs

abbrev pub decreases-loop-left : goal.decreases-loop-left
decreases-loop-left l = length l.left
