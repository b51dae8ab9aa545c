use Rattle.std.proofs.Common.{◌≡◌, ◌+◌, ◌++◌, length}
use Rattle.ppm_racy_listing.specs.Exchanges.{exchanged_instrs}
use Rattle.ppm_racy_listing.proofs.exchanges.racy_instrs.Given as goal

-- those so far, and those that are left after them
abbrev pub invariant-loop-left : goal.invariant-loop-left
invariant-loop-left l =
    (l.racy.items ++ exchanged_instrs l.olds l.line l.left ≡ exchanged_instrs l.olds l.line-2 l.instrs)
    × (l.line + length l.left ≡ l.line-2 + length l.instrs)

abbrev pub decreases-loop-left : goal.decreases-loop-left
decreases-loop-left l = length l.left
