use Rattle.std.proofs.Common.{List, length}
use Rattle.ppm_expected.specs.Language.{Piece, terminal_of, to_come}
use Rattle.ppm_expected.specs.Steps.{Advances}
use Rattle.ppm_expected.proofs.stack.advance.Given as goal

-- what a token leaves where the rest of the stack is to come, it leaves where all of it is
abbrev pub invariant-items : goal.invariant-items
invariant-items l =
    (new : List Piece) → Advances (terminal_of l.kind) (to_come l.stack.items) new → Advances (terminal_of l.kind) (to_come l.initial.stack.items) new

abbrev pub decreases-items : goal.decreases-items
decreases-items l = length l.stack.items
