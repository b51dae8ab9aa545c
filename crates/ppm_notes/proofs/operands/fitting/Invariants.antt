use Rattle.std.proofs.Common.{◌≡◌, ◌+◌, length}
use Rattle.ppm_notes.specs.Operands.{fitting}
use Rattle.ppm_notes.proofs.operands.fitting.Given as goal

-- what is counted, and what is left
abbrev pub invariant-words : goal.invariant-words
invariant-words l =
    (l.count + fitting l.ahead l.left ≡ fitting l.fn.wanted l.fn.tokens) × (l.count + length l.ahead ≡ length l.fn.wanted)

abbrev pub decreases-words : goal.decreases-words
decreases-words l = length l.ahead
