use Rattle.ppm_parser.proofs.Exits.{exit_by}
use Rattle.ppm_parser.proofs.Declarations.{words_of, array_unnumbered, array_unclosed, array_unended, array_read}
use Rattle.ppm_parser.proofs.declaration.array.Goals as goal

-- the length is missing
pub returns-in_err-words : goal.returns-in_err-words
returns-in_err-words c =
    exit_by _ _ _ c.from_residual-in_err-words.result c.from_residual-in_err-words.ensures.1
    (array_unnumbered c.in_ok-name.ensures.0 c.in_ok-inside.ensures.0 c.in_err-words.ensures)

-- the bracket after it is missing
pub returns-in_err-closed : goal.returns-in_err-closed
returns-in_err-closed c =
    exit_by _ _ _ c.from_residual-in_err-closed.result c.from_residual-in_err-closed.ensures.1
    (array_unclosed c.in_ok-name.ensures.0 c.in_ok-inside.ensures.0 c.in_ok-words.ensures.0 (words_of c.in_ok-room.ensures) c.in_err-closed.ensures)

-- the semicolon is missing
pub returns-in_err-at : goal.returns-in_err-at
returns-in_err-at c =
    exit_by _ _ _ c.from_residual-in_err-at.result c.from_residual-in_err-at.ensures.1
    (array_unended c.in_ok-name.ensures.0 c.in_ok-inside.ensures.0 c.in_ok-words.ensures.0 (words_of c.in_ok-room.ensures) c.in_ok-closed.ensures.0
    c.in_err-at.ensures)

-- a name and a length
pub returns : goal.returns
returns c =
    rw (c.in_ok-at.ensures.1, c.in_ok-closed.ensures.1)
    (array_read c.in_ok-name.ensures.0 c.in_ok-inside.ensures.0 c.in_ok-words.ensures.0 (words_of c.in_ok-room.ensures) c.in_ok-closed.ensures.0
    c.in_ok-at.ensures.0)
