use Rattle.ppm_parser.proofs.Exits.{exit_by}
use Rattle.ppm_parser.proofs.Statements.{body_stops, body_give_stops, body_unclosed, body_read}
use Rattle.ppm_parser.proofs.statement.read_body.Goals as goal

-- the statements stop
pub returns-in_err-statements : goal.returns-in_err-statements
returns-in_err-statements c =
    exit_by _ _ _ c.from_residual-in_err-statements.result c.from_residual-in_err-statements.ensures.1
    (body_stops c.in_ok-place.ensures.0 c.in_ok-inner.ensures (rw c.in_ok-place.ensures.1 at c.in_err-statements.ensures))

-- what is given stops
pub returns-in_err-give : goal.returns-in_err-give
returns-in_err-give c =
    exit_by _ _ _ c.from_residual-in_err-give.result c.from_residual-in_err-give.ensures.1
    (body_give_stops c.in_ok-place.ensures.0 c.in_ok-inner.ensures (rw c.in_ok-place.ensures.1 at c.in_ok-statements.ensures) c.in_err-give.ensures)

-- the brace is missing
pub returns-in_err-at : goal.returns-in_err-at
returns-in_err-at c =
    exit_by _ _ _ c.from_residual-in_err-at.result c.from_residual-in_err-at.ensures.1
    (body_unclosed c.in_ok-place.ensures.0 c.in_ok-inner.ensures (rw c.in_ok-place.ensures.1 at c.in_ok-statements.ensures) c.in_ok-give.ensures
    c.in_err-at.ensures)

-- statements and what is given, in braces
pub returns : goal.returns
returns c =
    rw c.in_ok-at.ensures.1 (body_read c.in_ok-place.ensures.0 c.in_ok-inner.ensures (rw c.in_ok-place.ensures.1 at c.in_ok-statements.ensures)
    c.in_ok-give.ensures c.in_ok-at.ensures.0)
