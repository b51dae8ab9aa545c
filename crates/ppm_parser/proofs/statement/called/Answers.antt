use Rattle.ppm_parser.proofs.Exits.{exit_by}
use Rattle.ppm_parser.proofs.Statements.{called_read, called_unended, called_fails}
use Rattle.ppm_parser.proofs.statement.called.Goals as goal

-- the call stops
pub returns-in_err-side : goal.returns-in_err-side
returns-in_err-side c =
    exit_by _ _ _ c.from_residual.result c.from_residual.ensures.1 (called_fails c.in_err-side.ensures)

-- the semicolon is missing
pub returns-in_err-at : goal.returns-in_err-at
returns-in_err-at c =
    exit_by _ _ _ c.from_residual-in_err-at.result c.from_residual-in_err-at.ensures.1 (called_unended c.in_ok-side.ensures c.in_err-at.ensures)

-- a call
pub returns : goal.returns
returns c = rw c.in_ok-at.ensures.1 (called_read c.in_ok-side.ensures c.in_ok-at.ensures.0)
