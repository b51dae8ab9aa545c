use Rattle.ppm_parser.proofs.Exits.{exit_by}
use Rattle.ppm_parser.proofs.Statements.{local_read, local_fails}
use Rattle.ppm_parser.proofs.statement.local.Goals as goal

-- the value stops
pub returns-in_err-value : goal.returns-in_err-value
returns-in_err-value c =
    exit_by _ _ _ c.from_residual-in_err-value.result c.from_residual-in_err-value.ensures.1
    (local_fails c.in_ok-name.ensures.0 c.in_ok-at.ensures.0 (rw (c.in_ok-at.ensures.1, c.in_ok-name.ensures.1) at c.in_err-value.ensures))

-- a name and its value
pub returns : goal.returns
returns c = local_read c.in_ok-name.ensures.0 c.in_ok-at.ensures.0 (rw (c.in_ok-at.ensures.1, c.in_ok-name.ensures.1) at c.in_ok-value.ensures)
