use Rattle.ppm_parser.proofs.Exits.{exit_by}
use Rattle.ppm_parser.proofs.Statements.{gives_nothing, give_read, give_fails}
use Rattle.ppm_parser.proofs.statement.give.Goals as goal

-- nothing is given
pub returns-in_default : goal.returns-in_default
returns-in_default c = gives_nothing c.in_default.ensures

-- the value stops
pub returns-in_err-value : goal.returns-in_err-value
returns-in_err-value c =
    exit_by _ _ _ c.from_residual.result c.from_residual.ensures.1 (give_fails c.in-Some.ensures.0 c.in_statement-room.ensures c.in_err-value.ensures)

-- a value
pub returns : goal.returns
returns c = give_read c.in-Some.ensures.0 c.in_statement-room.ensures c.in_ok-value.ensures
