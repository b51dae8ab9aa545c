use Rattle.ppm_parser.proofs.Exits.{exit_by}
use Rattle.ppm_parser.proofs.Parameters.{parameters_read, parameters_fails}
use Rattle.ppm_parser.proofs.parameter.parameters.Goals as goal

-- the parameters stop
pub returns-in_err-all : goal.returns-in_err-all
returns-in_err-all c =
    exit_by _ _ _ c.from_residual-in_err-all.result c.from_residual-in_err-all.ensures.1
    (parameters_fails c.in_ok-place.ensures.0 c.in_ok-inner.ensures c.in_list-room.ensures c.in_err-all.ensures)

-- they stand in parentheses
pub returns : goal.returns
returns c = rw c.from_vec.ensures (parameters_read c.in_ok-place.ensures.0 c.in_ok-inner.ensures c.in_list-room.ensures c.in_ok-all.ensures)
