use Rattle.ppm_parser.proofs.Exits.{exit_by}
use Rattle.ppm_parser.proofs.Calls.{element_of, argument_many, argument_read, argument_fails}
use Rattle.ppm_parser.proofs.call.argument.Goals as goal

-- one argument too many
pub returns-in_err-room : goal.returns-in_err-room
returns-in_err-room c =
    exit_by _ _ _ c.from_residual-in_err-room.result c.from_residual-in_err-room.ensures.1
    (argument_many c.in_ok-place.ensures c.in_err-room.ensures.0 c.in_err-room.ensures.1)

-- the expression stops
pub returns-in_err-value : goal.returns-in_err-value
returns-in_err-value c =
    exit_by _ _ _ c.from_residual-in_err-value.result c.from_residual-in_err-value.ensures.1
    (argument_fails c.in_ok-place.ensures (element_of c.in_ok-room.ensures) c.in_err-value.ensures)

-- an expression is an argument
pub returns : goal.returns
returns c = argument_read c.in_ok-place.ensures (element_of c.in_ok-room.ensures) c.in_ok-value.ensures
