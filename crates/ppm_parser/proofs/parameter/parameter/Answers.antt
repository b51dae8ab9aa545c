use Rattle.ppm_parser.proofs.Exits.{exit_by}
use Rattle.ppm_parser.proofs.Calls.{element_of}
use Rattle.ppm_parser.proofs.Parameters.{mode_fails, parameter_many, parameter_fails, parameter_read}
use Rattle.ppm_parser.proofs.parameter.parameter.Goals as goal

-- no mode
pub returns-in_err-mode : goal.returns-in_err-mode
returns-in_err-mode c =
    exit_by _ _ _ c.from_residual.result c.from_residual.ensures.1 (mode_fails c.args.at.tokens.now c.in_err-mode.ensures)

-- one too many
pub returns-in_err-room : goal.returns-in_err-room
returns-in_err-room c =
    exit_by _ _ _ c.from_residual-in_err-room.result c.from_residual-in_err-room.ensures.1
    (parameter_many c.in_ok-mode.ensures.0 c.in_err-room.ensures.0 c.in_err-room.ensures.1)

-- no name
pub returns-in_err-name : goal.returns-in_err-name
returns-in_err-name c =
    exit_by _ _ _ c.from_residual-in_err-name.result c.from_residual-in_err-name.ensures.1
    (parameter_fails c.in_ok-mode.ensures.0 (element_of c.in_ok-room.ensures) c.in_err-name.ensures)

-- a mode and a name
pub returns : goal.returns
returns c = rw c.in_ok-name.ensures.1 (parameter_read c.in_ok-mode.ensures.0 (element_of c.in_ok-room.ensures) c.in_ok-name.ensures.0)
