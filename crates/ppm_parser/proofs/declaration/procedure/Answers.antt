use Rattle.ppm_parser.proofs.Exits.{exit_by}
use Rattle.ppm_parser.proofs.Declarations.{parameters_fail, body_fails, procedure_read}
use Rattle.ppm_parser.proofs.declaration.procedure.Goals as goal

-- the parameters stop
pub returns-in_err-parameters : goal.returns-in_err-parameters
returns-in_err-parameters c =
    exit_by _ _ _ c.from_residual-in_err-parameters.result c.from_residual-in_err-parameters.ensures.1
    (parameters_fail c.in_ok-name.ensures.0 (rw c.in_ok-name.ensures.1 at c.in_err-parameters.ensures))

-- the body stops
pub returns-in_err-body : goal.returns-in_err-body
returns-in_err-body c =
    exit_by _ _ _ c.from_residual-in_err-body.result c.from_residual-in_err-body.ensures.1
    (body_fails c.in_ok-name.ensures.0 (rw c.in_ok-name.ensures.1 at c.in_ok-parameters.ensures) c.in_err-body.ensures)

-- a name, parameters and a body
pub returns : goal.returns
returns c = procedure_read c.in_ok-name.ensures.0 (rw c.in_ok-name.ensures.1 at c.in_ok-parameters.ensures) c.in_ok-body.ensures
