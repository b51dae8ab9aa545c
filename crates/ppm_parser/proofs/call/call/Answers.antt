use Rattle.ppm_parser.proofs.Exits.{exit_by}
use Rattle.ppm_parser.proofs.Calls.{call_read, call_fails}
use Rattle.ppm_parser.proofs.call.call.Goals as goal

-- the arguments stop
pub returns-in_err-arguments : goal.returns-in_err-arguments
returns-in_err-arguments c =
    exit_by _ _ _ c.from_residual-in_err-arguments.result c.from_residual-in_err-arguments.ensures.1
    (call_fails c.in_ok-callee.ensures.0 (rw c.in_ok-callee.ensures.1 at c.in_err-arguments.ensures))

-- a name and arguments
pub returns : goal.returns
returns c = call_read c.in_ok-callee.ensures.0 (rw c.in_ok-callee.ensures.1 at c.in_ok-arguments.ensures)
