use Rattle.ppm_text.specs.declared.token.Sign.TheVariants as s
use Rattle.ppm_rows.specs.Kinds.{Mark}
use Rattle.ppm_parser.proofs.Exits.{exit_by}
use Rattle.ppm_parser.proofs.Expressions.{not_front}
use Rattle.ppm_parser.proofs.Calls.{side_read, side_fails, targeted_read, targeted_fails}
use Rattle.ppm_parser.proofs.call.side.Goals as goal

-- the call after the target stops
pub returns-in_err-called : goal.returns-in_err-called
returns-in_err-called c =
    exit_by _ _ _ c.from_residual-in_err-called.result c.from_residual-in_err-called.ensures.1
    (targeted_fails c.in_ok-first.ensures.0 c.in-Ok.ensures.0 (rw (c.in-Ok.ensures.1, c.in_ok-first.ensures.1) at c.in_err-called.ensures))

-- a call with a target
pub returns-in-Ok : goal.returns-in-Ok
returns-in-Ok c =
    rw c.with_target.ensures (targeted_read c.in_ok-first.ensures.0 c.in-Ok.ensures.0
    (rw (c.in-Ok.ensures.1, c.in_ok-first.ensures.1) at c.in_ok-called.ensures))

-- the arguments stop
pub returns-in_err-arguments : goal.returns-in_err-arguments
returns-in_err-arguments c =
    exit_by _ _ _ c.from_residual-in_err-arguments.result c.from_residual-in_err-arguments.ensures.1
    (side_fails c.in_ok-first.ensures.0 (not_front (Mark s.Assign) c.in_ok-first.behind.tokens.now _ c.in_default.ensures)
    (rw c.in_ok-first.ensures.1 at c.in_err-arguments.ensures))

-- a call with none
pub returns : goal.returns
returns c =
    side_read c.in_ok-first.ensures.0 (not_front (Mark s.Assign) c.in_ok-first.behind.tokens.now _ c.in_default.ensures)
    (rw c.in_ok-first.ensures.1 at c.in_ok-arguments.ensures)
