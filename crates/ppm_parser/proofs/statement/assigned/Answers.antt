use Rattle.ppm_text.specs.declared.token.Keyword.TheVariants as k
use Rattle.ppm_rows.specs.Kinds.{Word}
use Rattle.ppm_parser.proofs.Exits.{exit_by}
use Rattle.ppm_parser.proofs.Expressions.{not_front}
use Rattle.ppm_parser.proofs.Statements.{assigned_read, assigned_fails, assigned_call_fails, assigned_call_unended, assigned_call_read}
use Rattle.ppm_parser.proofs.statement.assigned.Goals as goal

-- the call stops
pub returns-in_err-called : goal.returns-in_err-called
returns-in_err-called c =
    exit_by _ _ _ c.from_residual.result c.from_residual.ensures.1 (assigned_call_fails c.in-Ok.ensures.0 (rw c.in-Ok.ensures.1 at c.in_err-called.ensures))

-- the semicolon after it is missing
pub returns-in_err-at : goal.returns-in_err-at
returns-in_err-at c =
    exit_by _ _ _ c.from_residual-in_err-at.result c.from_residual-in_err-at.ensures.1
    (assigned_call_unended c.in-Ok.ensures.0 (rw c.in-Ok.ensures.1 at c.in_ok-called.ensures) c.in_err-at.ensures)

-- a call
pub returns-in-Ok : goal.returns-in-Ok
returns-in-Ok c =
    rw (c.with_target.ensures, c.in_ok-at.ensures.1) (assigned_call_read c.in-Ok.ensures.0 (rw c.in-Ok.ensures.1 at c.in_ok-called.ensures)
    c.in_ok-at.ensures.0)

-- the expression stops
pub returns-in_err-value : goal.returns-in_err-value
returns-in_err-value c =
    exit_by _ _ _ c.from_residual-in_err-value.result c.from_residual-in_err-value.ensures.1
    (assigned_fails (not_front (Word k.Call) c.args.at.tokens.now _ c.in_default.ensures) c.in_err-value.ensures)

-- an expression
pub returns : goal.returns
returns c = assigned_read (not_front (Word k.Call) c.args.at.tokens.now _ c.in_default.ensures) c.in_ok-value.ensures
