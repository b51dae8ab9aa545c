use Rattle.std.proofs.Common.{length, ap, arith}
use Rattle.ppm_text.specs.declared.token.Sign.TheVariants as s
use Rattle.ppm_rows.specs.Kinds.{Mark}
use Rattle.ppm_parser.proofs.Exits.{exit_by}
use Rattle.ppm_parser.proofs.Expressions.{not_front}
use Rattle.ppm_parser.proofs.Parameters.{no_parameters, parameters_first, parameters_first_fails, parameters_step, parameters_step_fails, parameters_end, parameters_end_fails}
use Rattle.ppm_parser.proofs.parameter.closed_parameters.Goals as goal

-- no parameters
pub returns-in-Ok : goal.returns-in-Ok
returns-in-Ok c = rw (c.new-all.ensures.items, c.in-Ok.ensures.1) (record { end = c.in-Ok.ensures.0.token; parses = no_parameters c.in-Ok.ensures.0 })

-- the first stops
pub returns-in_err-first : goal.returns-in_err-first
returns-in_err-first c =
    exit_by _ _ _ c.from_residual.result c.from_residual.ensures.1
    (parameters_first_fails (not_front (Mark s.CloseParen) c.args.at.tokens.now _ c.in_default.ensures) c.in_err-first.ensures)

-- the first was read
pub parameters-init : goal.parameters-init
parameters-init c =
    rw (c.in_ok-push.ensures.items, c.new-all.ensures.items)
    (parameters_first (not_front (Mark s.CloseParen) c.args.at.tokens.now _ c.in_default.ensures) c.in_ok-first.ensures)

-- a further one stops
pub returns-in_err-next : goal.returns-in_err-next
returns-in_err-next c =
    exit_by _ _ _ c.from_residual-in_err-next.result c.from_residual-in_err-next.ensures.1
    (parameters_step_fails c.parameters.invariant c.in-Ok-take.ensures.0 (rw c.in-Ok-take.ensures.1 at c.in_err-next.ensures))

-- after it stand fewer tokens
pub parameters-smaller : goal.parameters-smaller
parameters-smaller c =
    let h = ap length c.in-Ok-take.ensures.0.front.shape in
    let g = c.in_ok-next.ensures.shorter in omega (arith, h, g)

-- a further one was read
pub parameters-preserved : goal.parameters-preserved
parameters-preserved c =
    rw (c.in_ok-push-2.ensures.items)
    (parameters_step c.parameters.invariant c.in-Ok-take.ensures.0 (rw c.in-Ok-take.ensures.1 at c.in_ok-next.ensures))

-- the parenthesis is missing
pub returns-in_err-end : goal.returns-in_err-end
returns-in_err-end c =
    exit_by _ _ _ c.from_residual-in_err-end.result c.from_residual-in_err-end.ensures.1
    (parameters_end_fails c.parameters.invariant (not_front (Mark s.Comma) c.parameters.behind.tokens.now _ c.in_default-take.ensures) c.in_err-end.ensures)

-- it stands after them
pub returns : goal.returns
returns c = rw c.in_ok-end.ensures.1 (record {
  end = c.in_ok-end.ensures.0.token;
  parses = parameters_end c.parameters.invariant (not_front (Mark s.Comma) c.parameters.behind.tokens.now _ c.in_default-take.ensures) c.in_ok-end.ensures.0;
})
