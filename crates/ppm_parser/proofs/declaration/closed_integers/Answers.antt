use Rattle.std.proofs.Common.{length, ap, arith, refl, ◌∙◌}
use Rattle.ppm_text.specs.declared.token.Sign.TheVariants as s
use Rattle.ppm_rows.specs.Kinds.{Mark}
use Rattle.ppm_parser.specs.Room.{whole_room}
use Rattle.ppm_parser.proofs.Exits.{exit_by}
use Rattle.ppm_parser.proofs.Expressions.{not_front}
use Rattle.ppm_parser.proofs.Declarations.{values_start, values_step, values_step_fails, values_end, values_end_fails, kept}
use Rattle.ppm_parser.proofs.declaration.closed_integers.Goals as goal

-- none was read
pub integers-init : goal.integers-init
integers-init c = (values_start c.args.all.items c.args.at.tokens.now, refl)

-- a further one stops
pub returns-in_err-next : goal.returns-in_err-next
returns-in_err-next c =
    exit_by _ _ _ c.from_residual.result c.from_residual.ensures.1
    (values_step_fails c.integers.invariant.0 c.in-Ok.ensures.0 c.in_err-next.ensures)

-- after it stand fewer tokens
pub integers-smaller : goal.integers-smaller
integers-smaller c =
    let h = ap length c.in-Ok.ensures.0.front.shape in
    let g = (c.in_ok-next.ensures.0.parses 0 whole_room).shorter in omega (arith, h, g)

-- a further one was read
pub integers-preserved : goal.integers-preserved
integers-preserved c = (
  rw (c.in_ok-push.ensures.items, kept c.in_ok-next.next c.in_ok-next.ensures.0.small)
      (values_step c.integers.invariant.0 c.in-Ok.ensures.0 c.in_ok-next.ensures.0),
  c.in_ok-next.ensures.1 ∙ c.in-Ok.ensures.1 ∙ c.integers.invariant.1,
)

-- the semicolon is missing
pub returns-in_err-end : goal.returns-in_err-end
returns-in_err-end c =
    exit_by _ _ _ c.from_residual-in_err-end.result c.from_residual-in_err-end.ensures.1
    (values_end_fails c.integers.invariant.0 (not_front (Mark s.Comma) c.integers.behind.tokens.now _ c.in_default.ensures) c.in_err-end.ensures)

-- it stands after them
pub returns : goal.returns
returns c = (
  values_end c.integers.invariant.0 (not_front (Mark s.Comma) c.integers.behind.tokens.now _ c.in_default.ensures) c.in_ok-end.ensures.0,
  c.in_ok-end.ensures.1 ∙ c.integers.invariant.1,
)
