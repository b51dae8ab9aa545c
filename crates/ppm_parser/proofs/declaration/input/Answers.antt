use Rattle.std.proofs.Common.{◌∙◌}
use Rattle.ppm_parser.proofs.Exits.{exit_by}
use Rattle.ppm_parser.proofs.Declarations.{first_value_fails, values_fail, input_read, kept}
use Rattle.ppm_parser.proofs.declaration.input.Goals as goal

-- the first value stops
pub returns-in_err-first : goal.returns-in_err-first
returns-in_err-first c =
    exit_by _ _ _ c.from_residual-in_err-first.result c.from_residual-in_err-first.ensures.1
    (first_value_fails c.in_ok-name.ensures.0 c.in_ok-at.ensures.0 c.in_err-first.ensures)

-- the others stop
pub returns-in_err-values : goal.returns-in_err-values
returns-in_err-values c =
    exit_by _ _ _ c.from_residual-in_err-values.result c.from_residual-in_err-values.ensures.1
    (values_fail c.in_ok-name.ensures.0 c.in_ok-at.ensures.0 c.in_ok-first.ensures.0 c.in_err-values.ensures)

-- a name and its values
pub returns : goal.returns
returns c =
    let r = rw (c.in_ok-push.ensures.items, c.new-values.ensures.items, kept c.in_ok-first.first c.in_ok-first.ensures.0.small) at c.in_ok-values.ensures.0 in (
      rw c.from_vec-values.ensures (input_read c.in_ok-name.ensures.0 c.in_ok-at.ensures.0 c.in_ok-first.ensures.0 r),
      c.in_ok-values.ensures.1 ∙ c.in_ok-first.ensures.1 ∙ c.in_ok-at.ensures.1 ∙ c.in_ok-name.ensures.1,
    )
