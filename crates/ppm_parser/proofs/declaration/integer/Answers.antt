use Rattle.std.proofs.Common.{◌∙◌}
use Rattle.std.proofs.lemmas.Result.{MatchResult-weaker}
use Rattle.ppm_text.specs.declared.token.Sign.TheVariants as s
use Rattle.ppm_rows.specs.Kinds.{Mark}
use Rattle.ppm_parser.proofs.Exits.{exit_by, both}
use Rattle.ppm_parser.proofs.Expressions.{not_front}
use Rattle.ppm_parser.proofs.Declarations.{plain_read, plain_fails, negative_read, negative_fails, negated_is}
use Rattle.ppm_parser.proofs.declaration.integer.Goals as goal

-- no number after the minus
pub returns-in_err-value : goal.returns-in_err-value
returns-in_err-value c =
    exit_by _ _ _ c.from_residual.result c.from_residual.ensures.1 (negative_fails c.in-Ok.ensures.0 c.in_err-value.ensures)

-- a number with a minus
pub returns-in-Ok : goal.returns-in-Ok
returns-in-Ok c =
    let h = c.in_ok-value.ensures.0 in
    (rw (negated_is h.number c.in_ok-value.value h.value h.small) (negative_read c.in-Ok.ensures.0 h), c.in_ok-value.ensures.1 ∙ c.in-Ok.ensures.1)

-- a number
pub returns : goal.returns
returns c =
    MatchResult-weaker _ c.literal-2.ensures (λ r h. both (plain_read h.0) h.1)
    (λ e h. plain_fails c.args.at.tokens.now (not_front (Mark s.Minus) c.args.at.tokens.now _ c.in_default.ensures) h)
