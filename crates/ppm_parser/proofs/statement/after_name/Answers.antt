use Rattle.std.proofs.lemmas.Result.{MatchResult-weaker}
use Rattle.ppm_text.specs.declared.token.Sign.TheVariants as s
use Rattle.ppm_rows.specs.Kinds.{Mark}
use Rattle.ppm_parser.proofs.Expressions.{not_front}
use Rattle.ppm_parser.proofs.Statements.{after_assign, after_assign_fails}
use Rattle.ppm_parser.proofs.statement.after_name.Goals as goal

-- something is assigned to a local
pub returns-in-Ok : goal.returns-in-Ok
returns-in-Ok c =
    MatchResult-weaker _ c.assigned.ensures (λ r h. after_assign c.in-Ok.ensures.0 (rw c.in-Ok.ensures.1 at h)) (λ e h. after_assign_fails
    c.in-Ok.ensures.0 (rw c.in-Ok.ensures.1 at h))

-- or an element is in front
pub put-requires : goal.put-requires
put-requires c = not_front (Mark s.Assign) c.args.at.tokens.now _ c.in_default.ensures
