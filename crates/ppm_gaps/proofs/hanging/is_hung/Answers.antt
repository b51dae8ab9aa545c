use Rattle.std.proofs.Common.{inl, inr, refl, sym, ◌∙◌}
use Rattle.ppm_war.proofs.ConflictLemmas.{is_false}
use Rattle.ppm_gaps.proofs.hanging.is_hung.Goals as goal

-- it cannot trap
pub returns-then-not-may_trap : goal.returns-then-not-may_trap
returns-then-not-may_trap c = (λ f. cc, λ h. absurd (is_false c.may_trap.result c.if-not-may_trap.true (c.may_trap.ensures ∙ h.0)))

-- the way hangs on a find
pub returns-then-row : goal.returns-then-row
returns-then-row c = (λ t. (sym c.may_trap.ensures ∙ c.if-not-may_trap.false, inl c.if-row.true), λ h. refl)

-- or a word by which it traps does
pub returns : goal.returns
returns c = (
  λ t. (sym c.may_trap.ensures ∙ c.if-not-may_trap.false, inr (c.has_trapping.ensures.0 t)),
  λ h. elim h.1 [ inl way ↦ absurd (is_false c.args.row.way c.if-row.false way) | inr operand ↦ c.has_trapping.ensures.1 operand ],
)
