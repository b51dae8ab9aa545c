use Rattle.std.proofs.Common.{inl, inr, refl}
use Rattle.ppm_war.proofs.ConflictLemmas.{is_false}
use Rattle.ppm_gaps.proofs.HangingLemmas.{of_one, one_of}
use Rattle.ppm_gaps.proofs.hanging.has_one.Goals as goal

-- the first one
pub returns-then-has_some : goal.returns-then-has_some
returns-then-has_some c = (λ t. one_of c.args.words c.args.registers (inl (c.has_some.ensures.0 c.if-has_some.true)), λ h. refl)

-- the second one
pub returns-then-has_some-2 : goal.returns-then-has_some-2
returns-then-has_some-2 c = (λ t. one_of c.args.words c.args.registers (inr (inl (c.has_some-2.ensures.0 c.if-has_some-2.true))), λ h. refl)

-- or the third
pub returns : goal.returns
returns c = (
  λ t. one_of c.args.words c.args.registers (inr (inr (c.has_some-3.ensures.0 t))),
  λ h. elim (of_one c.args.words c.args.registers h) [
    | inl b ↦ absurd (is_false c.has_some.result c.if-has_some.false (c.has_some.ensures.1 b))
    | inr more ↦ elim more [
      | inl b ↦ absurd (is_false c.has_some-2.result c.if-has_some-2.false (c.has_some-2.ensures.1 b))
      | inr b ↦ c.has_some-3.ensures.1 b
    ]
  ],
)
