use Rattle.std.proofs.Common.{refl}
use Rattle.ppm_war.proofs.ConflictLemmas.{is_false}
use Rattle.ppm_gaps.proofs.LeftOutLemmas.{finds_of, has_of}
use Rattle.ppm_gaps.proofs.left_out.has_left_out.Goals as goal

-- it is no find
pub returns-then-not-is_find : goal.returns-then-not-is_find
returns-then-not-is_find c = (
  λ f. cc,
  λ h. absurd (is_false c.is_find.result c.if-not-is_find.true (c.is_find.ensures.1 (finds_of c.args.instrs.now c.args.find h))),
)

-- there is one
pub returns-in-Some : goal.returns-in-Some
returns-in-Some c = (λ t. has_of c.args.instrs.now c.args.find _ c.in-Some.ensures, λ h. refl)

-- or none
pub returns-in-None : goal.returns-in-None
returns-in-None c = (λ f. cc, λ h. absurd (c.in-None.ensures h))
