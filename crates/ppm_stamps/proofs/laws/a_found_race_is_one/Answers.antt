use Rattle.std.proofs.Common.{arith, inl, inr}
use Rattle.ppm_stamps.specs.Stamps.{nothing, fresh}
use Rattle.ppm_stamps.proofs.RaceLemmas.{found}
use Rattle.ppm_stamps.proofs.laws.a_found_race_is_one.Goals as goal

-- in a calm tree what was found would be met at the root, beside which nothing is
pub returns : goal.returns
returns c = λ start code local n t a h calm.
    elim (found code local n nothing t a fresh (λ k no. absurd (cc)) (λ x. omega arith) (λ x. omega arith) h calm).1 [
      | inl y ↦ let e = y.1 in absurd (cc)
      | inr y ↦ let e = y.1 in absurd (cc)
    ]
