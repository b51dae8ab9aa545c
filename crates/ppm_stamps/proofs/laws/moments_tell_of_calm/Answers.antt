use Rattle.std.proofs.Common.{arith, inl, inr, refl}
use Rattle.ppm_strands.proofs.PartsLemmas.{over_end}
use Rattle.ppm_stamps.specs.Stamps.{nothing, fresh}
use Rattle.ppm_stamps.proofs.MomentLemmas.{clean_back, found_back}
use Rattle.ppm_stamps.proofs.CountLemmas.{one_more}
use Rattle.ppm_stamps.proofs.RaceLemmas.{clean, found}
use Rattle.ppm_stamps.proofs.laws.moments_tell_of_calm.Goals as goal

-- by what is left of the run at that moment
pub returns : goal.returns
returns c = λ start. record {
  ended = λ code local root input o a s come.
      let it = clean_back code come s (s, over_end o a, (1, refl), (1, refl), refl) in
      (clean code local it.2.0 nothing root input fresh it.0 (λ k none. absurd (cc)) (λ x. omega arith) (λ x. omega arith) it.2.1).calm;
  met = λ code local root input above f a s come meets calm. elim (found_back code come (inl (1, inl meets))) [
    | inl it ↦ elim (found code local it.0 nothing root input fresh (λ k none. absurd (cc)) (λ x. omega arith) (λ x. omega arith) it.1 calm).1 [
      | inl y ↦ let e = y.1 in absurd (cc)
      | inr y ↦ let e = y.1 in absurd (cc)
    ]
    | inr it ↦ it.4
  ];
  counted = λ code root input above f a s come e ends. one_more code come e ends;
}
