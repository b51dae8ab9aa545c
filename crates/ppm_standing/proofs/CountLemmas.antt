-- The calls that are open, counted from the innermost one outwards.
use Rattle.std.proofs.Common.{◌≡◌, ℕ, nat_eq, List, [], ◌∷◌, length, map, reverse, refl, sym, subst, arith, ◌∙◌}
use Rattle.std.specs.Prelude.{if◌then◌else◌}
use Rattle.ppm_standing.specs.declared.around.Rest as declared
use Rattle.ppm_standing.specs.Rests.{Rest}
use Rattle.ppm_standing.specs.Shown.{rest_of}
use Rattle.ppm_standing.specs.Stood.{IsCounted, IsCounting}

no_items : (items : List declared.Rest) → length items ≡ 0 → items ≡ []
no_items [] e = refl
no_items (r ∷ items) e = absurd (omega (arith, e))

-- nothing is left
pub counted_all : (all : List Rest) (items : List declared.Rest) (calls line last : ℕ) → IsCounting all calls line (map rest_of (reverse items)) → length items ≡ 0
    → last ≡ (if nat_eq calls 0 then 0 else line) → IsCounted all (calls, last)
counted_all all items calls line last h e is =
    let g = subst (λ xs. IsCounting all calls line (map rest_of (reverse xs))) (no_items items e) h in (
      (let i = g.0 in omega (arith, i)),
      is ∙ sym g.1,
    )
