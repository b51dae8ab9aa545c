use Rattle.std.proofs.Common.{◌≡◌, ◌++◌, ℕ, nat_eq, Bool, true, false, List, [], ◌∷◌, ◌∙◌, refl, ap, codes, if◌then◌else◌, append_assoc}
use Rattle.std.specs.Prelude.{decimal}
use Rattle.std.proofs.lemmas.Bool.{eqb-true}
use Rattle.ppm_answers.proofs.sweep.left_end_of.Goals as goal

-- the parts of the end of a line, put together from the right
from_the_right : (k a m : List ℕ) → k ++ (a ++ (m ++ 10 ∷ [])) ≡ (k ++ a ++ m) ++ 10 ∷ []
from_the_right k a m = simp (append_assoc)

abbrev told : ℕ → List ℕ
told left = codes ", " ++ decimal left ++ codes " left out"

-- what is told, where some were left out
is_told : (left : ℕ) → ¬ (left ≡ 0) → told left ≡ (if nat_eq left 0 then [] else told left)
is_told left some = go (nat_eq left 0) refl where
  go : (b : Bool) → nat_eq left 0 ≡ b → told left ≡ (if b then [] else told left)
  go true e = absurd (some (eqb-true left 0 e))
  go false e = refl

-- the bytes of the string
pub returns : goal.returns
returns c =
    ap (λ v. v.items) c.into_bytes.ensures.value ∙ c.in_ok-text.ensures.ok ∙
    from_the_right (codes ", ") (decimal c.args.left) (codes " left out")
    ∙ ap (λ (end : List ℕ). end ++ 10 ∷ []) (is_told c.args.left c.if-left-eq0.false)
