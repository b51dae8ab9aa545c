use Rattle.std.proofs.Common.{◌≡◌, ◌++◌, ℕ, List, [], ◌∷◌, ◌∙◌, ap, ap₂, codes, append_assoc}
use Rattle.std.specs.Prelude.{decimal}
use Rattle.ppm_answers.proofs.sums.sums_text_of.Goals as goal

-- the parts of the line, put together from the right
from_the_right : (a m b n d o e : List ℕ) → a ++ (m ++ (b ++ (n ++ (d ++ (o ++ (e ++ 10 ∷ []))))))
    ≡ (a ++ m ++ b ++ n ++ d ++ o ++ e) ++ 10 ∷ []
from_the_right a m b n d o e = simp (append_assoc)

-- the bytes of the string, and those of the values in it
pub returns : goal.returns
returns c = let s = c.args.sums in
    ap (λ v. v.items) c.into_bytes.ensures.value ∙ c.in_ok-text.ensures.ok ∙
    ap (λ l. codes "size " ++ l)
    (from_the_right (decimal s.size) (codes " forks ") (decimal s.forks) (codes " sum ") _ (codes " last ") _
    ∙ ap₂ (λ t u. (decimal s.size ++ codes " forks " ++ decimal s.forks ++ codes " sum " ++ t ++ codes " last " ++ u) ++ 10 ∷ [])
    c.in_ok-sum.ensures c.in_ok-last.ensures)
