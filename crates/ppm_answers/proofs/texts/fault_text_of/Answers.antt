use Rattle.std.proofs.Common.{◌≡◌, ◌++◌, ℕ, List, [], ◌∷◌, ◌∙◌, ap, codes, append_assoc}
use Rattle.std.specs.Prelude.{decimal}
use Rattle.ppm_answers.proofs.texts.fault_text_of.Goals as goal

-- the parts of the line, put together from the right
from_the_right : (k a m b : List ℕ) → k ++ (32 ∷ (a ++ (32 ∷ (m ++ (32 ∷ (b ++ 10 ∷ []))))))
    ≡ (k ++ 32 ∷ [] ++ a ++ 32 ∷ [] ++ m ++ 32 ∷ [] ++ b) ++ 10 ∷ []
from_the_right k a m b = simp (append_assoc)

-- the bytes of the string
pub returns : goal.returns
returns c = ap (λ v. v.items) c.into_bytes.ensures.value ∙ c.in_ok-line.ensures.ok ∙
    ap (λ l. codes "source refused: " ++ l) (from_the_right c.args.pass.now (decimal c.args.number) c.args.at.now (decimal c.args.place))
