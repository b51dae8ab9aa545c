use Rattle.std.proofs.Common.{◌≡◌, ◌++◌, ℕ, List, [], ◌∷◌, ◌∙◌, ap, codes, append_assoc}
use Rattle.std.specs.Prelude.{decimal}
use Rattle.ppm_answers.proofs.strands.all_stood_text_of.Goals as goal

-- the parts of the line, put together from the right
from_the_right : (k a m : List ℕ) → k ++ (a ++ (m ++ 10 ∷ [])) ≡ (k ++ a ++ m) ++ 10 ∷ []
from_the_right k a m = simp (append_assoc)

-- the bytes of the string
pub returns : goal.returns
returns c = ap (λ v. v.items) c.into_bytes.ensures.value ∙ c.in_ok-text.ensures.ok ∙
    from_the_right (codes "ok: ") (decimal c.args.runs) (codes " runs")
