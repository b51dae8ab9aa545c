use Rattle.std.proofs.Common.{◌≡◌, ◌++◌, ℕ, List, [], ◌∷◌, ◌∙◌, ap, codes, append_assoc}
use Rattle.std.specs.Prelude.{decimal}
use Rattle.ppm_answers.proofs.gap.other_block_text_of.Goals as goal

-- the parts of the line, put together from the right
from_the_right : (a m b n d : List ℕ) → a ++ (m ++ (b ++ (n ++ (d ++ 10 ∷ [])))) ≡ (a ++ m ++ b ++ n ++ d) ++ 10 ∷ []
from_the_right a m b n d = simp (append_assoc)

-- the bytes of the string
pub returns : goal.returns
returns c = let g = c.args.other in
    ap (λ v. v.items) c.into_bytes.ensures.value ∙ c.in_ok-text.ensures.ok ∙
    ap (λ l. codes "other block: capsule " ++ l)
    (from_the_right (decimal g.capsule) (codes " end ") (decimal g.end) (codes " stop ") (decimal g.stop))
