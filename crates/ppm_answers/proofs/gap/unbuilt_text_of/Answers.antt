use Rattle.std.proofs.Common.{◌≡◌, ◌++◌, ℕ, List, [], ◌∷◌, ◌∙◌, ap, codes, append_assoc}
use Rattle.std.specs.Prelude.{decimal}
use Rattle.ppm_answers.proofs.gap.unbuilt_text_of.Goals as goal

-- the parts of the line, put together from the right
from_the_right : (a m b n d o e : List ℕ) → a ++ (m ++ (b ++ (n ++ (d ++ (o ++ (e ++ 10 ∷ [])))))) ≡ (a ++ m ++ b ++ n ++ d ++ o ++ e) ++ 10 ∷ []
from_the_right a m b n d o e = simp (append_assoc)

-- the bytes of the string
pub returns : goal.returns
returns c = let g = c.args.unbuilt in
    ap (λ v. v.items) c.into_bytes.ensures.value ∙ c.in_ok-text.ensures.ok ∙
    ap (λ l. codes "unbuilt: capsule " ++ l)
    (from_the_right (decimal g.capsule) (codes " write ") (decimal g.write) (codes " stop ") (decimal g.stop) (codes " class new ") (decimal g.word))
