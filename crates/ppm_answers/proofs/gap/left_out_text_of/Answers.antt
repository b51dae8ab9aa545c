use Rattle.std.proofs.Common.{◌≡◌, ◌++◌, ℕ, List, [], ◌∷◌, ◌∙◌, ap, codes, append_assoc}
use Rattle.std.specs.Prelude.{decimal}
use Rattle.ppm_answers.proofs.gap.left_out_text_of.Goals as goal

-- the parts of the line, put together from the right
from_the_right : (a m b n d o e p f : List ℕ) → a ++ (m ++ (b ++ (n ++ (d ++ (o ++ (e ++ (p ++ (f ++ 10 ∷ []))))))))
    ≡ (a ++ m ++ b ++ n ++ d ++ o ++ e ++ p ++ f) ++ 10 ∷ []
from_the_right a m b n d o e p f = simp (append_assoc)

-- the bytes of the string, and those of the class's name in it
pub returns : goal.returns
returns c = let g = c.args.left_out in
    ap (λ v. v.items) c.into_bytes.ensures.value ∙ c.in_ok-text.ensures.ok ∙
    ap (λ l. codes "left out: capsule " ++ l)
    (from_the_right (decimal g.capsule) (codes " find ") (decimal g.find) (codes " write ") (decimal g.write) (codes " stop ") (decimal g.stop)
    (codes " class ") _
    ∙ ap (λ t. (decimal g.capsule ++ codes " find " ++ decimal g.find ++ codes " write " ++ decimal g.write ++ codes " stop " ++ decimal g.stop
    ++ codes " class " ++ t) ++ 10 ∷ []) c.in_ok-class.ensures)
