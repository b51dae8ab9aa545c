use Rattle.std.proofs.Common.{◌≡◌, ◌++◌, ℕ, List, [], ◌∷◌, ◌∙◌, ap, codes, append_assoc}
use Rattle.std.specs.Prelude.{decimal}
use Rattle.ppm_answers.proofs.race.right_line_of.Goals as goal

-- the parts of the line, put together from the right
from_the_right : (a m b n d o e p f : List ℕ) → a ++ (m ++ (b ++ (n ++ (d ++ (o ++ (e ++ (p ++ (f ++ 10 ∷ []))))))))
    ≡ (a ++ m ++ b ++ n ++ d ++ o ++ e ++ p ++ f) ++ 10 ∷ []
from_the_right a m b n d o e p f = simp (append_assoc)

-- the bytes of the string, and those of the touch in it
pub returns : goal.returns
returns c = let t = c.args.right in
    ap (λ v. v.items) c.into_bytes.ensures.value ∙ c.in_ok-text.ensures.ok ∙
    ap (λ l. codes "right: run " ++ l)
    (from_the_right (decimal t.run) (codes " capsule ") (decimal t.capsule) (codes " at ") (decimal t.at) (codes " line ") (decimal t.line) (codes " ") _
    ∙ ap (λ s. (decimal t.run ++ codes " capsule " ++ decimal t.capsule ++ codes " at " ++ decimal t.at ++ codes " line " ++ decimal t.line
    ++ codes " " ++ s) ++ 10 ∷ []) c.touch_name-touch.ensures)
