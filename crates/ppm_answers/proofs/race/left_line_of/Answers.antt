use Rattle.std.proofs.Common.{◌≡◌, ◌++◌, ℕ, List, [], ◌∷◌, ◌∙◌, ap, codes, append_assoc}
use Rattle.std.specs.Prelude.{decimal}
use Rattle.ppm_answers.proofs.race.left_line_of.Goals as goal

-- the parts of the line, put together from the right
from_the_right : (a m b n d : List ℕ) → a ++ (m ++ (b ++ (n ++ (d ++ 10 ∷ [])))) ≡ (a ++ m ++ b ++ n ++ d) ++ 10 ∷ []
from_the_right a m b n d = simp (append_assoc)

-- the bytes of the string, and those of the touch in it
pub returns : goal.returns
returns c = let v = c.args.left in
    ap (λ v. v.items) c.into_bytes.ensures.value ∙ c.in_ok-line.ensures.ok ∙
    ap (λ l. codes "left: run " ++ l)
    (from_the_right (decimal v.run) (codes " capsule ") (decimal v.capsule) (codes " ") _
    ∙ ap (λ t. (decimal v.run ++ codes " capsule " ++ decimal v.capsule ++ codes " " ++ t) ++ 10 ∷ []) c.touch_name-touch.ensures)
