use Rattle.std.proofs.Common.{◌≡◌, ◌++◌, ℕ, List, ◌∙◌, ap, codes, append_assoc}
use Rattle.std.specs.Prelude.{decimal}
use Rattle.ppm_answers.proofs.conflict.conflict_words_of.Goals as goal

-- the parts, put together from the right
from_the_right : (a m b n d o e : List ℕ) → a ++ (m ++ (b ++ (n ++ (d ++ (o ++ e))))) ≡ a ++ m ++ b ++ n ++ d ++ o ++ e
from_the_right a m b n d o e = simp (append_assoc)

-- the bytes of the string, and those of the class's name in it
pub returns : goal.returns
returns c = let k = c.args.conflict in
    ap (λ v. v.items) c.into_bytes.ensures.value ∙ c.in_ok-words.ensures.ok ∙
    ap (λ l. codes "conflict: capsule " ++ l)
    (from_the_right (decimal k.capsule) (codes " read ") (decimal k.read_at) (codes " write ") (decimal k.write_at) (codes " class ") _
    ∙ ap (λ t. decimal k.capsule ++ codes " read " ++ decimal k.read_at ++ codes " write " ++ decimal k.write_at ++ codes " class " ++ t)
    c.in_ok-class.ensures)
