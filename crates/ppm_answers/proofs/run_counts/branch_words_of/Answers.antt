use Rattle.std.proofs.Common.{◌≡◌, ◌++◌, ℕ, List, ◌∙◌, ap, codes, append_assoc}
use Rattle.std.specs.Prelude.{decimal}
use Rattle.ppm_answers.proofs.run_counts.branch_words_of.Goals as goal

-- the parts, put together from the right
from_the_right : (a m b n d p e o : List ℕ) → a ++ (m ++ (b ++ (n ++ (d ++ (p ++ (e ++ o)))))) ≡ a ++ m ++ b ++ n ++ d ++ p ++ e ++ o
from_the_right a m b n d p e o = simp (append_assoc)

-- the bytes of the string
pub returns : goal.returns
returns c = let k = c.args.counts in
    ap (λ v. v.items) c.into_bytes.ensures.value ∙ c.in_ok-text.ensures.ok ∙
    ap (λ l. codes "forks " ++ l)
    (from_the_right (decimal k.forks) (codes " takes ") (decimal k.takes) (codes " stolen ") (decimal k.stolen) (codes " takeovers ")
    (decimal k.takeovers) (codes " "))
