-- What is written piece by piece is the pieces, one after the other.
use Rattle.std.proofs.Common.{◌≡◌, ◌∙◌, ℕ, List, ◌++◌, ap, append_assoc}

-- two pieces after an old text
two : (old a b : List ℕ) → old ++ a ++ b ≡ old ++ (a ++ b)
two old a b = append_assoc old a b

-- five pieces
pub five : (old a b c d e : List ℕ) {v w x y z : List ℕ} → v ≡ old ++ a → w ≡ v ++ b → x ≡ w ++ c → y ≡ x ++ d → z ≡ y ++ e
    → z ≡ old ++ (a ++ b ++ c ++ d ++ e)
five old a b c d e first second third fourth fifth =
    let two_are = second ∙ ap (λ (t : List ℕ). t ++ b) first ∙ two old a b in
    let three_are = third ∙ ap (λ (t : List ℕ). t ++ c) two_are ∙ two old (a ++ b) c in
    let four_are = fourth ∙ ap (λ (t : List ℕ). t ++ d) three_are ∙ two old (a ++ b ++ c) d in
    fifth ∙ ap (λ (t : List ℕ). t ++ e) four_are ∙ two old (a ++ b ++ c ++ d) e
