-- What is appended in parts.
use Rattle.std.proofs.Common.{◌≡◌, ◌∙◌, List, ◌++◌, ℕ, ap}
use Rattle.std.proofs.lemmas.List.{append_assoc}

-- one part and then another
pub and_then : (text one two : List ℕ) {with_one with_two : List ℕ} → with_one ≡ text ++ one → with_two ≡ with_one ++ two
    → with_two ≡ text ++ (one ++ two)
and_then text one two first second = second ∙ ap (λ front. front ++ two) first ∙ append_assoc text one two
