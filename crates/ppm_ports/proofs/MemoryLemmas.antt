-- What a memory source gives.
use Rattle.std.proofs.Common.{◌≡◌, ℕ, ◌+◌, ◌≤◌, [], List, ◌++◌, length, take, drop, arith, sym, ap₂, ◌∙◌, length-drop}
use Rattle.std.proofs.lemmas.List.{drop-drop, take-append-drop}
use Rattle.std.proofs.Math.ListN.{drop_of_length-le}

-- what was left is what was given and what is left now
pub given_and_left : (bytes buf : List ℕ) (at n : ℕ) → take n buf ≡ take n (drop at bytes) → drop at bytes ≡ take n buf ++ drop (at + n) bytes
given_and_left bytes buf at n front =
    sym (take-append-drop n (drop at bytes)) ∙ ap₂ (λ (x : List ℕ) (y : List ℕ). x ++ y) (sym front) (drop-drop n at bytes)

-- after the last byte nothing is left
pub none_left : (bytes : List ℕ) (at n : ℕ) → length (drop at bytes) ≤ 0 → drop (at + n) bytes ≡ []
none_left bytes at n short = drop_of_length-le bytes (omega (arith, length-drop at bytes))
