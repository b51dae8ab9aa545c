-- What a text is once its arrays and its listing were read.
use Rattle.std.proofs.Common.{◌≡◌, ◌∙◌, ℕ, ◌+◌, ◌<◌, ◌≤◌, true, false, nat_lt, List, [], ◌∷◌, length, map, Result, Ok, Err, IfErr, refl, sym, ap, subst, arith}
use Rattle.std.specs.List.{All, AllByRecursion, list_all}
use Rattle.std.specs.Result.{IsErrAnd}
use Rattle.std.proofs.lemmas.Bool.{both_ways, and_parts, and_from, ltb-true, lt-ltb}
use Rattle.std.proofs.lemmas.List.Elements.{All-from_recursion, recursion_from_All}

-- all numbers are below a limit, or not
pub named_from : (n : ℕ) (numbers : List ℕ) → list_all (λ number. nat_lt number n) numbers ≡ true → All (λ number. number < n) numbers
named_from n numbers h = All-from_recursion (λ number. number < n) numbers (go numbers h)
  where
    go : (xs : List ℕ) → list_all (λ number. nat_lt number n) xs ≡ true → AllByRecursion (λ number. number < n) xs
    go [] h = tt
    go (x ∷ xs) h = let k = and_parts (nat_lt x n) (list_all (λ number. nat_lt number n) xs) h in (ltb-true x n k.0, go xs k.1)

pub named_back : (n : ℕ) (numbers : List ℕ) → All (λ number. number < n) numbers → list_all (λ number. nat_lt number n) numbers ≡ true
named_back n numbers h = go numbers (recursion_from_All (λ number. number < n) numbers h)
  where
    go : (xs : List ℕ) → AllByRecursion (λ number. number < n) xs → list_all (λ number. nat_lt number n) xs ≡ true
    go [] h = refl
    go (x ∷ xs) h = and_from (nat_lt x n) (list_all (λ number. nat_lt number n) xs) (lt-ltb x n h.0) (go xs h.1)
