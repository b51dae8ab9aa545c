-- Texts that are written part by part.
use Rattle.std.proofs.Common.{◌≡◌, ◌∙◌, ◌≤◌, ℕ, zero, suc, ◌+◌, ◌-◌, List, [], ◌∷◌, ◌++◌, ap, sym, arith}
use Rattle.std.proofs.lemmas.List.{flat_map_more}
use Rattle.std.specs.List.{flat_map, range_with_len}

range_from : (a n : ℕ) → range_with_len a (suc n) ≡ range_with_len a n ++ (a + n) ∷ []
range_from a zero = let is : a ≡ a + 0 = omega arith in ap (λ k. k ∷ []) is
range_from a (suc n) =
    let next : a + 1 + n ≡ a + suc n = omega arith in
    ap (λ xs. a ∷ xs) (range_from (a + 1) n ∙ ap (λ k. range_with_len (a + 1) n ++ k ∷ []) next)

-- the numbers from 1 on, and one more
range_one_more : (n : ℕ) → 1 ≤ n → range_with_len 1 (n + 1 - 1) ≡ range_with_len 1 (n - 1) ++ n ∷ []
range_one_more n least =
    let now : n + 1 - 1 ≡ suc (n - 1) = omega (arith, least) in
    let last : 1 + (n - 1) ≡ n = omega (arith, least) in
    ap (range_with_len 1) now ∙ range_from 1 (n - 1) ∙ ap (λ k. range_with_len 1 (n - 1) ++ k ∷ []) last

-- what is written of the numbers from 1 on, and of one more
pub next_from_one : (part : ℕ → List ℕ) (old text new : List ℕ) (n : ℕ) → 1 ≤ n → text ≡ old ++ flat_map part (range_with_len 1 (n - 1))
    → new ≡ text ++ part n → new ≡ old ++ flat_map part (range_with_len 1 (n + 1 - 1))
next_from_one part old text new n least here pushed =
    pushed ∙ ap (λ l. l ++ part n) here ∙ flat_map_more part old (range_with_len 1 (n - 1)) n
    ∙ ap (λ xs. old ++ flat_map part xs) (sym (range_one_more n least))
