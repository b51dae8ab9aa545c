-- Words one after the other, up to one more.
use Rattle.std.proofs.Common.{◌≡◌, ℕ, zero, suc, ◌+◌, List, [], ◌∷◌, ◌++◌, sym, ap, ◌∙◌, arith}
use Rattle.std.specs.List.{range_with_len}
use Rattle.std.proofs.lemmas.List.{append_assoc}

range_from : (a n : ℕ) → range_with_len a (suc n) ≡ range_with_len a n ++ (a + n) ∷ []
range_from a zero = let is : a ≡ a + 0 = omega arith in ap (λ k. k ∷ []) is
range_from a (suc n) =
    let next : a + 1 + n ≡ a + suc n = omega arith in
    ap (λ xs. a ∷ xs) (range_from (a + 1) n ∙ ap (λ k. range_with_len (a + 1) n ++ k ∷ []) next)

-- the numbers from 0 on
pub range_more : (n : ℕ) → range_with_len 0 (n + 1) ≡ range_with_len 0 n ++ n ∷ []
range_more n =
    let is : 0 + n ≡ n = omega arith in
    let one : n + 1 ≡ suc n = omega arith in
    ap (range_with_len 0) one ∙ range_from 0 n ∙ ap (λ k. range_with_len 0 n ++ k ∷ []) is

-- a word is pushed after others, and these are then one more
pub pushed : (old some longer words new : List ℕ) (w x : ℕ) → new ≡ words ++ w ∷ [] → words ≡ old ++ some → w ≡ x → longer ≡ some ++ x ∷ []
    → new ≡ old ++ longer
pushed old some longer words new w x push here value more =
    push ∙ ap (λ ws. ws ++ w ∷ []) here ∙ ap (λ k. (old ++ some) ++ k ∷ []) value ∙ append_assoc old some (x ∷ []) ∙ ap (λ r. old ++ r) (sym more)
