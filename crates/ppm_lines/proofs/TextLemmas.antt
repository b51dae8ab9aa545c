-- A text that is written part by part.
use Rattle.std.proofs.Common.{◌≡◌, ◌∙◌, ℕ, zero, suc, ◌+◌, List, [], ◌∷◌, ◌++◌, ap, sym, append_assoc, arith}
use Rattle.std.proofs.lemmas.List.{flat_map_more}
use Rattle.std.specs.List.{flat_map, range_with_len}

-- parts one after the other
pub three : (a b c t0 t1 t2 t3 : List ℕ) → t1 ≡ t0 ++ a → t2 ≡ t1 ++ b → t3 ≡ t2 ++ c → t3 ≡ t0 ++ (a ++ b ++ c)
three a b c t0 t1 t2 t3 h1 h2 h3 = rw (h3, h2, h1) (simp append_assoc)

pub four : (a b c d t0 t1 t2 t3 t4 : List ℕ) → t1 ≡ t0 ++ a → t2 ≡ t1 ++ b → t3 ≡ t2 ++ c → t4 ≡ t3 ++ d → t4 ≡ t0 ++ (a ++ b ++ c ++ d)
four a b c d t0 t1 t2 t3 t4 h1 h2 h3 h4 = rw (h4, h3, h2, h1) (simp append_assoc)

pub five : (a b c d e t0 t1 t2 t3 t4 t5 : List ℕ) → t1 ≡ t0 ++ a → t2 ≡ t1 ++ b → t3 ≡ t2 ++ c → t4 ≡ t3 ++ d → t5 ≡ t4 ++ e
    → t5 ≡ t0 ++ (a ++ b ++ c ++ d ++ e)
five a b c d e t0 t1 t2 t3 t4 t5 h1 h2 h3 h4 h5 = rw (h5, h4, h3, h2, h1) (simp append_assoc)

pub seven : (a b c d e f g t0 t1 t2 t3 t4 t5 t6 t7 : List ℕ) → t1 ≡ t0 ++ a → t2 ≡ t1 ++ b → t3 ≡ t2 ++ c → t4 ≡ t3 ++ d → t5 ≡ t4 ++ e → t6 ≡ t5 ++ f
    → t7 ≡ t6 ++ g → t7 ≡ t0 ++ (a ++ b ++ c ++ d ++ e ++ f ++ g)
seven a b c d e f g t0 t1 t2 t3 t4 t5 t6 t7 h1 h2 h3 h4 h5 h6 h7 = rw (h7, h6, h5, h4, h3, h2, h1) (simp append_assoc)

pub ten : (a b c d e f g h i j t0 t1 t2 t3 t4 t5 t6 t7 t8 t9 t10 : List ℕ) → t1 ≡ t0 ++ a → t2 ≡ t1 ++ b → t3 ≡ t2 ++ c → t4 ≡ t3 ++ d → t5 ≡ t4 ++ e
    → t6 ≡ t5 ++ f → t7 ≡ t6 ++ g → t8 ≡ t7 ++ h → t9 ≡ t8 ++ i → t10 ≡ t9 ++ j → t10 ≡ t0 ++ (a ++ b ++ c ++ d ++ e ++ f ++ g ++ h ++ i ++ j)
ten a b c d e f g h i j t0 t1 t2 t3 t4 t5 t6 t7 t8 t9 t10 h1 h2 h3 h4 h5 h6 h7 h8 h9 h10 = rw (h10, h9, h8, h7, h6, h5, h4, h3, h2, h1) (simp append_assoc)

pub eleven : (a b c d e f g h i j k t0 t1 t2 t3 t4 t5 t6 t7 t8 t9 t10 t11 : List ℕ) → t1 ≡ t0 ++ a → t2 ≡ t1 ++ b → t3 ≡ t2 ++ c → t4 ≡ t3 ++ d
    → t5 ≡ t4 ++ e → t6 ≡ t5 ++ f → t7 ≡ t6 ++ g → t8 ≡ t7 ++ h → t9 ≡ t8 ++ i → t10 ≡ t9 ++ j → t11 ≡ t10 ++ k
    → t11 ≡ t0 ++ (a ++ b ++ c ++ d ++ e ++ f ++ g ++ h ++ i ++ j ++ k)
eleven a b c d e f g h i j k t0 t1 t2 t3 t4 t5 t6 t7 t8 t9 t10 t11 h1 h2 h3 h4 h5 h6 h7 h8 h9 h10 h11 =
    rw (h11, h10, h9, h8, h7, h6, h5, h4, h3, h2, h1) (simp append_assoc)

range_from : (a n : ℕ) → range_with_len a (suc n) ≡ range_with_len a n ++ (a + n) ∷ []
range_from a zero = let is : a ≡ a + 0 = omega arith in ap (λ k. k ∷ []) is
range_from a (suc n) =
    let next : a + 1 + n ≡ a + suc n = omega arith in
    ap (λ xs. a ∷ xs) (range_from (a + 1) n ∙ ap (λ k. range_with_len (a + 1) n ++ k ∷ []) next)

-- the numbers from 0 on
range_more : (n : ℕ) → range_with_len 0 (n + 1) ≡ range_with_len 0 n ++ n ∷ []
range_more n =
    let is : 0 + n ≡ n = omega arith in
    let one : n + 1 ≡ suc n = omega arith in
    ap (range_with_len 0) one ∙ range_from 0 n ∙ ap (λ k. range_with_len 0 n ++ k ∷ []) is

-- that of a number more
pub next : (part : ℕ → List ℕ) (old text new : List ℕ) (n : ℕ) → text ≡ old ++ flat_map part (range_with_len 0 n) → new ≡ text ++ part n
    → new ≡ old ++ flat_map part (range_with_len 0 (n + 1))
next part old text new n here pushed =
    pushed ∙ ap (λ l. l ++ part n) here ∙ flat_map_more part old (range_with_len 0 n) n
    ∙ ap (λ xs. old ++ flat_map part xs) (sym (range_more n))
