-- The text of a source, appended part by part.
use Rattle.std.proofs.Common.{◌≡◌, ◌∙◌, ℕ, suc, ◌+◌, List, [], ◌++◌, codes, decimal, refl, ap, sym}
use Rattle.std.proofs.lemmas.List.{append_assoc}
use Rattle.ppm_plan.specs.Sources.{value_at, values_from}

-- one value more
pub one_value : (x i n m : ℕ) (text more most all : List ℕ) → n ≡ suc m → more ≡ text ++ codes ", "
    → most ≡ more ++ decimal (value_at x i) → text ++ values_from x i n ≡ all → most ++ values_from x (i + 1) m ≡ all
one_value x i n m text more most all e h k whole =
    rw (k, h) (append_assoc (text ++ codes ", ") (decimal (value_at x i)) (values_from x (i + 1) m)
    ∙ append_assoc text (codes ", ") (decimal (value_at x i) ++ values_from x (i + 1) m)
    ∙ ap (λ l. text ++ l) (sym (append_assoc (codes ", ") (decimal (value_at x i)) (values_from x (i + 1) m)))
    ∙ ap (λ j. text ++ values_from x i j) (sym e) ∙ whole)

-- seven parts, one after the other
pub seven_parts : (a b c d e f g t0 t1 t2 t3 t4 t5 t6 t7 : List ℕ) → t0 ≡ [] → t1 ≡ t0 ++ a → t2 ≡ t1 ++ b → t3 ≡ t2 ++ c → t4 ≡ t3 ++ d
    → t5 ≡ t4 ++ e → t6 ≡ t5 ++ f → t7 ≡ t6 ++ g → t7 ≡ a ++ b ++ c ++ d ++ e ++ f ++ g
seven_parts a b c d e f g t0 t1 t2 t3 t4 t5 t6 t7 h0 h1 h2 h3 h4 h5 h6 h7 = rw (h7, h6, h5, h4, h3, h2, h1, h0) refl
