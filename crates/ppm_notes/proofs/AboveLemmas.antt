-- What lines say of the next, one after another.
use Rattle.std.proofs.Common.{◌≡◌, ℕ, zero, suc, ◌-◌, List, [], ◌∷◌, refl, sym, arith}
use Rattle.ppm_notes.specs.declared.above.Above.{Above}
use Rattle.ppm_notes.specs.Operands.{below, below_all}

-- the first line is known
pub next_below : (a : Above) (n : ℕ) (l : List ℕ) (ls all : List (List ℕ)) → all ≡ l ∷ ls → (n ≡ 0 → ⊥)
    → below_all (below a l) (n - 1) ls ≡ below_all a n all
next_below a zero l ls all e more = absurd (more refl)
next_below a (suc n) l ls all e more = let one : suc n - 1 ≡ n = omega arith in rw (one, e) refl

nothing_more : (a : Above) (n : ℕ) → below_all a n [] ≡ a
nothing_more a zero = refl
nothing_more a (suc n) = refl

-- the last line is the only one that is left
pub last_below : (a : Above) (n : ℕ) (l : List ℕ) (all : List (List ℕ)) → all ≡ l ∷ [] → (n ≡ 0 → ⊥) → below a l ≡ below_all a n all
last_below a zero l all e more = absurd (more refl)
last_below a (suc n) l all e more = rw e (sym (nothing_more (below a l) n))

-- no lines say nothing
pub none_below : (a : Above) (n : ℕ) (ls : List (List ℕ)) → n ≡ 0 → below_all a n ls ≡ a
none_below a n ls none = rw none refl
