-- What holds of the instructions of a capsule that is written out, each by its number.
use Rattle.std.proofs.Common.{◌≡◌, ℕ, zero, suc, List, [], ◌∷◌, subst, Some}
use Rattle.std.specs.Prelude.{slice_get}

-- it holds of each of a list with its number: nested pairs, where the list is written out
abbrev pub AllNumbered : {X : Type 0} → (ℕ → X → Type 0) → List X → Type 0
AllNumbered Q [] = Unit {0}
AllNumbered Q (x ∷ xs) = Q 0 x × AllNumbered (λ n y. Q (suc n) y) xs

-- what holds of each of a list with its number holds of what has a number
pub each_numbered : {X : Type 0} (Q : ℕ → X → Type 0) (xs : List X) → AllNumbered Q xs
    → (at : ℕ) (x : X) → slice_get xs at ≡ Some x → Q at x
each_numbered Q [] all at x one = cc
each_numbered Q (y ∷ ys) all zero x one = let same : y ≡ x = cc in subst (λ z. Q 0 z) same all.0
each_numbered Q (y ∷ ys) all (suc at) x one = each_numbered (λ n z. Q (suc n) z) ys all.1 at x one
