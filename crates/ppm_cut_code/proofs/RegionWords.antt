-- The word that stands for a region, where the arrays of a program lie one after the other in the shared words.
use Rattle.std.proofs.Common.{◌≡◌, ◌≤◌, ◌<◌, ℕ, zero, suc, ◌+◌, ◌*◌, ◌^◌, List, [], ◌∷◌, get_or, map, refl, ap, arith}
use Rattle.std.specs.List.{sum}
use Rattle.std.proofs.lemmas.List.Sums.{sum_by-cons}
use Rattle.ppm_tree.specs.declared.tree.Array.{Array}
use Rattle.ppm_tree.specs.State.{Region}

-- how long the arrays of a program are
abbrev pub lengths_of : List Array → List ℕ
lengths_of arrays = map (λ a. a.words) arrays

-- the first word of an array, where arrays of these lengths lie one after the other
abbrev pub offset_of : List ℕ → ℕ → ℕ
offset_of [] k = 0
offset_of (n ∷ lengths) zero = 0
offset_of (n ∷ lengths) (suc k) = n + offset_of lengths k

-- the word of a region
abbrev pub region_word : List ℕ → Region → ℕ
region_word lengths r = (offset_of lengths r.array + r.start) * 2 ^ 32 + r.length

-- words of arrays at one address are one word
pub one_address : (lengths : List ℕ) (j k i l : ℕ) → i < get_or lengths j 0 → l < get_or lengths k 0
    → offset_of lengths j + i ≡ offset_of lengths k + l → (j ≡ k) × (i ≡ l)
one_address [] j k i l low below e = absurd (omega (arith, low))
one_address (n ∷ lengths) zero zero i l low below e = (refl, omega (arith, e))
one_address (n ∷ lengths) zero (suc k) i l low below e = absurd (omega (arith, e, low))
one_address (n ∷ lengths) (suc j) zero i l low below e = absurd (omega (arith, e, below))
one_address (n ∷ lengths) (suc j) (suc k) i l low below e =
    let rest = one_address lengths j k i l low below (omega (arith, e)) in (ap (λ (n : ℕ). suc n) rest.0, rest.1)

sum_cons : (n : ℕ) (lengths : List ℕ) → sum (n ∷ lengths) ≡ n + sum lengths
sum_cons n lengths = sum_by-cons (λ (n : ℕ). n) n lengths

-- an array lies within the words of all arrays
pub array_within : (lengths : List ℕ) (k : ℕ) → offset_of lengths k + get_or lengths k 0 ≤ sum lengths
array_within [] k = omega arith
array_within (n ∷ lengths) zero = omega (arith, sum_cons n lengths)
array_within (n ∷ lengths) (suc k) = let rest = array_within lengths k in omega (arith, rest, sum_cons n lengths)
