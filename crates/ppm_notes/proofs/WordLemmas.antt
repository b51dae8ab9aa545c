-- The pieces of some bytes, and the capsules above a line, one after another.
use Rattle.std.proofs.Common.{◌≡◌, ◌≤◌, ℕ, zero, suc, ◌+◌, ◌-◌, Bool, true, false, List, [], ◌∷◌, Some, None, refl, arith}
use Rattle.ppm_pieces.specs.Pieces.{halves_of}
use Rattle.ppm_notes.specs.Words.{after_pieces, begins_capsule, capsules_in, one_if}

-- after one piece one piece fewer is in front
pub next_piece : (s n : ℕ) (bytes : List ℕ) (p : List ℕ × List ℕ) → halves_of s bytes ≡ Some p → (n ≡ 0 → ⊥)
    → after_pieces s (n - 1) p.1 ≡ after_pieces s n bytes
next_piece s zero bytes p e more = absurd (more refl)
next_piece s (suc n) bytes p e more = let one : suc n - 1 ≡ n = omega arith in rw (one, e) refl

-- after the last piece there is none
pub no_piece : (s n : ℕ) (bytes : List ℕ) → halves_of s bytes ≡ None → (n ≡ 0 → ⊥) → None ≡ after_pieces s n bytes
no_piece s zero bytes e more = absurd (more refl)
no_piece s (suc n) bytes e more = rw e refl

-- with none in front it is all
pub all_pieces : (s n : ℕ) (bytes : List ℕ) → n ≡ 0 → Some bytes ≡ after_pieces s n bytes
all_pieces s n bytes none = rw none refl

one_few : (b : Bool) → one_if b ≤ 1
one_few true = omega arith
one_few false = omega arith

-- of so many lines no more begin a capsule
pub capsules_few : (n : ℕ) (ls : List (List ℕ)) → capsules_in n ls ≤ n
capsules_few zero ls = omega arith
capsules_few (suc n) [] = omega arith
capsules_few (suc n) (l ∷ ls) =
    let one : one_if (begins_capsule l) ≤ 1 = one_few (begins_capsule l) in
    let more = capsules_few n ls in
    omega (arith, one, more)

no_capsules : (n : ℕ) → capsules_in n [] ≡ 0
no_capsules zero = refl
no_capsules (suc n) = refl

-- after the first line one line fewer is left
pub next_line : (n : ℕ) (l : List ℕ) (ls all : List (List ℕ)) → all ≡ l ∷ ls → (n ≡ 0 → ⊥)
    → one_if (begins_capsule l) + capsules_in (n - 1) ls ≡ capsules_in n all
next_line zero l ls all e more = absurd (more refl)
next_line (suc n) l ls all e more = let one : suc n - 1 ≡ n = omega arith in rw (one, e) refl

-- the last line is the only one that is left
pub last_line : (n : ℕ) (l : List ℕ) (all : List (List ℕ)) → all ≡ l ∷ [] → (n ≡ 0 → ⊥) → one_if (begins_capsule l) ≡ capsules_in n all
last_line zero l all e more = absurd (more refl)
last_line (suc n) l all e more =
    let none = no_capsules n in
    let sum : one_if (begins_capsule l) ≡ one_if (begins_capsule l) + 0 = omega arith in
    rw (e, none) sum

-- of no lines none does
pub no_line : (n : ℕ) (ls : List (List ℕ)) → n ≡ 0 → capsules_in n ls ≡ 0
no_line n ls none = rw none refl
