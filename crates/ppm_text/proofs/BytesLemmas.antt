-- Runs of bytes, and the classes of bytes.
use Rattle.std.proofs.Common.{◌≡◌, ℕ, zero, suc, ◌+◌, ◌*◌, ◌-◌, ◌≤◌, Bool, true, false, List, [], ◌∷◌, length, take, arith, refl, cond}
use Rattle.std.specs.List.{prefix_len, All, AllPass}
use Rattle.ppm_words.specs.Names.{is_letter, is_digit, is_name_byte}
use Rattle.ppm_text.specs.declared.byte_class.ByteClass.TheVariants.{Letter, Digit}
use Rattle.ppm_text.specs.Bytes.{class_of, value_from}

-- a number only grows by further digits
pub value_grows : (n : ℕ) (bs : List ℕ) → n ≤ value_from n bs
value_grows n [] = omega arith
value_grows n (b ∷ bs) = omega (arith, value_grows (n * 10 + (b - 48)) bs)

-- a run stands within the bytes
pub prefix_le : (p : ℕ → Bool) (xs : List ℕ) → prefix_len p xs ≤ length xs
prefix_le p [] = omega arith
prefix_le p (x ∷ xs) = go (p x) (prefix_le p xs)
  where
    go : (b : Bool) → prefix_len p xs ≤ length xs → cond b (1 + prefix_len p xs) 0 ≤ length (x ∷ xs)
    go true h = omega arith
    go false h = omega arith

-- a first byte that passes counts
pub prefix_first : (p : ℕ → Bool) (x : ℕ) (xs : List ℕ) → p x ≡ true → prefix_len p (x ∷ xs) ≡ suc (prefix_len p xs)
prefix_first p x xs h = rw h (omega arith)

-- a fact of the first and of each other is one of all
pub all_cons : {X : Type 0} (P : X → Type 0) (x : X) (xs : List X) → P x → All P xs → All P (x ∷ xs)
all_cons P x xs is all zero d h = is
all_cons P x xs is all (suc k) d h = all k d (omega arith)

-- each byte of a run passes
pub all_taken : (p : ℕ → Bool) (xs : List ℕ) → AllPass p (take (prefix_len p xs) xs)
all_taken p [] = λ k d h. absurd (omega arith)
all_taken p (x ∷ xs) = go (p x) refl (all_taken p xs)
  where
    go : (v : Bool) → p x ≡ v → AllPass p (take (prefix_len p xs) xs) → AllPass p (take (cond v (1 + prefix_len p xs) 0) (x ∷ xs))
    go true is h = let one : 1 + prefix_len p xs ≡ suc (prefix_len p xs) = omega arith in rw one (all_cons (λ b. p b ≡ true) x _ is h)
    go false is h = λ k d h. absurd (omega arith)

-- bytes in front that all pass are within the run
pub run_beyond : (p : ℕ → Bool) (m : ℕ) (xs : List ℕ) → m ≤ length xs → AllPass p (take m xs) → m ≤ prefix_len p xs
run_beyond p zero xs within all = omega arith
run_beyond p (suc m) [] within all = omega arith
run_beyond p (suc m) (x ∷ xs) within all =
    let first : p x ≡ true = all 0 0 (omega arith) in
    let next : m ≤ prefix_len p xs = run_beyond p m xs (omega arith) (λ k d h. all (suc k) d (omega arith)) in
    omega (arith, prefix_first p x xs first)

-- a letter is known by its class
pub letter_byte : (b : ℕ) → class_of b ≡ Letter → is_letter b ≡ true
letter_byte b h = grind arith

-- a digit is known by its class
pub digit_byte : (b : ℕ) → class_of b ≡ Digit → is_digit b ≡ true
digit_byte b h = grind arith

-- a letter may stand in a name
pub name_byte : (b : ℕ) → class_of b ≡ Letter → is_name_byte b ≡ true
name_byte b h = rw (letter_byte b h) refl
