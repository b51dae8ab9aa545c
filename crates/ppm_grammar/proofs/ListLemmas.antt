-- Elements of lists, and the tests over them.
use Rattle.std.proofs.Common.{◌≡◌, ℕ, zero, suc, ◌<◌, Bool, true, false, List, [], ◌∷◌, length, refl, arith}
use Rattle.std.specs.Prelude.{◌&&◌, ◌||◌, not, nat_le, Some, if◌then◌else◌}
use Rattle.ppm_grammar.specs.Rows.{In, first, later, element, Listing}
use Rattle.ppm_grammar.specs.Predictive.{some, every, how_many, alike}

-- both hold
pub and_left : (a b : Bool) → (a && b) ≡ true → a ≡ true
and_left true b h = refl
and_left false b h = cc

-- the second
pub and_right : (a b : Bool) → (a && b) ≡ true → b ≡ true
and_right true b h = h
and_right false b h = cc

-- two that hold
pub both : (a b : Bool) → a ≡ true → b ≡ true → (a && b) ≡ true
both true b h k = k
both false b h k = cc

-- one of two holds
pub or_left : (a b : Bool) → a ≡ true → (a || b) ≡ true
or_left true b h = refl
or_left false b h = cc

-- the second
pub or_right : (a b : Bool) → b ≡ true → (a || b) ≡ true
or_right true b h = refl
or_right false b h = h

-- what follows from another
pub implied : (a b : Bool) → (not a || b) ≡ true → a ≡ true → b ≡ true
implied true b h k = h
implied false b h k = cc

-- not both
pub excluded : (a b c : Bool) → not (a && b && c) ≡ true → a ≡ true → b ≡ true → c ≡ false
excluded true true true h k l = cc
excluded true true false h k l = refl
excluded true false c h k l = cc
excluded false b c h k l = cc

-- what is not true
pub not_true : (a : Bool) → not a ≡ true → a ≡ false
not_true true h = cc
not_true false h = refl

-- answers that are alike are one
pub is_alike : (a b : Bool) → alike a b ≡ true → a ≡ b
is_alike true true h = refl
is_alike true false h = cc
is_alike false true h = cc
is_alike false false h = refl

module _ {A : Type 0} where
  -- a test that each element passes
  pub every_in : (p : A → Bool) {x : A} {xs : List A} → every p xs ≡ true → In x xs → p x ≡ true
  every_in p h first = and_left _ _ h
  every_in p h (later i) = every_in p (and_right _ _ h) i

  -- an element that passes a test
  pub record Passing (p : A → Bool) (xs : List A) : Type 0 where
    pub found : A
    pub within : In found xs
    pub passes : p found ≡ true

  -- there is one where some element passes
  pub some_in : (p : A → Bool) (xs : List A) → some p xs ≡ true → Passing p xs
  some_in p [] h = cc
  some_in p (x ∷ xs) h = go (p x) refl h (some_in p xs)
    where
      go : (b : Bool) → p x ≡ b → (b || some p xs) ≡ true → (some p xs ≡ true → Passing p xs) → Passing p (x ∷ xs)
      go true e h below = record { found = x; within = first; passes = e }
      go false e h below = let r = below h in record { found = r.found; within = later r.within; passes = r.passes }

  -- and some element passes where there is one
  pub in_some : (p : A → Bool) {x : A} {xs : List A} → In x xs → p x ≡ true → some p xs ≡ true
  in_some p first h = or_left _ _ h
  in_some p (later i) h = or_right _ _ (in_some p i h)

  -- one element at least passes, where an element of the list does
  one_of_many : (p : A → Bool) {x : A} {xs : List A} → In x xs → p x ≡ true → zero < how_many p xs
  one_of_many p (first {xs = xs}) h = rw h (omega arith)
  one_of_many p (later {y = y} {xs = xs} i) h = go (p y) (one_of_many p i h)
    where
      go : (b : Bool) → zero < how_many p xs → zero < (if b then suc (how_many p xs) else how_many p xs)
      go true below = omega arith
      go false below = below

  -- where one passes at most, two that pass are one
  pub one_passes : (p : A → Bool) {x y : A} {xs : List A} → nat_le (how_many p xs) 1 ≡ true → In x xs → In y xs → p x ≡ true → p y ≡ true → x ≡ y
  one_passes p h first first k l = refl
  one_passes p h (first {xs = xs}) (later j) k l = let m = one_of_many p j l in let h' = rw k at h in absurd (grind (arith, m, h'))
  one_passes p h (later {xs = xs} i) first k l = let m = one_of_many p i k in let h' = rw l at h in absurd (grind (arith, m, h'))
  one_passes p {x = x} {y = y'} h (later {y = y} {xs = xs} i) (later j) k l = go (p y) h (λ h'. one_passes p h' i j k l)
    where
      go : (b : Bool) → nat_le (if b then suc (how_many p xs) else how_many p xs) 1 ≡ true → (nat_le (how_many p xs) 1 ≡ true → x ≡ y') → x ≡ y'
      go true h below = below (grind (arith, h))
      go false h below = below h

  -- an element is in the list
  element_in : (xs : List A) (n : ℕ) (x : A) → element xs n ≡ Some x → In x xs
  element_in [] n x h = cc
  element_in (y ∷ xs) zero x h = let same : x ≡ y = cc in rw same first
  element_in (y ∷ xs) (suc n) x h = later (element_in xs n x h)

  -- its place is below the length
  element_below : (xs : List A) (n : ℕ) (x : A) → element xs n ≡ Some x → n < length xs
  element_below [] n x h = cc
  element_below (y ∷ xs) zero x h = omega arith
  element_below (y ∷ xs) (suc n) x h = omega (arith, element_below xs n x h)

  module _ (s : Listing A) where
    -- each is listed
    pub listed_in : (a : A) → In a s.all
    listed_in a = element_in s.all (s.number a) a (s.listed a)

    -- each number is below their count
    pub number_below : (a : A) → s.number a < length s.all
    number_below a = element_below s.all (s.number a) a (s.listed a)

    -- two with one number are one
    pub same_number : (a b : A) → s.number a ≡ s.number b → a ≡ b
    same_number a b h = let p = s.listed a in let q = rw (← h) at (s.listed b) in cc (p, q)
