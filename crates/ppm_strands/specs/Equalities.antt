-- Tests of equality: of numbers, and of locations from tests of their parts.
use Rattle.std.proofs.Common.{◌≡◌, ℕ, ◌==◌, Bool, true, false, cond, refl, ap, subst}
use Rattle.std.proofs.lemmas.Bool.{eq-eqb, eqb-true}
use Rattle.ppm_strands.specs.Capsule.{Equality}
use Rattle.ppm_strands.specs.Strand.{Location, Own, New, Shared}

-- of numbers
abbrev pub numbers : Equality ℕ
numbers = record { same = λ m n. m == n; is_one = eqb-true; is_self = λ n. eq-eqb n n refl }

module _ {S N : Type 0} (own : Equality S) (new : Equality N) where
  -- locations are one where they are of one kind, and one there
  abbrev pub same_location : Location S N → Location S N → Bool
  same_location (Own s) (Own t) = own.same s t
  same_location (New n) (New o) = new.same n o
  same_location (Shared x) (Shared y) = x == y
  same_location (Own s) (New n) = false
  same_location (Own s) (Shared x) = false
  same_location (New n) (Own s) = false
  same_location (New n) (Shared x) = false
  same_location (Shared x) (Own s) = false
  same_location (Shared x) (New n) = false

  -- a test is not both
  false_is_not_true : false ≡ true → ⊥
  false_is_not_true h = subst (λ (b : Bool). cond b ⊥ (Unit {0})) h tt

  pub location_is_one : (k l : Location S N) → same_location k l ≡ true → k ≡ l
  location_is_one (Own s) (Own t) h = ap Own (own.is_one s t h)
  location_is_one (New n) (New o) h = ap New (new.is_one n o h)
  location_is_one (Shared x) (Shared y) h = ap Shared (eqb-true x y h)
  location_is_one (Own s) (New n) h = absurd (false_is_not_true h)
  location_is_one (Own s) (Shared x) h = absurd (false_is_not_true h)
  location_is_one (New n) (Own s) h = absurd (false_is_not_true h)
  location_is_one (New n) (Shared x) h = absurd (false_is_not_true h)
  location_is_one (Shared x) (Own s) h = absurd (false_is_not_true h)
  location_is_one (Shared x) (New n) h = absurd (false_is_not_true h)

  pub location_is_self : (l : Location S N) → same_location l l ≡ true
  location_is_self (Own s) = own.is_self s
  location_is_self (New n) = new.is_self n
  location_is_self (Shared x) = eq-eqb x x refl

  -- of locations
  abbrev pub locations : Equality (Location S N)
  locations = record { same = same_location; is_one = location_is_one; is_self = location_is_self }
