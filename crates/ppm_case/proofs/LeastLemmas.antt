-- Where a listing has no first fault it has none.
use Rattle.std.proofs.Common.{◌≡◌, ◌⊎◌, ◌<◌, ◌≤◌, ℕ, zero, suc, ◌+◌, ◌*◌, Bool, true, false, nat_lt, List, refl, subst, inl, inr, arith}
use Rattle.ppm_listing_reader.specs.declared.listing_error.Fault.{Fault}
use Rattle.ppm_listing_reader.specs.declared.listing_error.Fault.TheVariants.{NoSuchForm, OutOfRange, NotForward, NoEnd, WrongRoom, NotThere}
use Rattle.ppm_listing_reader.specs.ErrorNumbers.{fault_number}
use Rattle.ppm_listing_reader.specs.Correct.{HasFault, IsNotAfter, IsFirstFault}

most_number : (rule : Fault) → fault_number rule ≤ 6
most_number NoSuchForm = omega arith
most_number OutOfRange = omega arith
most_number NotForward = omega arith
most_number NoEnd = omega arith
most_number WrongRoom = omega arith
most_number NotThere = omega arith

-- what no number has that is the least to have it, no number has
module _ (P : ℕ → Type 0) (none : (n : ℕ) → ((m : ℕ) → m < n → P m → ⊥) → P n → ⊥) where
  below : (k n : ℕ) → n < k → P n → ⊥
  below zero n less = λ h. absurd (omega (arith, less))
  below (suc k) n less = none n (λ m is. below k m (omega (arith, less, is)))

  without_least : (n : ℕ) → P n → ⊥
  without_least n = below (suc n) n (omega arith)

-- faults at lines, none of which is the first
module _ (Has : Fault → ℕ → Type 0)
    (free : (rule : Fault) (line : ℕ) → Has rule line → ((other : Fault) (later : ℕ) → Has other later → IsNotAfter (rule, line) (other, later)) → ⊥) where
  -- where a fault stands among all: by its line, and there by its number, which is 6 at most
  abbrev rank : Fault → ℕ → ℕ
  rank rule line = 7 * line + fault_number rule

  abbrev HasRank : ℕ → Type 0
  HasRank n = (rule : Fault) × (line : ℕ) × Has rule line × (rank rule line ≡ n)

  -- a fault whose rank is no less comes no earlier
  not_after : (rule other : Fault) (line later : ℕ) → rank rule line ≤ rank other later → IsNotAfter (rule, line) (other, later)
  not_after rule other line later less = by (nat_lt line later) refl
    where
      most : fault_number other ≤ 6
      most = most_number other

      by : (b : Bool) → nat_lt line later ≡ b → IsNotAfter (rule, line) (other, later)
      by true e = inl (grind (arith, e))
      by false e = let no : later ≤ line = grind (arith, e) in inr (omega (arith, less, most, no), omega (arith, less, most, no))

  first : (n : ℕ) → ((m : ℕ) → m < n → HasRank m → ⊥) → HasRank n → ⊥
  first n none (rule, line, h, e) = free rule line h least
    where
      least : (other : Fault) (later : ℕ) → Has other later → IsNotAfter (rule, line) (other, later)
      least other later k = by (nat_lt (rank other later) (rank rule line)) refl
        where
          by : (b : Bool) → nat_lt (rank other later) (rank rule line) ≡ b → IsNotAfter (rule, line) (other, later)
          by true f =
              let less : rank other later < rank rule line = grind (arith, f) in
              absurd (none (rank other later) (subst (λ (m : ℕ). rank other later < m) e less) (other, later, k, refl))
          by false f = not_after rule other line later (grind (arith, f))

  -- there are none
  pub no_faults : (rule : Fault) (line : ℕ) → Has rule line → ⊥
  no_faults rule line h = without_least HasRank first (rank rule line) (rule, line, h, refl)

-- a text has no fault where it has no first one
pub no_fault : (text : List ℕ) → ((rule : Fault) (line : ℕ) → IsFirstFault text rule line → ⊥) → (rule : Fault) (line : ℕ) → HasFault text rule line → ⊥
no_fault text free = no_faults (HasFault text) (λ rule line there first. free rule line (record { there = there; first = first }))
