-- Where there is no first fault there is none, and where there is no first conflict there is none.
use Rattle.std.proofs.Common.{◌≡◌, ◌⊎◌, ◌<◌, ◌≤◌, ℕ, zero, suc, ◌+◌, ◌*◌, Bool, true, false, nat_lt, List, refl, sym, subst, inl, inr, arith}
use Rattle.ppm_code.specs.declared.class.Class.{Class}
use Rattle.ppm_code.specs.declared.code.CodeParts.{CodeParts}
use Rattle.ppm_code.specs.Paths.{IsConflict, HasNoConflict}
use Rattle.ppm_code.specs.Strands.{instrs_of}
use Rattle.ppm_war.specs.declared.checked.Conflict.{Conflict}
use Rattle.ppm_war.specs.Conflicts.{IsFree, IsFirstConflictOf}
use Rattle.ppm_listing_reader.specs.declared.listing_error.Fault.{Fault}
use Rattle.ppm_listing_reader.specs.ErrorNumbers.{fault_number}
use Rattle.ppm_listing_reader.specs.Correct.{HasFault, IsNotAfter, IsFirstFault}
use Rattle.ppm_racy_listing.specs.Correct.{HasRacyFault, IsFirstRacyFault}
use Rattle.ppm_commands.proofs.LongTexts.{most_number}

-- what no number has that is the least to have it, no number has
module _ (P : ℕ → Type 0) (none : (n : ℕ) → ((m : ℕ) → m < n → P m → ⊥) → P n → ⊥) where
  below : (k n : ℕ) → n < k → P n → ⊥
  below zero n less = λ h. absurd (omega (arith, less))
  below (suc k) n less = none n (λ m is. below k m (omega (arith, less, is)))

  pub without_least : (n : ℕ) → P n → ⊥
  without_least n = below (suc n) n (omega arith)

-- there is no fault where there is no first one
module _ (Has : Fault → ℕ → Type 0)
    (free : (rule : Fault) (line : ℕ) → Has rule line → ((other : Fault) (later : ℕ) → Has other later → IsNotAfter (rule, line) (other, later)) → ⊥) where
  -- where a fault stands among all: by its line, and there by its number, which is 6 at most
  abbrev rank : Fault → ℕ → ℕ
  rank rule line = 7 * line + fault_number rule

  abbrev HasRank : ℕ → Type 0
  HasRank n = (rule : Fault) × (line : ℕ) × Has rule line × (rank rule line ≡ n)

  -- a fault whose rank is no less comes no earlier
  not_after : (rule other : Fault) (line later : ℕ) → rank rule line ≤ rank other later → IsNotAfter (rule, line) (other, later)
  not_after rule other line later less = by (nat_lt line later) refl
    where
      most : fault_number other ≤ 6
      most = most_number other

      by : (b : Bool) → nat_lt line later ≡ b → IsNotAfter (rule, line) (other, later)
      by true e = inl (grind (arith, e))
      by false e = let no : later ≤ line = grind (arith, e) in inr (omega (arith, less, most, no), omega (arith, less, most, no))

  first : (n : ℕ) → ((m : ℕ) → m < n → HasRank m → ⊥) → HasRank n → ⊥
  first n none (rule, line, h, e) = free rule line h least
    where
      least : (other : Fault) (later : ℕ) → Has other later → IsNotAfter (rule, line) (other, later)
      least other later k = by (nat_lt (rank other later) (rank rule line)) refl
        where
          by : (b : Bool) → nat_lt (rank other later) (rank rule line) ≡ b → IsNotAfter (rule, line) (other, later)
          by true f =
              let less : rank other later < rank rule line = grind (arith, f) in
              absurd (none (rank other later) (subst (λ (m : ℕ). rank other later < m) e less) (other, later, k, refl))
          by false f = not_after rule other line later (grind (arith, f))

  none_is_there : (rule : Fault) (line : ℕ) → Has rule line → ⊥
  none_is_there rule line h = without_least HasRank first (rank rule line) (rule, line, h, refl)

-- a text without a first fault has no fault
pub no_fault : (text : List ℕ) → ((rule : Fault) (line : ℕ) → IsFirstFault text rule line → ⊥)
    → (rule : Fault) (line : ℕ) → HasFault text rule line → ⊥
no_fault text free = none_is_there (HasFault text) (λ rule line h least. free rule line (record { there = h; first = least }))

-- and of one with exchanges
pub no_racy_fault : (text : List ℕ) → ((rule : Fault) (line : ℕ) → IsFirstRacyFault text rule line → ⊥)
    → (rule : Fault) (line : ℕ) → HasRacyFault text rule line → ⊥
no_racy_fault text free = none_is_there (HasRacyFault text) (λ rule line h least. free rule line (record { there = h; first = least }))

-- a code has no conflict where it has no first one
module _ (code : CodeParts) (free : (c : Conflict) → IsFirstConflictOf code c → ⊥) where
  abbrev IsIn : (capsule read write : ℕ) → Class → Type 0
  IsIn capsule read write c = IsConflict (instrs_of code capsule) read write c

  -- a conflict with such a write, read or capsule
  abbrev WritesAt : (capsule read write : ℕ) → Type 0
  WritesAt capsule read write = (c : Class) × IsIn capsule read write c

  abbrev ReadsAt : (capsule read : ℕ) → Type 0
  ReadsAt capsule read = (write : ℕ) × WritesAt capsule read write

  abbrev IsInCapsule : (capsule : ℕ) → Type 0
  IsInCapsule capsule = (read : ℕ) × ReadsAt capsule read

  module _ (capsule : ℕ) (earlier : (m : ℕ) → m < capsule → IsInCapsule m → ⊥) where
    module _ (read : ℕ) (before : (m : ℕ) → m < read → ReadsAt capsule m → ⊥) where
      -- the one of the least write is the first
      by_write : (write : ℕ) → ((m : ℕ) → m < write → WritesAt capsule read m → ⊥) → WritesAt capsule read write → ⊥
      by_write write less (c, h) = free (record { capsule = capsule; read_at = read; write_at = write; class = c }) (record {
        earlier = λ number is r w d k. earlier number is (r, (w, (d, k)));
        first = record {
          capsule = refl;
          first = record { conflict = h; least_read = least_read; least_write = least_write };
        };
      })
        where
          least_read : (r w : ℕ) (d : Class) → IsIn capsule r w d → read ≤ r
          least_read r w d k = by (nat_lt r read) refl
            where
              by : (b : Bool) → nat_lt r read ≡ b → read ≤ r
              by true e = absurd (before r (grind (arith, e)) (w, (d, k)))
              by false e = grind (arith, e)

          least_write : (w : ℕ) (d : Class) → IsIn capsule read w d → write ≤ w
          least_write w d k = by (nat_lt w write) refl
            where
              by : (b : Bool) → nat_lt w write ≡ b → write ≤ w
              by true e = absurd (less w (grind (arith, e)) (d, k))
              by false e = grind (arith, e)

      by_read : ReadsAt capsule read → ⊥
      by_read (write, h) = without_least (WritesAt capsule read) by_write write h

    by_capsule : IsInCapsule capsule → ⊥
    by_capsule (read, h) = without_least (ReadsAt capsule) by_read read h

  pub no_conflict : IsFree code
  no_conflict capsule read write c h = without_least IsInCapsule by_capsule capsule (read, (write, (c, h)))
