-- Sets of classes as bits: none is lost that a path exposes, or to whose write a path leads.
use Rattle.std.proofs.Common.{◌≡◌, ◌<◌, ◌≤◌, ℕ, ◌+◌, ◌-◌, ◌^◌, Bool, true, false, List, length, inl, inr, refl, sym, ap, subst, arith, nat_lt, set, bit_or}
use Rattle.std.specs.Int.{bit_at}
use Rattle.std.proofs.lemmas.Bool.{ltb-true, ltb-false}
use Rattle.std.proofs.lemmas.List.{get_or-set_same, get_or-set_other}
use Rattle.std.proofs.lemmas.Nat.Bits.{bit_at_or, bit_at_ones, bit_at-lt}
use Rattle.ppm_code.specs.declared.class.Class.{Class}
use Rattle.ppm_code.specs.declared.class.Class.TheVariants.{Slot, New, Value, Room, Array}
use Rattle.ppm_code.specs.declared.class.May.{May}
use Rattle.ppm_code.specs.declared.class.May.TheVariants.{Write}
use Rattle.ppm_code.specs.declared.instr.Instr.{Instr}
use Rattle.ppm_code.specs.Paths.{Any, Does, Exposes, GoesTo, IsConflict, Path}
use Rattle.ppm_war.specs.Masks.{Has, HasAt, class_bit}
use Rattle.ppm_war.specs.Search.{LeadsToWrite}
use Rattle.ppm_war.proofs.DecodedLemmas.{does_below}
use Rattle.ppm_war.proofs.FirstLemmas.{path_begins}
use Rattle.ppm_war.proofs.MarkLemmas.{IsMet, last, path_met, path_forward, goes_forward, same_what}

-- a bit of either is one of both
pub or_left : (a b bit : ℕ) → bit_at a bit ≡ 1 → bit_at (bit_or a b) bit ≡ 1
or_left a b bit e = omega (arith, e, bit_at_or a b bit, bit_at-lt b bit)

pub or_right : (a b bit : ℕ) → bit_at b bit ≡ 1 → bit_at (bit_or a b) bit ≡ 1
or_right a b bit e = omega (arith, e, bit_at_or a b bit, bit_at-lt a bit)

pub bit_below : (c : Class) → class_bit c < 32
bit_below (Slot s) = omega arith
bit_below (New o) = omega arith
bit_below Value = omega arith
bit_below Room = omega arith
bit_below Array = omega arith

-- all bits
pub has_all : (c : Class) → Has (2 ^ 32 - 1) c
has_all c = bit_at_ones 32 (class_bit c) (bit_below c)

-- a class that is exposed after a write has another bit than that which is written, where that bit is its class's own
pub other_bit : (c d : Class) → Exposes c (Write d) → (class_bit d ≡ 31 → ⊥) → class_bit c ≡ class_bit d → ⊥
other_bit (Slot s) (Slot t) exposed own same = exposed (ap (λ (n : ℕ). Write (Slot n)) (same_slot s t own same))
  where
    same_slot : (s t : ℕ) → (class_bit (Slot t) ≡ 31 → ⊥) → class_bit (Slot s) ≡ class_bit (Slot t) → t ≡ s
    same_slot s t own same = omega (arith, own, same)
other_bit (New o) (Slot t) exposed own same = own (sym same)
other_bit Value (Slot t) exposed own same = own (sym same)
other_bit Room (Slot t) exposed own same = own (sym same)
other_bit Array (Slot t) exposed own same = own (sym same)
other_bit c (New o) exposed own same = own refl
other_bit c Value exposed own same = own refl
other_bit c Room exposed own same = own refl
other_bit c Array exposed own same = own refl

module _ (is : List Instr) (c : Class) where
  -- a class is in the set of the place where paths begin
  pub all_at_first : (masks : List ℕ) → 0 < length masks → (to : ℕ) → IsMet is (Exposes c) 0 0 to → HasAt (set masks 0 (2 ^ 32 - 1)) to c
  all_at_first masks some to (inl e) =
      subst (λ (n : ℕ). HasAt (set masks 0 (2 ^ 32 - 1)) n c) (sym e) (subst (λ (m : ℕ). Has m c) (sym (get_or-set_same masks 0 (2 ^ 32 - 1) 0 some)) (has_all c))
  all_at_first masks some to (inr came) = absurd (omega (arith, came.below))

  -- and in that of each further place to which paths go on that expose it
  pub further : (k : ℕ) (m : May) (old new : List ℕ) → Does is k m → k < 161 → ((to : ℕ) → HasAt old to c → HasAt new to c)
      → ((to : ℕ) → to < 161 → HasAt old k c → Exposes c m → GoesTo m k to → HasAt new to c)
      → ((to : ℕ) → to < 161 → IsMet is (Exposes c) 0 k to → HasAt old to c)
      → (to : ℕ) → to < 161 → IsMet is (Exposes c) 0 (k + 1) to → HasAt new to c
  further k m old new here small kept goes met to less (inl e) = kept to (met to less (inl e))
  further k m old new here small kept goes met to less (inr came) = elim (last is (Exposes c) 0 k m here to came) [
    | inl before ↦ kept to (met to less (inr before))
    | inr on ↦ goes to less (met k small (path_met is (Exposes c) 0 k k (omega arith) on.0)) on.1 on.2
  ]

  -- one more set of classes that may be written
  pub one_more_written : (masks : List ℕ) (at mask : ℕ) (m : May) → at < length masks → Does is at m
      → ((from write : ℕ) → at < from → LeadsToWrite is c from write → HasAt masks from c)
      → (m ≡ Write c → Has mask c) → ((next : ℕ) → GoesTo m at next → HasAt masks next c → Has mask c)
      → (from write : ℕ) → at ≤ from → LeadsToWrite is c from write → HasAt (set masks at mask) from c
  one_more_written masks at mask m less does later here on from write up leads = by (nat_lt at from) refl
    where
      there : LeadsToWrite is c at write → Has mask c
      there h = elim (path_begins is Any at write h.0) [
        | inl e ↦ here (same_what is Any at (Write c) m (subst (λ (n : ℕ). Does is n (Write c)) (sym e) h.1) does)
        | inr b ↦
            let goes = subst (λ (n : May). GoesTo n at b.next) (same_what is Any at m b.what does b.here) b.goes in
            on b.next goes (later b.next write (goes_forward m at b.next goes) (b.rest, h.1))
      ]

      by : (t : Bool) → nat_lt at from ≡ t → HasAt (set masks at mask) from c
      by true e = subst (λ (m : ℕ). Has m c) (sym (get_or-set_other masks at from mask 0 (λ s. omega (arith, s, ltb-true at from e))))
          (later from write (ltb-true at from e) leads)
      by false e =
          let same : from ≡ at = omega (arith, up, ltb-false at from e) in
          subst (λ (n : ℕ). HasAt (set masks at mask) n c) (sym same) (subst (λ (m : ℕ). Has m c) (sym (get_or-set_same masks at mask 0 less))
          (there (subst (λ (n : ℕ). LeadsToWrite is c n write) same leads)))

  -- no path leads to a write from after the last instruction
  pub none_past : (from write : ℕ) → length is ≤ from → LeadsToWrite is c from write → ⊥
  none_past from write past h = omega (arith, past, path_forward is Any from write h.0, does_below is write (Write c) h.1)

  -- what is written by a conflict is led to from after its read
  pub leads_behind : (read write : ℕ) → IsConflict is read write c → LeadsToWrite is c (read + 1) write
  leads_behind read write x = (subst (λ (n : ℕ). Path is Any n write) x.goes_on x.between, x.writes)
