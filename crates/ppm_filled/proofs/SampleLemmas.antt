-- The capsule that reads a word and keeps it.
use Rattle.std.proofs.Common.{◌≡◌, ◌≤◌, ℕ, zero, suc, ◌+◌, true, false, List, Some, None, ◌⊎◌, inl, inr, refl, sym, ◌∙◌, ap, subst, arith}
use Rattle.std.specs.Prelude.{slice_get}
use Rattle.ppm_code.specs.declared.act.End.TheVariants.{Finish}
use Rattle.ppm_code.specs.declared.class.Class.{Class}
use Rattle.ppm_code.specs.declared.class.Class.TheVariants.{Slot, New, Array}
use Rattle.ppm_code.specs.declared.class.May.{May}
use Rattle.ppm_code.specs.declared.class.May.TheVariants.{Work, Read, Write, Branch, Stop}
use Rattle.ppm_code.specs.declared.instr.Instr.{Instr}
use Rattle.ppm_code.specs.declared.instr.Instr.TheVariants.{Get, StoreCur, Ends}
use Rattle.ppm_code.specs.declared.register.Register.{Register}
use Rattle.ppm_code.specs.Paths.{may, Does, GoesTo, Path, Here, Then, Exposes, HasNoConflict}
use Rattle.ppm_filled.specs.Filled.{may_trap, IsStop, IsFind, builder_at, Mark, Way, Word, Hangs, Finds, Takes, Stays, Parts, GoesOn, IsFilledOnPaths}
use Rattle.ppm_filled.specs.Sample.{read_and_keep, RacyReadIsFilled}

-- a path goes forward
forward_only : (m : May) (at to : ℕ) → GoesTo m at to → at + 1 ≤ to
forward_only Work at to e = omega (arith, e)
forward_only (Read c) at to e = omega (arith, e)
forward_only (Write c) at to e = omega (arith, e)
forward_only (Branch t) at to (inl e) = omega (arith, e)
forward_only (Branch t) at to (inr e) = omega (arith, e)
forward_only Stop at to e = absurd e

-- nothing that comes of a find is there at the beginning
none_at_start : {is : List Instr} (at : ℕ) (m : Mark) → Hangs is at m → at ≡ 0 → ⊥
none_at_start at m (Finds k i d find e t) z = omega (arith, z)
none_at_start at m (Takes k i a d h e j t) z = omega (arith, z)
none_at_start at m (Stays k to i r h e other goes) z = let less = forward_only (may i) k to goes in omega (arith, z, less)
none_at_start at m (Parts k to i a t h e j b goes) z = let less = forward_only (may i) k to goes in omega (arith, z, less)
none_at_start at m (GoesOn k to i h e goes) z = let less = forward_only (may i) k to goes in omega (arith, z, less)

module _ (region index d : Register) (slot line : ℕ) where
  abbrev is : List Instr
  is = read_and_keep region index d slot line

  -- which instruction stands where
  at_cases : (at : ℕ) (i : Instr) → slice_get is at ≡ Some i
      → ((at ≡ 0) × (i ≡ Get d region index line)) ⊎ ((at ≡ 1) × (i ≡ StoreCur slot d)) ⊎ ((at ≡ 2) × (i ≡ Ends Finish))
  at_cases zero i e = inl (refl, cc)
  at_cases (suc zero) i e = inr (inl (refl, cc))
  at_cases (suc (suc zero)) i e = inr (inr (refl, cc))
  at_cases (suc (suc (suc at))) i e = cc

  -- the one read and the one write
  reads_array : (at : ℕ) (c : Class) → Does is at (Read c) → (at ≡ 0) × (c ≡ Array)
  reads_array at c here = elim (at_cases at here.0 here.1) [
    | inl h ↦ (h.0, by (sym (ap may h.1) ∙ here.2))
    | inr h ↦ elim h [ inl k ↦ absurd (no_write (sym (ap may k.1) ∙ here.2)) | inr k ↦ absurd (no_stop (sym (ap may k.1) ∙ here.2)) ]
  ]
    where
      by : Read Array ≡ Read c → c ≡ Array
      by h = cc

      no_write : Write (Slot slot) ≡ Read c → ⊥
      no_write h = cc

      no_stop : Stop ≡ Read c → ⊥
      no_stop h = cc

  writes_slot : (at : ℕ) (c : Class) → Does is at (Write c) → (at ≡ 1) × (c ≡ Slot slot)
  writes_slot at c here = elim (at_cases at here.0 here.1) [
    | inl h ↦ absurd (no_read (sym (ap may h.1) ∙ here.2))
    | inr h ↦ elim h [ inl k ↦ (k.0, by (sym (ap may k.1) ∙ here.2)) | inr k ↦ absurd (no_stop (sym (ap may k.1) ∙ here.2)) ]
  ]
    where
      by : Write (Slot slot) ≡ Write c → c ≡ Slot slot
      by h = cc

      no_read : Read Array ≡ Write c → ⊥
      no_read h = cc

      no_stop : Stop ≡ Write c → ⊥
      no_stop h = cc

  two_classes : Array ≡ Slot slot → ⊥
  two_classes h = cc

  new_or_slot : {o : ℕ} → New o ≡ Slot slot → ⊥
  new_or_slot h = cc

  slot_or_array : {s : ℕ} → Slot s ≡ Array → ⊥
  slot_or_array h = cc

  pub is_free : HasNoConflict is
  is_free read write c conflict =
      two_classes (sym (reads_array read c conflict.exposed.reads).1 ∙ (writes_slot write c conflict.writes).1)

  -- no path goes past the store without it
  stays_before : (from to : ℕ) → Path is (Exposes (Slot slot)) from to → from ≡ 1 → to ≡ 1
  stays_before from to (Here at) e = e
  stays_before from to (Then from' at to' m p here ok goes) e =
      let at_one = stays_before from at p e in
      let store : here.0 ≡ StoreCur slot d = elim (at_cases at here.0 here.1) [
        | inl h ↦ absurd (omega (arith, h.0, at_one))
        | inr h ↦ elim h [ inl k ↦ k.1 | inr k ↦ absurd (omega (arith, k.0, at_one)) ]
      ] in
      absurd (ok (sym here.2 ∙ ap may store))

  no_stop_there : (at : ℕ) → at ≡ 1 → IsStop is at → ⊥
  no_stop_there at e stop = by (subst (λ (k : ℕ). IsStop is k) e stop)
    where
      by : IsStop is 1 → ⊥
      by h = cc

  find_is_first : (at : ℕ) → IsFind is at → at ≡ 0
  find_is_first at (inl h) = (reads_array at Array h.1).0
  find_is_first at (inr r) = absurd (slot_or_array (reads_array at (Slot r.slot) r.loads).1)

  none_built : (at : ℕ) → builder_at is at ≡ None
  none_built zero = refl
  none_built (suc zero) = refl
  none_built (suc (suc zero)) = refl
  none_built (suc (suc (suc at))) = refl

  pub is_filled : IsFilledOnPaths is
  is_filled = record {
    none_left_out = λ find write stop c out.
        let of_slot = (writes_slot write c out.writes).1 in
        let first = find_is_first find out.finds in
        no_stop_there stop
        (stays_before (find + 1) stop (subst (λ (k : Class). Path is (Exposes k) (find + 1) stop) of_slot out.to_stop) (omega (arith, first))) out.stops;
    none_unbuilt = λ write stop word un. new_or_slot (writes_slot write (New word) un.writes).1;
    one_block = λ stop other b. none_or_some (sym (none_built other) ∙ b.some.1);
    none_hung = λ at h. elim (at_cases at h.instr h.there) [
      | inl k ↦ elim h.hangs [ inl way ↦ none_at_start at Way way k.0 | inr word ↦ none_at_start at (Word word.0.index) word.2 k.0 ]
      | inr k ↦ elim k [ inl l ↦ not_true (sym (ap may_trap l.1) ∙ h.traps) | inr l ↦ not_true (sym (ap may_trap l.1) ∙ h.traps) ]
    ];
  }
    where
      none_or_some : {A : Type 0} {x : A} → None ≡ Some x → ⊥
      none_or_some h = cc

      not_true : false ≡ true → ⊥
      not_true h = cc

pub racy_read_is_filled : RacyReadIsFilled
racy_read_is_filled = record { free = is_free; filled = is_filled }
