-- Lines that break no rule: each has a form and stands, so they are the parts of a code.
use Rattle.std.proofs.Common.{◌≡◌, ◌∙◌, ℕ, zero, suc, ◌<◌, ◌≤◌, ◌==◌, Bool, true, false, ◌&&◌, ◌||◌, cond, nat_lt, nat_le, IsTrue, List, [], ◌∷◌}
use Rattle.std.proofs.Common.{◌++◌, map, length, slice_get, IfSome, Option, Some, None, refl, ap, arith}
use Rattle.std.proofs.Common.{ltb-true, ltb-false, leb-false, eqb-true}
use Rattle.std.proofs.lemmas.Bool.{both_ways, not-false}
use Rattle.ppm_code.specs.declared.act.End.{End}
use Rattle.ppm_code.specs.declared.act.End.TheVariants.{Next, Finish, Trap, Call, Fork}
use Rattle.ppm_code.specs.declared.code.Capsule.{Capsule}
use Rattle.ppm_code.specs.declared.code.CodeParts.{CodeParts}
use Rattle.ppm_code.specs.declared.instr.Instr.{Instr}
use Rattle.ppm_code.specs.declared.instr.Instr.TheVariants.{Const, Move, Add, Sub, Mul, Div, Rem, Equal, NotEqual, Less, AtMost, Len, CutLeft, CutRight}
use Rattle.ppm_code.specs.declared.instr.Instr.TheVariants.{LoadSlot, StoreCur, Give, Get, Put, BranchZero, BranchNonZero, Room, StoreNew, Ends}
use Rattle.ppm_code.specs.Limits.{instr_limit, room_limit, line_limit}
use Rattle.ppm_code.specs.Sizes.{slots_of, frame_size, fork_size}
use Rattle.ppm_code.specs.Strands.{instrs_of}
use Rattle.ppm_code.specs.Code.{IsLine, room_of, IsProcedure, IsCapsuleOf, IsSlot, EndFits, Fits}
use Rattle.ppm_listing_reader.specs.declared.listing_error.Fault.TheVariants as fault
use Rattle.ppm_listing_reader.specs.declared.part.Part.{Part}
use Rattle.ppm_listing_reader.specs.declared.part.Part.TheVariants as part
use Rattle.ppm_listing_reader.specs.declared.place.Place.{Place}
use Rattle.ppm_listing_reader.specs.declared.place.Place.TheVariants.{Within}
use Rattle.ppm_listing_reader.specs.Places.{may_stand, room_behind, next, standing_from}
use Rattle.ppm_listing_reader.specs.Faults.{is_no_line, is_no_slot, is_of, is_procedure, is_capsule_of, ends_early, is_out_of_range, is_not_forward}
use Rattle.ppm_listing_reader.specs.Faults.{is_no_end, has_wrong_room, is_not_there}
use Rattle.ppm_listing_reader.specs.Faults.{is_no_room_of, is_past_room, branches_badly, KeepsRules}
use Rattle.ppm_pieces.proofs.NumberLemmas.{both_parts}

yes : {A : Type 0} → true ≡ false → A
yes h = absurd (both_ways true h refl)

no : {A : Type 0} → false ≡ true → A
no h = absurd (both_ways false refl h)

-- neither test is passed
pub neither : (a b : Bool) → (a || b) ≡ false → (a ≡ false) × (b ≡ false)
neither true b h = yes h
neither false b h = (refl, h)

-- what is not so is false
to_false : (t : Bool) → (IsTrue t → ⊥) → t ≡ false
to_false true h = absurd (h refl)
to_false false h = refl

module _ (code : CodeParts) where
  -- a part stands at a place and breaks no rule there
  pub record IsClean (place : Place) (x : Part) : Type 0 where
    pub stands : may_stand place x ≡ true
    pub range : is_out_of_range code place x ≡ false
    pub forward : is_not_forward code place x ≡ false
    pub end : is_no_end code place x ≡ false
    pub room : has_wrong_room code place x ≡ false
    pub there : is_not_there code place x ≡ false

  abbrev pub AllClean : Place → List Part → Type 0
  AllClean place [] = ends_early fault.NotThere place ≡ false
  AllClean place (x ∷ xs) = IsClean place x × AllClean (next place (Some x)) xs

  -- all lines are parts that stand at their places and break no rule there
  pub record AreClean (place : Place) (ls standing : List (Option Part)) : Type 0 where
    pub parts : List Part
    pub lines : ls ≡ map Some parts
    pub standing_lines : standing ≡ map Some parts
    pub clean : AllClean place parts

  pub all_clean : (place : Place) (ls : List (Option Part)) → KeepsRules code place (standing_from place ls) → AreClean place ls (standing_from place ls)
  all_clean place [] h = record {
    parts = [];
    lines = refl;
    standing_lines = refl;
    clean = to_false (ends_early fault.NotThere place) (h fault.NotThere 0);
  }
  all_clean place (None ∷ ls) h = absurd (h fault.NoSuchForm 0 refl)
  all_clean place (Some x ∷ ls) h = go (may_stand place x) refl h (all_clean (next place (Some x)) ls)
    where
      go : (t : Bool) → may_stand place x ≡ t
          → KeepsRules code place (cond t (Some x) None ∷ standing_from (next place (cond t (Some x) None)) ls)
          → (KeepsRules code (next place (Some x)) (standing_from (next place (Some x)) ls)
          → AreClean (next place (Some x)) ls (standing_from (next place (Some x)) ls))
          → AreClean place (Some x ∷ ls) (cond t (Some x) None ∷ standing_from (next place (cond t (Some x) None)) ls)
      go false e h more = absurd (h fault.NoSuchForm 0 refl)
      go true e h more =
          let rest = more (λ rule number b. h rule (suc number) b) in
          record {
            parts = x ∷ rest.parts;
            lines = ap (λ l. Some x ∷ l) rest.lines;
            standing_lines = ap (λ l. Some x ∷ l) rest.standing_lines;
            clean = (
              record {
                stands = e;
                range = to_false (is_out_of_range code place x) (h fault.OutOfRange 0);
                forward = to_false (is_not_forward code place x) (h fault.NotForward 0);
                end = to_false (is_no_end code place x) (h fault.NoEnd 0);
                room = to_false (has_wrong_room code place x) (h fault.WrongRoom 0);
                there = to_false (is_not_there code place x) (h fault.NotThere 0);
              },
              rest.clean,
            );
          }

  -- tests and what they say
  line_there : (line : ℕ) → is_no_line line ≡ false → IsLine line
  line_there line h =
      let tests = neither (line == 0) (nat_lt line_limit line) h in
      (above_zero line tests.0, ltb-false line_limit line tests.1)
    where
      above_zero : (n : ℕ) → (n == 0) ≡ false → 1 ≤ n
      above_zero zero e = yes e
      above_zero (suc n) e = omega arith

  slot_there : (procedure : ℕ) (slot : Option ℕ) → is_no_slot (slots_of code procedure) slot ≡ false → IfSome slot (IsSlot code procedure)
  slot_there procedure None h = tt
  slot_there procedure (Some slot) h = leb-false (slots_of code procedure) slot h

  pub capsule_there : (procedure capsule : ℕ) → is_capsule_of code procedure capsule ≡ true → IsCapsuleOf code procedure capsule
  capsule_there procedure capsule h = go code.capsules capsule h
    where
      go : (cs : List Capsule) (capsule : ℕ) → is_of procedure (slice_get cs capsule) ≡ true
          → IfSome (slice_get cs capsule) (λ c. c.procedure ≡ procedure) × (capsule < length cs)
      go [] capsule h = no h
      go (c ∷ cs) zero h = (eqb-true c.procedure procedure h, omega arith)
      go (c ∷ cs) (suc k) h = let (is, within) = go cs k h in (is, omega (arith, within))

  pub procedure_there : (procedure : ℕ) → is_procedure code procedure ≡ true → IsProcedure code procedure
  procedure_there procedure h = ltb-true procedure (length code.procedures) h

  branch_there : (at target : ℕ) (is whole : List Instr) → is ≡ whole → branches_badly at (length is) target ≡ false → (at < target) × (target < length whole)
  branch_there at target is whole same h =
      let tests = both_parts (nat_lt at target) (nat_lt target (length is)) (not-false (nat_lt at target && nat_lt target (length is)) h) in
      (ltb-true at target tests.0, omega (arith, ltb-true target (length is) tests.1, ap length same))

  -- the room is that of the capsule
  abbrev pub RoomIs : Option ℕ → List Instr → Type 0
  RoomIs room whole = (words : ℕ) → room ≡ Some words → room_of whole ≡ Some words

  size_asked : (room : Option ℕ) (known : Bool) (size : ℕ) (whole : List Instr) → RoomIs room whole → known ≡ true → is_no_room_of room known size ≡ false
      → room_of whole ≡ Some size
  size_asked None known size whole r k h = yes h
  size_asked (Some words) true size whole r k h = r words refl ∙ ap Some (eqb-true words size (not-false (words == size) h))
  size_asked (Some words) false size whole r k h = no k

  within_room : (room : Option ℕ) (offset : ℕ) (whole : List Instr) → RoomIs room whole → is_past_room room offset ≡ false
      → (words : ℕ) × (room_of whole ≡ Some words) × (offset < words)
  within_room None offset whole r h = yes h
  within_room (Some words) offset whole r h = (words, r words refl, leb-false words offset h)

  -- an instruction that breaks no rule fits
  module _ (capsule procedure at : ℕ) (room : Option ℕ) (whole : List Instr) (same : instrs_of code capsule ≡ whole) (r : RoomIs room whole) where
    end_fits : (e : End) → IsClean (Within capsule procedure at room) (part.Instr (Some (Ends e))) → EndFits code procedure whole e
    end_fits (Next k) clean = capsule_there procedure k (not-false (is_capsule_of code procedure k) (neither (nat_le instr_limit at) _ clean.there).1)
    end_fits Finish clean = tt
    end_fits (Trap trap line) clean = line_there line clean.range
    end_fits (Call callee k to) clean =
        let there = both_parts (is_procedure code callee) (is_capsule_of code procedure k)
        (not-false (is_procedure code callee && is_capsule_of code procedure k) (neither (nat_le instr_limit at) _ clean.there).1) in (
          procedure_there callee there.0,
          capsule_there procedure k there.1,
          slot_there procedure to clean.range,
          size_asked room
              (is_procedure code callee) (frame_size code callee) whole r there.0 clean.room,
        )
    end_fits (Fork left right k left_to right_to) clean =
        let outer = both_parts (is_procedure code left && is_procedure code right) (is_capsule_of code procedure k)
        (not-false (is_procedure code left && is_procedure code right && is_capsule_of code procedure k) (neither (nat_le instr_limit at) _ clean.there).1) in
        let inner = both_parts (is_procedure code left) (is_procedure code right) outer.0 in
        let slots = neither (is_no_slot (slots_of code procedure) left_to) (is_no_slot (slots_of code procedure) right_to) clean.range in (
          procedure_there left inner.0,
          procedure_there right inner.1,
          capsule_there procedure k outer.1,
          slot_there procedure left_to slots.0,
          slot_there procedure right_to slots.1,
          size_asked room (is_procedure code left && is_procedure code right) (fork_size code left right) whole r outer.0 clean.room,
        )

    pub instr_fits : (i : Instr) → IsClean (Within capsule procedure at room) (part.Instr (Some i)) → Fits code procedure whole at i
    instr_fits (Const d n) clean = tt
    instr_fits (Move d a) clean = tt
    instr_fits (Add d a b line) clean = line_there line clean.range
    instr_fits (Sub d a b line) clean = line_there line clean.range
    instr_fits (Mul d a b line) clean = line_there line clean.range
    instr_fits (Div d a b line) clean = line_there line clean.range
    instr_fits (Rem d a b line) clean = line_there line clean.range
    instr_fits (Equal d a b) clean = tt
    instr_fits (NotEqual d a b) clean = tt
    instr_fits (Less d a b) clean = tt
    instr_fits (AtMost d a b) clean = tt
    instr_fits (Len d a) clean = tt
    instr_fits (CutLeft d a b line) clean = line_there line clean.range
    instr_fits (CutRight d a b line) clean = line_there line clean.range
    instr_fits (LoadSlot d i) clean = leb-false (slots_of code procedure) i clean.range
    instr_fits (StoreCur i a) clean = leb-false (slots_of code procedure) i clean.range
    instr_fits (Give a) clean = tt
    instr_fits (Get d a b line) clean = line_there line clean.range
    instr_fits (Put a b s line) clean = line_there line clean.range
    instr_fits (BranchZero a t) clean = branch_there at t (instrs_of code capsule) whole same clean.forward
    instr_fits (BranchNonZero a t) clean = branch_there at t (instrs_of code capsule) whole same clean.forward
    instr_fits (Room n) clean =
        let tests = neither (n == 0) (nat_lt room_limit n) clean.range in
        (eqb-true at 0 (not-false (at == 0) clean.room), above_zero n tests.0, ltb-false room_limit n tests.1)
      where
        above_zero : (n : ℕ) → (n == 0) ≡ false → 1 ≤ n
        above_zero zero e = yes e
        above_zero (suc n) e = omega arith
    instr_fits (StoreNew o a) clean = within_room room o whole r clean.room
    instr_fits (Ends e) clean = end_fits e clean

  -- the room after an instruction is that of the capsule too
  pub room_kept : (front : List Instr) (i : Instr) (rest whole : List Instr) (room : Option ℕ) → whole ≡ front ++ i ∷ rest → RoomIs room whole
      → RoomIs (room_behind (length front) (Some i) room) whole
  room_kept (x ∷ front) i rest whole room e r words h = r words h
  room_kept [] (Room n) rest whole room e r words h = ap room_of e ∙ h
  room_kept [] (Const d n) rest whole room e r words h = cc
  room_kept [] (Move d a) rest whole room e r words h = cc
  room_kept [] (Add d a b l) rest whole room e r words h = cc
  room_kept [] (Sub d a b l) rest whole room e r words h = cc
  room_kept [] (Mul d a b l) rest whole room e r words h = cc
  room_kept [] (Div d a b l) rest whole room e r words h = cc
  room_kept [] (Rem d a b l) rest whole room e r words h = cc
  room_kept [] (Equal d a b) rest whole room e r words h = cc
  room_kept [] (NotEqual d a b) rest whole room e r words h = cc
  room_kept [] (Less d a b) rest whole room e r words h = cc
  room_kept [] (AtMost d a b) rest whole room e r words h = cc
  room_kept [] (Len d a) rest whole room e r words h = cc
  room_kept [] (CutLeft d a b l) rest whole room e r words h = cc
  room_kept [] (CutRight d a b l) rest whole room e r words h = cc
  room_kept [] (LoadSlot d s) rest whole room e r words h = cc
  room_kept [] (StoreCur s a) rest whole room e r words h = cc
  room_kept [] (Give a) rest whole room e r words h = cc
  room_kept [] (Get d a b l) rest whole room e r words h = cc
  room_kept [] (Put a b s l) rest whole room e r words h = cc
  room_kept [] (BranchZero a t) rest whole room e r words h = cc
  room_kept [] (BranchNonZero a t) rest whole room e r words h = cc
  room_kept [] (StoreNew o a) rest whole room e r words h = cc
  room_kept [] (Ends x) rest whole room e r words h = cc
