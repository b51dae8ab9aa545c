-- The parts of a code: they stand in their order, break no rule, and declare the code.
use Rattle.std.proofs.Common.{◌≡◌, ◌∙◌, ◌⊎◌, inl, inr, ℕ, zero, suc, ◌+◌, ◌<◌, ◌≤◌, ◌==◌, Bool, true, false, not, ◌&&◌, ◌||◌, cond, nat_lt}
use Rattle.std.proofs.Common.{nat_le, List, [], ◌∷◌, ◌++◌, map, length, slice_get, IfSome, Option, Some, None, refl, sym, ap, subst, arith}
use Rattle.std.proofs.Common.{lt-ltb, le-ltb, eqb-true, eq-eqb, ne_eqb, append_assoc, length-append}
use Rattle.std.specs.List.{All, AllByRecursion, list_any}
use Rattle.std.proofs.lemmas.Bool.{both_ways, lt-leb}
use Rattle.std.specs.Cmp.Derive.{both_true}
use Rattle.ppm_words.specs.Limits.{array_limit}
use Rattle.ppm_code.specs.declared.act.End.{End}
use Rattle.ppm_code.specs.declared.act.End.TheVariants.{Next, Finish, Trap, Call, Fork}
use Rattle.ppm_code.specs.declared.code.Capsule.{Capsule}
use Rattle.ppm_code.specs.declared.code.Procedure.{Procedure}
use Rattle.ppm_code.specs.declared.code.CodeParts.{CodeParts}
use Rattle.ppm_code.specs.declared.instr.Instr.{Instr}
use Rattle.ppm_code.specs.declared.instr.Instr.TheVariants.{Const, Move, Add, Sub, Mul, Div, Rem, Equal, NotEqual, Less, AtMost, Len, CutLeft, CutRight}
use Rattle.ppm_code.specs.declared.instr.Instr.TheVariants.{LoadSlot, StoreCur, Give, Get, Put, BranchZero, BranchNonZero, Room, StoreNew, Ends}
use Rattle.ppm_code.specs.Limits.{procedure_limit, capsule_limit, instr_limit, slot_limit, room_limit, line_limit}
use Rattle.ppm_code.specs.Sizes.{slots_of, frame_size, fork_size}
use Rattle.ppm_code.specs.Strands.{instrs_in as instrs_within, instrs_of}
use Rattle.ppm_code.specs.Code.{IsLine, room_of, IsProcedure, IsCapsuleOf, IsSlot, Fits, IsCapsule, IsCode}
use Rattle.ppm_listing.specs.Listing.{instr_line, procedure_lines, capsule_lines, lines_of}
use Rattle.ppm_listing.proofs.TextLemmas.{cons_path}
use Rattle.ppm_listing_reader.specs.declared.listing_error.Fault.TheVariants as fault
use Rattle.ppm_listing_reader.specs.declared.part.Part.{Part}
use Rattle.ppm_listing_reader.specs.declared.part.Part.TheVariants as part
use Rattle.ppm_listing_reader.specs.declared.place.Place.{Place}
use Rattle.ppm_listing_reader.specs.declared.place.Place.TheVariants.{AtVersion, AtProcedure, Within}
use Rattle.ppm_listing_reader.specs.Tokens.{is_empty}
use Rattle.ppm_listing_reader.specs.Places.{may_stand, asked, room_behind, next, standing_from, procedures_in, instrs_in, capsules_in, code_in}
use Rattle.ppm_listing_reader.specs.Faults.{is_no_line, is_no_slot, is_end, is_of, is_procedure, is_capsule_of, ends_early, is_out_of_range}
use Rattle.ppm_listing_reader.specs.Faults.{is_not_forward, is_no_end, has_wrong_room, is_not_there}
use Rattle.ppm_listing_reader.specs.Faults.{is_no_room_of, is_past_room, instr_not_there, KeepsRules}
use Rattle.ppm_listing_reader.proofs.FormLemmas.{part_line, IsWholePart}
use Rattle.ppm_listing_reader.proofs.CleanLemmas.{IsClean, AllClean}

-- the parts of procedures, of instructions, of capsules and of a code
abbrev pub procedure_parts : ℕ → List Procedure → List Part → List Part
procedure_parts first [] rest = rest
procedure_parts first (p ∷ ps) rest = part.Procedure first p.slots p.entry ∷ procedure_parts (first + 1) ps rest

abbrev pub instr_parts : List Instr → List Part → List Part
instr_parts [] rest = rest
instr_parts (i ∷ is) rest = part.Instr (Some i) ∷ instr_parts is rest

abbrev pub capsule_parts : ℕ → List Capsule → List Part
capsule_parts first [] = []
capsule_parts first (c ∷ cs) = part.Capsule first c.procedure ∷ instr_parts c.instrs (capsule_parts (first + 1) cs)

abbrev pub parts_of : CodeParts → List Part
parts_of c = part.Version ∷ part.Root c.root c.arrays ∷ procedure_parts 0 c.procedures (capsule_parts 0 c.capsules)

-- their lines are those of the code
instr_parts_lines : (is : List Instr) (rest : List Part) → map part_line (instr_parts is rest) ≡ map instr_line is ++ map part_line rest
instr_parts_lines [] rest = refl
instr_parts_lines (i ∷ is) rest = cons_path refl (instr_parts_lines is rest)

capsule_parts_lines : (first : ℕ) (cs : List Capsule) → map part_line (capsule_parts first cs) ≡ capsule_lines first cs
capsule_parts_lines first [] = refl
capsule_parts_lines first (c ∷ cs) =
    cons_path refl (instr_parts_lines c.instrs (capsule_parts (first + 1) cs) ∙ ap (λ ls. map instr_line c.instrs ++ ls) (capsule_parts_lines (first + 1) cs))

procedure_parts_lines : (first : ℕ) (ps : List Procedure) (rest : List Part)
    → map part_line (procedure_parts first ps rest) ≡ procedure_lines first ps ++ map part_line rest
procedure_parts_lines first [] rest = refl
procedure_parts_lines first (p ∷ ps) rest = cons_path refl (procedure_parts_lines (first + 1) ps rest)

pub parts_lines : (c : CodeParts) → map part_line (parts_of c) ≡ lines_of c
parts_lines c = cons_path refl (cons_path refl (procedure_parts_lines 0 c.procedures (capsule_parts 0 c.capsules)
    ∙ ap (λ ls. procedure_lines 0 c.procedures ++ ls) (capsule_parts_lines 0 c.capsules)))

-- they are whole
whole_instrs : (is : List Instr) (rest : List Part) → AllByRecursion IsWholePart rest → AllByRecursion IsWholePart (instr_parts is rest)
whole_instrs [] rest h = h
whole_instrs (i ∷ is) rest h = (tt, whole_instrs is rest h)

whole_capsules : (first : ℕ) (cs : List Capsule) → AllByRecursion IsWholePart (capsule_parts first cs)
whole_capsules first [] = tt
whole_capsules first (c ∷ cs) = (tt, whole_instrs c.instrs (capsule_parts (first + 1) cs) (whole_capsules (first + 1) cs))

whole_procedures : (first : ℕ) (ps : List Procedure) (rest : List Part) → AllByRecursion IsWholePart rest
    → AllByRecursion IsWholePart (procedure_parts first ps rest)
whole_procedures first [] rest h = h
whole_procedures first (p ∷ ps) rest h = (tt, whole_procedures (first + 1) ps rest h)

pub parts_whole : (c : CodeParts) → AllByRecursion IsWholePart (parts_of c)
parts_whole c = (tt, (tt, whole_procedures 0 c.procedures (capsule_parts 0 c.capsules) (whole_capsules 0 c.capsules)))

-- they declare the code
no_procedures_in_instrs : (is : List Instr) (rest : List Part) → procedures_in (map Some rest) ≡ [] → procedures_in (map Some (instr_parts is rest)) ≡ []
no_procedures_in_instrs [] rest h = h
no_procedures_in_instrs (i ∷ is) rest h = no_procedures_in_instrs is rest h

no_procedures_in_capsules : (first : ℕ) (cs : List Capsule) → procedures_in (map Some (capsule_parts first cs)) ≡ []
no_procedures_in_capsules first [] = refl
no_procedures_in_capsules first (c ∷ cs) = no_procedures_in_instrs c.instrs (capsule_parts (first + 1) cs) (no_procedures_in_capsules (first + 1) cs)

procedures_declared : (first : ℕ) (ps : List Procedure) (rest : List Part) → procedures_in (map Some rest) ≡ []
    → procedures_in (map Some (procedure_parts first ps rest)) ≡ ps
procedures_declared first [] rest h = h
procedures_declared first (p ∷ ps) rest h = cons_path refl (procedures_declared (first + 1) ps rest h)

capsules_behind_procedures : (first : ℕ) (ps : List Procedure) (rest : List Part)
    → capsules_in (map Some (procedure_parts first ps rest)) ≡ capsules_in (map Some rest)
capsules_behind_procedures first [] rest = refl
capsules_behind_procedures first (p ∷ ps) rest = capsules_behind_procedures (first + 1) ps rest

capsules_behind_instrs : (is : List Instr) (rest : List Part) → capsules_in (map Some (instr_parts is rest)) ≡ capsules_in (map Some rest)
capsules_behind_instrs [] rest = refl
capsules_behind_instrs (i ∷ is) rest = capsules_behind_instrs is rest

instrs_declared : (is : List Instr) (first : ℕ) (cs : List Capsule) → instrs_in (map Some (instr_parts is (capsule_parts first cs))) ≡ is
instrs_declared [] first [] = refl
instrs_declared [] first (c ∷ cs) = refl
instrs_declared (i ∷ is) first cs = cons_path refl (instrs_declared is first cs)

capsules_declared : (first : ℕ) (cs : List Capsule) → capsules_in (map Some (capsule_parts first cs)) ≡ cs
capsules_declared first [] = refl
capsules_declared first (c ∷ cs) =
    let instrs = instrs_declared c.instrs (first + 1) cs in
    cons_path (λ i. record { procedure = c.procedure; instrs = instrs i })
    (capsules_behind_instrs c.instrs (capsule_parts (first + 1) cs) ∙ capsules_declared (first + 1) cs)

pub parts_declare : (c : CodeParts) → code_in (map Some (parts_of c)) ≡ c
parts_declare c =
    let procedures = procedures_declared 0 c.procedures (capsule_parts 0 c.capsules) (no_procedures_in_capsules 0 c.capsules) in
    let capsules = capsules_behind_procedures 0 c.procedures (capsule_parts 0 c.capsules) ∙ capsules_declared 0 c.capsules in
    λ i. record { root = c.root; arrays = c.arrays; procedures = procedures i; capsules = capsules i }

either : {a b : Bool} → a ≡ false → b ≡ false → (a || b) ≡ false
either p q = λ i. p i || q i

not_true : {a : Bool} → a ≡ true → not a ≡ false
not_true p = λ i. not (p i)

module _ (code : CodeParts) where
  line_kept : (line : ℕ) → IsLine line → is_no_line line ≡ false
  line_kept line h = either (ne_eqb line 0 (λ e. omega (arith, h.0, e))) (le-ltb line_limit line h.1)

  slot_kept : (procedure : ℕ) (slot : Option ℕ) → IfSome slot (IsSlot code procedure) → is_no_slot (slots_of code procedure) slot ≡ false
  slot_kept procedure None h = refl
  slot_kept procedure (Some slot) h = lt-leb (slots_of code procedure) slot h

  procedure_kept : (procedure : ℕ) → IsProcedure code procedure → is_procedure code procedure ≡ true
  procedure_kept procedure h = lt-ltb procedure (length code.procedures) h

  capsule_kept : (procedure capsule : ℕ) → IsCapsuleOf code procedure capsule → is_capsule_of code procedure capsule ≡ true
  capsule_kept procedure capsule h = go code.capsules capsule h.0 h.1
    where
      go : (cs : List Capsule) (k : ℕ) → IfSome (slice_get cs k) (λ c. c.procedure ≡ procedure) → k < length cs → is_of procedure (slice_get cs k) ≡ true
      go [] k h within = absurd (omega (arith, within))
      go (c ∷ cs) zero h within = eq-eqb c.procedure procedure h
      go (c ∷ cs) (suc k) h within = go cs k h (omega (arith, within))

  -- the room that is asked for is known before it is taken
  size_kept : (room : Option ℕ) (known : Bool) (size : ℕ) → room ≡ Some size → is_no_room_of room known size ≡ false
  size_kept room known size h = subst (λ o. is_no_room_of o known size ≡ false) (sym h) (both known)
    where
      both : (known : Bool) → (known && not (size == size)) ≡ false
      both true = not_true (eq-eqb size size refl)
      both false = refl

  past_kept : (room : Option ℕ) (offset words : ℕ) → room ≡ Some words → offset < words → is_past_room room offset ≡ false
  past_kept room offset words h less = subst (λ o. is_past_room o offset ≡ false) (sym h) (lt-leb words offset less)

  -- an instruction that fits keeps the rules
  module _ (capsule procedure at : ℕ) (room : Option ℕ) (whole : List Instr) (same : instrs_of code capsule ≡ whole) where
    -- of a capsule that asks for room this is known, or this is the instruction that asks
    abbrev RoomFor : Instr → Type 0
    RoomFor i = (words : ℕ) → room_of whole ≡ Some words → (room ≡ Some words) ⊎ (i ≡ Room words)

    taken : (i : Instr) → ((w : ℕ) → i ≡ Room w → ⊥) → (words : ℕ) → RoomFor i → room_of whole ≡ Some words → room ≡ Some words
    taken i other words r h = go (r words h)
      where
        go : (room ≡ Some words) ⊎ (i ≡ Room words) → room ≡ Some words
        go (inl e) = e
        go (inr e) = absurd (other words e)

    range_kept : (i : Instr) → Fits code procedure whole at i → is_out_of_range code (Within capsule procedure at room) (part.Instr (Some i)) ≡ false
    range_kept (Const d n) f = refl
    range_kept (Move d a) f = refl
    range_kept (Add d a b l) f = line_kept l f
    range_kept (Sub d a b l) f = line_kept l f
    range_kept (Mul d a b l) f = line_kept l f
    range_kept (Div d a b l) f = line_kept l f
    range_kept (Rem d a b l) f = line_kept l f
    range_kept (Equal d a b) f = refl
    range_kept (NotEqual d a b) f = refl
    range_kept (Less d a b) f = refl
    range_kept (AtMost d a b) f = refl
    range_kept (Len d a) f = refl
    range_kept (CutLeft d a b l) f = line_kept l f
    range_kept (CutRight d a b l) f = line_kept l f
    range_kept (LoadSlot d s) f = lt-leb (slots_of code procedure) s f
    range_kept (StoreCur s a) f = lt-leb (slots_of code procedure) s f
    range_kept (Give a) f = refl
    range_kept (Get d a b l) f = line_kept l f
    range_kept (Put a b s l) f = line_kept l f
    range_kept (BranchZero a t) f = refl
    range_kept (BranchNonZero a t) f = refl
    range_kept (Room n) f = either (ne_eqb n 0 (λ e. omega (arith, f.1, e))) (le-ltb room_limit n f.2)
    range_kept (StoreNew o a) f = refl
    range_kept (Ends (Next k)) f = refl
    range_kept (Ends Finish) f = refl
    range_kept (Ends (Trap x l)) f = line_kept l f
    range_kept (Ends (Call q k to)) f = slot_kept procedure to f.2
    range_kept (Ends (Fork q u k left_to right_to)) f = either (slot_kept procedure left_to f.3) (slot_kept procedure right_to f.4)

    forward_kept : (i : Instr) → Fits code procedure whole at i → is_not_forward code (Within capsule procedure at room) (part.Instr (Some i)) ≡ false
    forward_kept (Const d n) f = refl
    forward_kept (Move d a) f = refl
    forward_kept (Add d a b l) f = refl
    forward_kept (Sub d a b l) f = refl
    forward_kept (Mul d a b l) f = refl
    forward_kept (Div d a b l) f = refl
    forward_kept (Rem d a b l) f = refl
    forward_kept (Equal d a b) f = refl
    forward_kept (NotEqual d a b) f = refl
    forward_kept (Less d a b) f = refl
    forward_kept (AtMost d a b) f = refl
    forward_kept (Len d a) f = refl
    forward_kept (CutLeft d a b l) f = refl
    forward_kept (CutRight d a b l) f = refl
    forward_kept (LoadSlot d s) f = refl
    forward_kept (StoreCur s a) f = refl
    forward_kept (Give a) f = refl
    forward_kept (Get d a b l) f = refl
    forward_kept (Put a b s l) f = refl
    forward_kept (BranchZero a t) f = not_true (both_true (lt-ltb at t f.0) (subst (λ l. nat_lt t (length l) ≡ true) (sym same) (lt-ltb t (length whole) f.1)))
    forward_kept (BranchNonZero a t) f = not_true (both_true (lt-ltb at t f.0) (subst (λ l. nat_lt t (length l) ≡ true) (sym same)
        (lt-ltb t (length whole) f.1)))
    forward_kept (Room n) f = refl
    forward_kept (StoreNew o a) f = refl
    forward_kept (Ends (Next k)) f = refl
    forward_kept (Ends Finish) f = refl
    forward_kept (Ends (Trap x l)) f = refl
    forward_kept (Ends (Call q k to)) f = refl
    forward_kept (Ends (Fork q u k left_to right_to)) f = refl

    room_kept : (i : Instr) → Fits code procedure whole at i → RoomFor i → has_wrong_room code (Within capsule procedure at room) (part.Instr (Some i)) ≡ false
    room_kept (Const d n) f r = refl
    room_kept (Move d a) f r = refl
    room_kept (Add d a b l) f r = refl
    room_kept (Sub d a b l) f r = refl
    room_kept (Mul d a b l) f r = refl
    room_kept (Div d a b l) f r = refl
    room_kept (Rem d a b l) f r = refl
    room_kept (Equal d a b) f r = refl
    room_kept (NotEqual d a b) f r = refl
    room_kept (Less d a b) f r = refl
    room_kept (AtMost d a b) f r = refl
    room_kept (Len d a) f r = refl
    room_kept (CutLeft d a b l) f r = refl
    room_kept (CutRight d a b l) f r = refl
    room_kept (LoadSlot d s) f r = refl
    room_kept (StoreCur s a) f r = refl
    room_kept (Give a) f r = refl
    room_kept (Get d a b l) f r = refl
    room_kept (Put a b s l) f r = refl
    room_kept (BranchZero a t) f r = refl
    room_kept (BranchNonZero a t) f r = refl
    room_kept (Room n) f r = not_true (eq-eqb at 0 f.0)
    room_kept (StoreNew o a) f r = past_kept room o f.0 (taken (StoreNew o a) (λ w h. cc) f.0 r f.1) f.2
    room_kept (Ends (Next k)) f r = refl
    room_kept (Ends Finish) f r = refl
    room_kept (Ends (Trap x l)) f r = refl
    room_kept (Ends (Call q k to)) f r = size_kept room (is_procedure code q) (frame_size code q)
        (taken (Ends (Call q k to)) (λ w h. cc) (frame_size code q) r f.3)
    room_kept (Ends (Fork q u k left_to right_to)) f r = size_kept room (is_procedure code q && is_procedure code u) (fork_size code q u)
        (taken (Ends (Fork q u k left_to right_to)) (λ w h. cc) (fork_size code q u) r f.5)

    names_kept : (i : Instr) → Fits code procedure whole at i → instr_not_there code procedure i ≡ false
    names_kept (Const d n) f = refl
    names_kept (Move d a) f = refl
    names_kept (Add d a b l) f = refl
    names_kept (Sub d a b l) f = refl
    names_kept (Mul d a b l) f = refl
    names_kept (Div d a b l) f = refl
    names_kept (Rem d a b l) f = refl
    names_kept (Equal d a b) f = refl
    names_kept (NotEqual d a b) f = refl
    names_kept (Less d a b) f = refl
    names_kept (AtMost d a b) f = refl
    names_kept (Len d a) f = refl
    names_kept (CutLeft d a b l) f = refl
    names_kept (CutRight d a b l) f = refl
    names_kept (LoadSlot d s) f = refl
    names_kept (StoreCur s a) f = refl
    names_kept (Give a) f = refl
    names_kept (Get d a b l) f = refl
    names_kept (Put a b s l) f = refl
    names_kept (BranchZero a t) f = refl
    names_kept (BranchNonZero a t) f = refl
    names_kept (Room n) f = refl
    names_kept (StoreNew o a) f = refl
    names_kept (Ends (Next k)) f = not_true (capsule_kept procedure k f)
    names_kept (Ends Finish) f = refl
    names_kept (Ends (Trap x l)) f = refl
    names_kept (Ends (Call q k to)) f = not_true (both_true (procedure_kept q f.0) (capsule_kept procedure k f.1))
    names_kept (Ends (Fork q u k left_to right_to)) f = not_true (both_true (both_true (procedure_kept q f.0) (procedure_kept u f.1))
        (capsule_kept procedure k f.2))

    end_kept : (full end : Bool) → (full ≡ true → end ≡ true) → (full && not end) ≡ false
    end_kept true end h = not_true (h refl)
    end_kept false end h = refl

    instr_clean : (i : Instr) → Fits code procedure whole at i → RoomFor i → at < instr_limit → (at + 1 ≡ length whole → is_end i ≡ true)
        → IsClean code (Within capsule procedure at room) (part.Instr (Some i))
    instr_clean i f r few last = record {
      stands = refl;
      range = range_kept i f;
      forward = forward_kept i f;
      end = end_kept (at + 1 == length (instrs_of code capsule)) (is_end i) (λ e. last (eqb-true (at + 1) (length (instrs_of code capsule)) e
          ∙ ap length same));
      room = room_kept i f r;
      there = either (lt-leb instr_limit at few) (names_kept i f);
    }

  -- the last of some instructions
  abbrev last_of : Instr → List Instr → Instr
  last_of d [] = d
  last_of d (i ∷ is) = last_of i is

  last_of-append : (d : Instr) (front : List Instr) (x : Instr) → last_of d (front ++ x ∷ []) ≡ x
  last_of-append d [] x = refl
  last_of-append d (i ∷ front) x = last_of-append i front x

  nothing_behind : (is : List Instr) (n m : ℕ) → n + length is ≡ m → n ≡ m → is ≡ []
  nothing_behind [] n m e h = refl
  nothing_behind (i ∷ is) n m e h = absurd (omega (arith, e, h))

  last_ends : (whole front is : List Instr) (i : Instr) → whole ≡ front ++ i ∷ is
      → (before : List Instr) × (e : End) × (whole ≡ before ++ (Ends e ∷ [])) → length front + 1 ≡ length whole → is_end i ≡ true
  last_ends whole front is i e (before, x, ends) full =
      let none = nothing_behind is (length front + 1) (length whole) (omega (arith, ap length e, length-append front (i ∷ is))) full in
      let one : i ≡ Ends x = sym (last_of-append i front i) ∙ ap (last_of i) (sym (e ∙ ap (λ l. front ++ i ∷ l) none) ∙ ends)
      ∙ last_of-append i before (Ends x) in
      ap is_end one

  first_room : (i : Instr) (is : List Instr) (words : ℕ) → room_of (i ∷ is) ≡ Some words → i ≡ Room words
  first_room (Const d n) is words h = cc
  first_room (Move d a) is words h = cc
  first_room (Add d a b l) is words h = cc
  first_room (Sub d a b l) is words h = cc
  first_room (Mul d a b l) is words h = cc
  first_room (Div d a b l) is words h = cc
  first_room (Rem d a b l) is words h = cc
  first_room (Equal d a b) is words h = cc
  first_room (NotEqual d a b) is words h = cc
  first_room (Less d a b) is words h = cc
  first_room (AtMost d a b) is words h = cc
  first_room (Len d a) is words h = cc
  first_room (CutLeft d a b l) is words h = cc
  first_room (CutRight d a b l) is words h = cc
  first_room (LoadSlot d s) is words h = cc
  first_room (StoreCur s a) is words h = cc
  first_room (Give a) is words h = cc
  first_room (Get d a b l) is words h = cc
  first_room (Put a b s l) is words h = cc
  first_room (BranchZero a t) is words h = cc
  first_room (BranchNonZero a t) is words h = cc
  first_room (StoreNew o a) is words h = cc
  first_room (Ends e) is words h = cc
  first_room (Room n) is words h = let same : n ≡ words = cc in ap Room same

  -- after the first instruction of a capsule its room is known
  abbrev RoomSo : List Instr → Option ℕ → List Instr → Type 0
  RoomSo [] room whole = Unit {0}
  RoomSo (x ∷ front) room whole = (words : ℕ) → room_of whole ≡ Some words → room ≡ Some words

  room_for : (front is whole : List Instr) (i : Instr) (room : Option ℕ) → whole ≡ front ++ i ∷ is → RoomSo front room whole
      → (words : ℕ) → room_of whole ≡ Some words → (room ≡ Some words) ⊎ (i ≡ Room words)
  room_for [] is whole i room e r words h = inr (first_room i is words (sym (ap room_of e) ∙ h))
  room_for (x ∷ front) is whole i room e r words h = inl (r words h)

  room_more : (front is whole : List Instr) (i : Instr) (room : Option ℕ) → whole ≡ front ++ i ∷ is → RoomSo front room whole
      → RoomSo (front ++ i ∷ []) (room_behind (length front) (Some i) room) whole
  room_more [] is whole i room e r = λ words h. ap (λ j. asked (Some j)) (first_room i is words (sym (ap room_of e) ∙ h))
  room_more (x ∷ front) is whole i room e r = r

  got_behind : {X : Type 0} (front : List X) (x : X) (rest : List X) → slice_get (front ++ x ∷ rest) (length front) ≡ Some x
  got_behind [] x rest = refl
  got_behind (y ∷ front) x rest = got_behind front x rest

  -- the instructions of a capsule
  walk_instrs : (capsule procedure : ℕ) (room : Option ℕ) (c : Capsule) (front is : List Instr) (rest : List Part) → c.procedure ≡ procedure
      → c.instrs ≡ front ++ is
      → instrs_of code capsule ≡ c.instrs → RoomSo front room c.instrs → IsCapsule code c
      → ((at : ℕ) (after : Option ℕ) → AllClean code (Within capsule procedure at after) rest)
      → AllClean code (Within capsule procedure (length front) room) (instr_parts is rest)
  walk_instrs capsule procedure room c front [] rest own e same r whole more = more (length front) room
  walk_instrs capsule procedure room c front (i ∷ is) rest own e same r whole more =
      let longer : length front + 1 ≡ length (front ++ i ∷ []) = omega (arith, length-append front (i ∷ [])) in
      let fits = whole.each (length front) i (ap (λ l. slice_get l (length front)) e ∙ got_behind front i is) in (
        instr_clean capsule procedure (length front) room c.instrs same i (subst (λ p. Fits code p c.instrs (length front) i) own fits)
            (room_for front is c.instrs i room e r) (omega (arith, whole.most, ap length e, length-append front (i ∷ is)))
            (last_ends c.instrs front is i e whole.last),
        subst (λ n. AllClean code (Within capsule procedure n (room_behind (length front) (Some i) room)) (instr_parts is rest)) (sym longer)
            (walk_instrs capsule procedure (room_behind (length front) (Some i) room) c (front ++ i ∷ []) is rest own (e
            ∙ sym (append_assoc front (i ∷ []) is)) same
            (room_more front is c.instrs i room e r) whole more),
      )

  no_empty : (is : List Instr) → (before : List Instr) × (e : End) × (is ≡ before ++ (Ends e ∷ [])) → is_empty is ≡ false
  no_empty [] (before, x, e) = absurd (omega (arith, ap length e, length-append before (Ends x ∷ [])))
  no_empty (i ∷ is) h = refl

  -- the line of a capsule
  module _ (number : ℕ) (c : Capsule) (whole : IsCapsule code c) (own : instrs_of code number ≡ c.instrs) (few : number < capsule_limit) where
    capsule_there : (nat_le capsule_limit number || not (is_procedure code c.procedure)) ≡ false
    capsule_there = either (lt-leb capsule_limit number few) (not_true (procedure_kept c.procedure whole.procedure))

    capsule_ends : is_empty (instrs_of code number) ≡ false
    capsule_ends = ap is_empty own ∙ no_empty c.instrs whole.last

  own_instrs : (pre cs : List Capsule) (c : Capsule) (number : ℕ) → code.capsules ≡ pre ++ c ∷ cs → length pre ≡ number → instrs_of code number ≡ c.instrs
  own_instrs pre cs c number e n = ap instrs_within (ap (slice_get code.capsules) (sym n) ∙ ap (λ l. slice_get l (length pre)) e ∙ got_behind pre c cs)

  walk_capsules : (capsule procedure at : ℕ) (room : Option ℕ) (pre cs : List Capsule) → code.capsules ≡ pre ++ cs → length pre ≡ capsule + 1
      → length code.capsules ≤ capsule_limit → AllByRecursion (IsCapsule code) cs
      → AllClean code (Within capsule procedure at room) (capsule_parts (capsule + 1) cs)
  walk_capsules capsule procedure at room pre [] e n few each = refl
  walk_capsules capsule procedure at room pre (c ∷ cs) e n few each =
      let own = own_instrs pre cs c (capsule + 1) e n in
      let less : capsule + 1 < capsule_limit = omega (arith, few, ap length e, length-append pre (c ∷ cs), n) in (
        record {
          stands = eq-eqb (capsule + 1) (capsule + 1) refl;
          range = refl;
          forward = refl;
          end = capsule_ends (capsule + 1) c each.0 own less;
          room = refl;
          there = capsule_there (capsule + 1) c each.0 own less;
        },
        walk_instrs (capsule + 1) c.procedure None c [] c.instrs (capsule_parts (capsule + 1 + 1) cs) refl refl own tt each.0
            (λ m after. walk_capsules (capsule + 1) c.procedure m after (pre ++ c ∷ []) cs (e
            ∙ sym (append_assoc pre (c ∷ []) cs)) (omega (arith, n, length-append pre (c ∷ []))) few each.1),
      )

  first_capsule : (number : ℕ) (cs : List Capsule) → code.capsules ≡ cs → 0 < length cs → length code.capsules ≤ capsule_limit
      → AllByRecursion (IsCapsule code) cs
      → AllClean code (AtProcedure number) (capsule_parts 0 cs)
  first_capsule number [] e some few each = absurd (omega (arith, some))
  first_capsule number (c ∷ cs) e some few each =
      let own = own_instrs [] cs c 0 e refl in
      let less : 0 < capsule_limit = omega arith in (
        record {
          stands = refl;
          range = refl;
          forward = refl;
          end = capsule_ends 0 c each.0 own less;
          room = refl;
          there = capsule_there 0 c each.0 own less;
        },
        walk_instrs 0 c.procedure None c [] c.instrs (capsule_parts 1 cs) refl refl own tt each.0
            (λ m after. walk_capsules 0 c.procedure m after (c ∷ []) cs e refl few each.1),
      )

  walk_procedures : (first : ℕ) (pre ps : List Procedure) (rest : List Part) → code.procedures ≡ pre ++ ps → length pre ≡ first
      → length code.procedures ≤ procedure_limit
      → AllByRecursion (λ (p : Procedure). p.slots ≤ slot_limit) ps
      → ((k : ℕ) → IfSome (slice_get code.procedures k) (λ p. IsCapsuleOf code k p.entry)) → ((n : ℕ) → AllClean code (AtProcedure n) rest)
      → AllClean code (AtProcedure first) (procedure_parts first ps rest)
  walk_procedures first pre [] rest e n few slots entries more = more first
  walk_procedures first pre (p ∷ ps) rest e n few slots entries more =
      let less : first < procedure_limit = omega (arith, few, ap length e, length-append pre (p ∷ ps), n) in
      let got : slice_get code.procedures first ≡ Some p = ap (slice_get code.procedures) (sym n) ∙ ap (λ l. slice_get l (length pre)) e
      ∙ got_behind pre p ps in (
        record {
          stands = eq-eqb first first refl;
          range = le-ltb slot_limit p.slots slots.0;
          forward = refl;
          end = refl;
          room = refl;
          there = either (lt-leb procedure_limit first less) (not_true (capsule_kept first p.entry
              (subst (λ o. IfSome o (λ q. IsCapsuleOf code first q.entry)) got (entries first))));
        },
        walk_procedures (first + 1) (pre ++ p ∷ []) ps rest (e ∙ sym (append_assoc pre (p ∷ []) ps)) (omega (arith, n, length-append pre (p ∷ [])))
            few slots.1 entries more,
      )

  none_past : (xs : List ℕ) → All (λ a. a < array_limit) xs → list_any (λ a. nat_le array_limit a) xs ≡ false
  none_past [] h = refl
  none_past (x ∷ xs) h = either (lt-leb array_limit x (h 0 0 (omega arith))) (none_past xs (λ k d l. h (suc k) d (omega (arith, l))))

  and_false : (a b : Bool) → b ≡ false → (a && b) ≡ false
  and_false true b h = h
  and_false false b h = refl

  some_capsule : IsCode code → 0 < length code.capsules
  some_capsule is = go code.procedures code.root is.root (is.entries code.root)
    where
      go : (ps : List Procedure) (k : ℕ) → k < length ps → IfSome (slice_get ps k) (λ p. IsCapsuleOf code code.root p.entry) → 0 < length code.capsules
      go [] k within h = absurd (omega (arith, within))
      go (p ∷ ps) zero within h = omega (arith, h.1)
      go (p ∷ ps) (suc k) within h = go ps k (omega (arith, within)) h

  by_all : {X : Type 0} (P : X → Type 0) (xs : List X) → All P xs → AllByRecursion P xs
  by_all P [] h = tt
  by_all P (x ∷ xs) h = (h 0 x (omega arith), by_all P xs (λ k d l. h (suc k) d (omega (arith, l))))

  pub parts_clean : IsCode code → AllClean code AtVersion (parts_of code)
  parts_clean is = (
    record { stands = refl; range = refl; forward = refl; end = refl; room = refl; there = refl },
    (
      record {
        stands = refl;
        range = either (none_past code.arrays is.arrays)
            (and_false (is_procedure code code.root) (nat_lt (slots_of code code.root) (length code.arrays))
            (le-ltb (slots_of code code.root) (length code.arrays) is.root_slots));
        forward = refl;
        end = refl;
        room = refl;
        there = not_true (procedure_kept code.root is.root);
      },
      walk_procedures 0 [] code.procedures (capsule_parts 0 code.capsules) refl refl is.procedures_most
          (by_all (λ (p : Procedure). p.slots ≤ slot_limit) code.procedures is.slots_most) is.entries
          (λ n. first_capsule n code.capsules refl (some_capsule is) is.capsules_most (by_all (IsCapsule code) code.capsules is.capsules)),
    ),
  )

  -- clean parts break no rule
  pub clean_stands : (place : Place) (xs : List Part) → AllClean code place xs → standing_from place (map Some xs) ≡ map Some xs
  clean_stands place [] h = refl
  clean_stands place (x ∷ xs) h = go (may_stand place x) h.0.stands (clean_stands (next place (Some x)) xs h.1)
    where
      go : (t : Bool) → t ≡ true → standing_from (next place (Some x)) (map Some xs) ≡ map Some xs
          → cond t (Some x) None ∷ standing_from (next place (cond t (Some x) None)) (map Some xs) ≡ Some x ∷ map Some xs
      go true e h = ap (λ l. Some x ∷ l) h
      go false e h = absurd (both_ways false refl e)

  pub clean_keeps : (place : Place) (xs : List Part) → AllClean code place xs → KeepsRules code place (map Some xs)
  clean_keeps place [] h fault.NotThere zero b = both_ways (ends_early fault.NotThere place) h b
  clean_keeps place [] h fault.NoSuchForm zero b = both_ways false refl b
  clean_keeps place [] h fault.OutOfRange zero b = both_ways false refl b
  clean_keeps place [] h fault.NotForward zero b = both_ways false refl b
  clean_keeps place [] h fault.NoEnd zero b = both_ways false refl b
  clean_keeps place [] h fault.WrongRoom zero b = both_ways false refl b
  clean_keeps place [] h rule (suc n) b = b
  clean_keeps place (x ∷ xs) h fault.NoSuchForm zero b = both_ways false refl b
  clean_keeps place (x ∷ xs) h fault.OutOfRange zero b = both_ways (is_out_of_range code place x) h.0.range b
  clean_keeps place (x ∷ xs) h fault.NotForward zero b = both_ways (is_not_forward code place x) h.0.forward b
  clean_keeps place (x ∷ xs) h fault.NoEnd zero b = both_ways (is_no_end code place x) h.0.end b
  clean_keeps place (x ∷ xs) h fault.WrongRoom zero b = both_ways (has_wrong_room code place x) h.0.room b
  clean_keeps place (x ∷ xs) h fault.NotThere zero b = both_ways (is_not_there code place x) h.0.there b
  clean_keeps place (x ∷ xs) h rule (suc n) b = clean_keeps (next place (Some x)) xs h.1 rule n b
