-- A rule holds of a code where it holds of its outline.
use Rattle.std.proofs.Common.{◌≡◌, ◌∙◌, ℕ, zero, suc, ◌+◌, ◌==◌, not, ◌&&◌, ◌||◌, nat_le, IsTrue}
use Rattle.std.proofs.Common.{List, [], ◌∷◌, map, length, slice_get, Option, Some, None, refl, sym, ap, subst}
use Rattle.std.specs.Option.{option_map}
use Rattle.std.proofs.lemmas.Option.{slice_get-map}
use Rattle.ppm_code.specs.declared.act.End.TheVariants.{Next, Finish, Trap, Call, Fork}
use Rattle.ppm_code.specs.declared.code.Capsule.{Capsule}
use Rattle.ppm_code.specs.declared.code.CodeParts.{CodeParts}
use Rattle.ppm_code.specs.declared.instr.Instr.{Instr}
use Rattle.ppm_code.specs.declared.instr.Instr.TheVariants.{Const, Move, Add, Sub, Mul, Div, Rem, Equal, NotEqual, Less, AtMost, Len, CutLeft, CutRight}
use Rattle.ppm_code.specs.declared.instr.Instr.TheVariants.{LoadSlot, StoreCur, Give, Get, Put, BranchZero, BranchNonZero, Room, StoreNew, Ends}
use Rattle.ppm_code.specs.Limits.{procedure_limit, instr_limit}
use Rattle.ppm_code.specs.Strands.{instrs_in as instrs_within, instrs_of}
use Rattle.ppm_listing_reader.specs.declared.listing_error.Fault.{Fault}
use Rattle.ppm_listing_reader.specs.declared.listing_error.Fault.TheVariants.{NoSuchForm, OutOfRange, NotForward, NoEnd, WrongRoom, NotThere}
use Rattle.ppm_listing_reader.specs.declared.part.Part.{Part}
use Rattle.ppm_listing_reader.specs.declared.part.Part.TheVariants as part
use Rattle.ppm_listing_reader.specs.declared.place.Place.{Place}
use Rattle.ppm_listing_reader.specs.declared.place.Place.TheVariants.{AtVersion, AtRoot, AtProcedure, Within}
use Rattle.ppm_listing_reader.specs.Tokens.{is_empty}
use Rattle.ppm_listing_reader.specs.Places.{next}
use Rattle.ppm_listing_reader.specs.Faults.{is_of, is_end, target_of, target_badly, is_procedure, is_capsule_of, instr_out_of_range, is_out_of_range, is_not_forward}
use Rattle.ppm_listing_reader.specs.Faults.{is_no_end, instr_has_wrong_room, has_wrong_room, instr_not_there, is_not_there}
use Rattle.ppm_listing_reader.specs.Faults.{breaks, BreaksAt}
use Rattle.ppm_listing_reader.specs.Outlines.{ends, blank, blanked, outline_of}
use Rattle.ppm_listing_reader.specs.declared.outline.Head.{Head}

pub length_ends : (n : ℕ) → length (ends n) ≡ n
length_ends zero = refl
length_ends (suc n) = ap suc (length_ends n)

-- the lines of a capsule, by its head
abbrev pub lines_of_head : Option Head → ℕ
lines_of_head None = 0
lines_of_head (Some h) = h.lines

is_of_blanked : (procedure : ℕ) (c : Option Capsule) → is_of procedure (option_map blanked c) ≡ is_of procedure c
is_of_blanked procedure None = refl
is_of_blanked procedure (Some c) = refl

count_blanked : (c : Option Capsule) → length (instrs_within (option_map blanked c)) ≡ length (instrs_within c)
count_blanked None = refl
count_blanked (Some c) = length_ends (length c.instrs)

empty_ends : (is : List Instr) → is_empty (ends (length is)) ≡ is_empty is
empty_ends [] = refl
empty_ends (i ∷ is) = refl

empty_blanked : (c : Option Capsule) → is_empty (instrs_within (option_map blanked c)) ≡ is_empty (instrs_within c)
empty_blanked None = refl
empty_blanked (Some c) = empty_ends c.instrs

-- by the heads of an outline
pub head_count : (heads : List Head) (capsule : ℕ) (found : Option Head) → slice_get heads capsule ≡ found
    → length (instrs_within (slice_get (map blank heads) capsule)) ≡ lines_of_head found
head_count heads capsule None e = ap (λ c. length (instrs_within c)) (slice_get-map blank heads capsule ∙ ap (option_map blank) e)
head_count heads capsule (Some h) e =
    ap (λ c. length (instrs_within c)) (slice_get-map blank heads capsule ∙ ap (option_map blank) e) ∙ length_ends h.lines

module _ (code : CodeParts) where
  -- capsules of the outline
  capsule_agrees : (procedure capsule : ℕ) → is_capsule_of (outline_of code) procedure capsule ≡ is_capsule_of code procedure capsule
  capsule_agrees procedure capsule =
      ap (is_of procedure) (slice_get-map blanked code.capsules capsule) ∙ is_of_blanked procedure (slice_get code.capsules capsule)

  count_agrees : (capsule : ℕ) → length (instrs_of (outline_of code) capsule) ≡ length (instrs_of code capsule)
  count_agrees capsule =
      ap (λ c. length (instrs_within c)) (slice_get-map blanked code.capsules capsule) ∙ count_blanked (slice_get code.capsules capsule)

  empty_agrees : (capsule : ℕ) → is_empty (instrs_of (outline_of code) capsule) ≡ is_empty (instrs_of code capsule)
  empty_agrees capsule =
      ap (λ c. is_empty (instrs_within c)) (slice_get-map blanked code.capsules capsule) ∙ empty_blanked (slice_get code.capsules capsule)

  -- the rules on an instruction
  instr_range : (procedure : ℕ) (i : Instr) → instr_out_of_range (outline_of code) procedure i ≡ instr_out_of_range code procedure i
  instr_range procedure (Const to n) = refl
  instr_range procedure (Move to from) = refl
  instr_range procedure (Add to l r n) = refl
  instr_range procedure (Sub to l r n) = refl
  instr_range procedure (Mul to l r n) = refl
  instr_range procedure (Div to l r n) = refl
  instr_range procedure (Rem to l r n) = refl
  instr_range procedure (Equal to l r) = refl
  instr_range procedure (NotEqual to l r) = refl
  instr_range procedure (Less to l r) = refl
  instr_range procedure (AtMost to l r) = refl
  instr_range procedure (Len to r) = refl
  instr_range procedure (CutLeft to r a n) = refl
  instr_range procedure (CutRight to r a n) = refl
  instr_range procedure (LoadSlot to s) = refl
  instr_range procedure (StoreCur s r) = refl
  instr_range procedure (Give r) = refl
  instr_range procedure (Get to r i n) = refl
  instr_range procedure (Put r i f n) = refl
  instr_range procedure (BranchZero r t) = refl
  instr_range procedure (BranchNonZero r t) = refl
  instr_range procedure (Room w) = refl
  instr_range procedure (StoreNew o r) = refl
  instr_range procedure (Ends (Next k)) = refl
  instr_range procedure (Ends Finish) = refl
  instr_range procedure (Ends (Trap x n)) = refl
  instr_range procedure (Ends (Call q k to)) = refl
  instr_range procedure (Ends (Fork l r k a b)) = refl

  instr_room : (at : ℕ) (room : Option ℕ) (i : Instr) → instr_has_wrong_room (outline_of code) at room i ≡ instr_has_wrong_room code at room i
  instr_room at room (Const to n) = refl
  instr_room at room (Move to from) = refl
  instr_room at room (Add to l r n) = refl
  instr_room at room (Sub to l r n) = refl
  instr_room at room (Mul to l r n) = refl
  instr_room at room (Div to l r n) = refl
  instr_room at room (Rem to l r n) = refl
  instr_room at room (Equal to l r) = refl
  instr_room at room (NotEqual to l r) = refl
  instr_room at room (Less to l r) = refl
  instr_room at room (AtMost to l r) = refl
  instr_room at room (Len to r) = refl
  instr_room at room (CutLeft to r a n) = refl
  instr_room at room (CutRight to r a n) = refl
  instr_room at room (LoadSlot to s) = refl
  instr_room at room (StoreCur s r) = refl
  instr_room at room (Give r) = refl
  instr_room at room (Get to r i n) = refl
  instr_room at room (Put r i f n) = refl
  instr_room at room (BranchZero r t) = refl
  instr_room at room (BranchNonZero r t) = refl
  instr_room at room (Room w) = refl
  instr_room at room (StoreNew o r) = refl
  instr_room at room (Ends (Next k)) = refl
  instr_room at room (Ends Finish) = refl
  instr_room at room (Ends (Trap x n)) = refl
  instr_room at room (Ends (Call q k to)) = refl
  instr_room at room (Ends (Fork l r k a b)) = refl

  instr_there : (procedure : ℕ) (i : Instr) → instr_not_there (outline_of code) procedure i ≡ instr_not_there code procedure i
  instr_there procedure (Const to n) = refl
  instr_there procedure (Move to from) = refl
  instr_there procedure (Add to l r n) = refl
  instr_there procedure (Sub to l r n) = refl
  instr_there procedure (Mul to l r n) = refl
  instr_there procedure (Div to l r n) = refl
  instr_there procedure (Rem to l r n) = refl
  instr_there procedure (Equal to l r) = refl
  instr_there procedure (NotEqual to l r) = refl
  instr_there procedure (Less to l r) = refl
  instr_there procedure (AtMost to l r) = refl
  instr_there procedure (Len to r) = refl
  instr_there procedure (CutLeft to r a n) = refl
  instr_there procedure (CutRight to r a n) = refl
  instr_there procedure (LoadSlot to s) = refl
  instr_there procedure (StoreCur s r) = refl
  instr_there procedure (Give r) = refl
  instr_there procedure (Get to r i n) = refl
  instr_there procedure (Put r i f n) = refl
  instr_there procedure (BranchZero r t) = refl
  instr_there procedure (BranchNonZero r t) = refl
  instr_there procedure (Room w) = refl
  instr_there procedure (StoreNew o r) = refl
  instr_there procedure (Ends (Next k)) = ap not (capsule_agrees procedure k)
  instr_there procedure (Ends Finish) = refl
  instr_there procedure (Ends (Trap x n)) = refl
  instr_there procedure (Ends (Call q k to)) = ap (λ b. not (is_procedure code q && b)) (capsule_agrees procedure k)
  instr_there procedure (Ends (Fork l r k a b)) = ap (λ b. not (is_procedure code l && is_procedure code r && b)) (capsule_agrees procedure k)

  -- the rules on a line
  range_agrees : (place : Place) (p : Part) → is_out_of_range (outline_of code) place p ≡ is_out_of_range code place p
  range_agrees place part.Version = refl
  range_agrees place (part.Root q xs) = refl
  range_agrees place (part.Procedure i s k) = refl
  range_agrees place (part.Capsule c q) = refl
  range_agrees place (part.Instr None) = refl
  range_agrees AtVersion (part.Instr (Some i)) = refl
  range_agrees AtRoot (part.Instr (Some i)) = refl
  range_agrees (AtProcedure n) (part.Instr (Some i)) = refl
  range_agrees (Within c q at room) (part.Instr (Some i)) = instr_range q i

  forward_agrees : (place : Place) (p : Part) → is_not_forward (outline_of code) place p ≡ is_not_forward code place p
  forward_agrees AtVersion p = refl
  forward_agrees AtRoot p = refl
  forward_agrees (AtProcedure n) p = refl
  forward_agrees (Within c q at room) part.Version = refl
  forward_agrees (Within c q at room) (part.Root s xs) = refl
  forward_agrees (Within c q at room) (part.Procedure i s k) = refl
  forward_agrees (Within c q at room) (part.Capsule d s) = refl
  forward_agrees (Within c q at room) (part.Instr None) = refl
  forward_agrees (Within c q at room) (part.Instr (Some i)) = ap (λ n. target_badly at n (target_of i)) (count_agrees c)

  end_agrees : (place : Place) (p : Part) → is_no_end (outline_of code) place p ≡ is_no_end code place p
  end_agrees place part.Version = refl
  end_agrees place (part.Root q xs) = refl
  end_agrees place (part.Procedure i s k) = refl
  end_agrees place (part.Capsule c q) = empty_agrees c
  end_agrees AtVersion (part.Instr i) = refl
  end_agrees AtRoot (part.Instr i) = refl
  end_agrees (AtProcedure n) (part.Instr i) = refl
  end_agrees (Within c q at room) (part.Instr None) = refl
  end_agrees (Within c q at room) (part.Instr (Some i)) = ap (λ n. (at + 1 == n) && not (is_end i)) (count_agrees c)

  room_agrees : (place : Place) (p : Part) → has_wrong_room (outline_of code) place p ≡ has_wrong_room code place p
  room_agrees AtVersion p = refl
  room_agrees AtRoot p = refl
  room_agrees (AtProcedure n) p = refl
  room_agrees (Within c q at room) part.Version = refl
  room_agrees (Within c q at room) (part.Root s xs) = refl
  room_agrees (Within c q at room) (part.Procedure i s k) = refl
  room_agrees (Within c q at room) (part.Capsule d s) = refl
  room_agrees (Within c q at room) (part.Instr None) = refl
  room_agrees (Within c q at room) (part.Instr (Some i)) = instr_room at room i

  there_agrees : (place : Place) (p : Part) → is_not_there (outline_of code) place p ≡ is_not_there code place p
  there_agrees place part.Version = refl
  there_agrees place (part.Root q xs) = refl
  there_agrees place (part.Procedure i s k) = ap (λ b. nat_le procedure_limit i || not b) (capsule_agrees i k)
  there_agrees place (part.Capsule c q) = refl
  there_agrees AtVersion (part.Instr i) = refl
  there_agrees AtRoot (part.Instr i) = refl
  there_agrees (AtProcedure n) (part.Instr i) = refl
  there_agrees (Within c q at room) (part.Instr None) = refl
  there_agrees (Within c q at room) (part.Instr (Some i)) = ap (λ b. nat_le instr_limit at || b) (instr_there q i)

  breaks_agrees : (fault : Fault) (place : Place) (l : Option Part) → breaks (outline_of code) fault place l ≡ breaks code fault place l
  breaks_agrees NoSuchForm place None = refl
  breaks_agrees NoSuchForm place (Some p) = refl
  breaks_agrees OutOfRange place None = refl
  breaks_agrees OutOfRange place (Some p) = range_agrees place p
  breaks_agrees NotForward place None = refl
  breaks_agrees NotForward place (Some p) = forward_agrees place p
  breaks_agrees NoEnd place None = refl
  breaks_agrees NoEnd place (Some p) = end_agrees place p
  breaks_agrees WrongRoom place None = refl
  breaks_agrees WrongRoom place (Some p) = room_agrees place p
  breaks_agrees NotThere place None = refl
  breaks_agrees NotThere place (Some p) = there_agrees place p

  -- the rules on lines
  pub from_outline : (fault : Fault) (place : Place) (ls : List (Option Part)) (number : ℕ)
      → BreaksAt (outline_of code) fault place ls number → BreaksAt code fault place ls number
  from_outline fault place [] zero h = h
  from_outline fault place [] (suc number) h = h
  from_outline fault place (l ∷ ls) zero h = subst IsTrue (breaks_agrees fault place l) h
  from_outline fault place (l ∷ ls) (suc number) h = from_outline fault (next place l) ls number h

  pub to_outline : (fault : Fault) (place : Place) (ls : List (Option Part)) (number : ℕ)
      → BreaksAt code fault place ls number → BreaksAt (outline_of code) fault place ls number
  to_outline fault place [] zero h = h
  to_outline fault place [] (suc number) h = h
  to_outline fault place (l ∷ ls) zero h = subst IsTrue (sym (breaks_agrees fault place l)) h
  to_outline fault place (l ∷ ls) (suc number) h = to_outline fault (next place l) ls number h
