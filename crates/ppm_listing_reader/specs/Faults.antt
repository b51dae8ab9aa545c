-- The rules of a listing, each a test of one line at its place, by what the whole text declares.
use Rattle.std.specs.Prelude.{◌≡◌, ◌⊎◌, ◌<◌, ◌≤◌, IfSome, IfNone, ℕ, zero, suc, ◌+◌, ◌==◌, Bool, IsTrue, true, false, not, ◌&&◌, ◌||◌, nat_lt}
use Rattle.std.specs.Prelude.{nat_le, List, [], ◌∷◌, length, Option, Some, None, slice_get}
use Rattle.std.specs.List.{list_any}
use Rattle.ppm_words.specs.Limits.{array_limit}
use Rattle.ppm_code.specs.declared.act.End.{End}
use Rattle.ppm_code.specs.declared.act.End.TheVariants.{Next, Trap, Call, Fork}
use Rattle.ppm_code.specs.declared.code.Capsule.{Capsule}
use Rattle.ppm_code.specs.declared.code.CodeParts.{CodeParts}
use Rattle.ppm_code.specs.declared.instr.Instr.{Instr}
use Rattle.ppm_code.specs.declared.instr.Instr.TheVariants.{Const, Move, Add, Sub, Mul, Div, Rem, Equal, NotEqual, Less, AtMost, Len, CutLeft, CutRight}
use Rattle.ppm_code.specs.declared.instr.Instr.TheVariants.{LoadSlot, StoreCur, Give, Get, Put, BranchZero, BranchNonZero, Room, StoreNew, Ends}
use Rattle.ppm_code.specs.Limits.{procedure_limit, capsule_limit, instr_limit, slot_limit, room_limit, line_limit}
use Rattle.ppm_code.specs.Sizes.{slots_of, frame_size, fork_size}
use Rattle.ppm_code.specs.Strands.{instrs_of}
use Rattle.ppm_listing_reader.specs.declared.listing_error.Fault.{Fault}
use Rattle.ppm_listing_reader.specs.declared.listing_error.Fault.TheVariants.{NoSuchForm, OutOfRange, NotForward, NoEnd, WrongRoom, NotThere}
use Rattle.ppm_listing_reader.specs.declared.part.Part.{Part}
use Rattle.ppm_listing_reader.specs.declared.part.Part.TheVariants as part
use Rattle.ppm_listing_reader.specs.declared.place.Place.{Place}
use Rattle.ppm_listing_reader.specs.declared.place.Place.TheVariants.{Within}
use Rattle.ppm_listing_reader.specs.Tokens.{is_empty}
use Rattle.ppm_listing_reader.specs.Places.{next}
use Rattle.ppm_listing_reader.specs.ErrorNumbers.{fault_number}

-- whether a line of the source is out of range
abbrev pub is_no_line : ℕ → Bool
is_no_line line = line == 0 || nat_lt line_limit line

-- whether a slot is named that is not one of so many
abbrev pub is_no_slot : (slots : ℕ) → Option ℕ → Bool
is_no_slot slots None = false
is_no_slot slots (Some slot) = nat_le slots slot

-- whether an instruction is an end
abbrev pub is_end : Instr → Bool
is_end (Ends e) = true
is_end _ = false

-- whether a capsule is one of a procedure
abbrev pub is_of : (procedure : ℕ) → Option Capsule → Bool
is_of procedure None = false
is_of procedure (Some c) = c.procedure == procedure

-- whether a branch at a place of a capsule of so many instructions does not lead forward in it
abbrev pub branches_badly : (at length target : ℕ) → Bool
branches_badly at length target = not (nat_lt at target && nat_lt target length)

-- where a branch leads, if an instruction is one
abbrev pub target_of : Instr → Option ℕ
target_of (BranchZero tested target) = Some target
target_of (BranchNonZero tested target) = Some target
target_of _ = None

abbrev pub target_badly : (at length : ℕ) → Option ℕ → Bool
target_badly at length None = false
target_badly at length (Some target) = branches_badly at length target

-- whether there is no room, or not of a size where that is known
abbrev pub is_no_room_of : (room : Option ℕ) → (known : Bool) → (size : ℕ) → Bool
is_no_room_of None known size = true
is_no_room_of (Some words) known size = known && not (words == size)

-- whether a word is not within the room
abbrev pub is_past_room : (room : Option ℕ) → ℕ → Bool
is_past_room None offset = true
is_past_room (Some words) offset = nat_le words offset

-- whether a text may not end at a place: no capsule has come
abbrev pub ends_early : Fault → Place → Bool
ends_early NotThere (Within capsule procedure at room) = false
ends_early NotThere place = true
ends_early _ place = false

module _ (code : CodeParts) where
  -- whether a procedure is there
  abbrev pub is_procedure : ℕ → Bool
  is_procedure procedure = nat_lt procedure (length code.procedures)

  -- whether a capsule is there, and one of a procedure
  abbrev pub is_capsule_of : (procedure capsule : ℕ) → Bool
  is_capsule_of procedure capsule = is_of procedure (slice_get code.capsules capsule)

  -- 2: whether a number of an end of a procedure's capsule is out of range
  abbrev pub end_out_of_range : (procedure : ℕ) → End → Bool
  end_out_of_range procedure (Trap trap line) = is_no_line line
  end_out_of_range procedure (Call callee capsule to) = is_no_slot (slots_of code procedure) to
  end_out_of_range procedure (Fork left right capsule left_to right_to) =
      is_no_slot (slots_of code procedure) left_to || is_no_slot (slots_of code procedure) right_to
  end_out_of_range procedure _ = false

  -- whether a number of an instruction is out of range
  abbrev pub instr_out_of_range : (procedure : ℕ) → Instr → Bool
  instr_out_of_range procedure (Add to left right line) = is_no_line line
  instr_out_of_range procedure (Sub to left right line) = is_no_line line
  instr_out_of_range procedure (Mul to left right line) = is_no_line line
  instr_out_of_range procedure (Div to left right line) = is_no_line line
  instr_out_of_range procedure (Rem to left right line) = is_no_line line
  instr_out_of_range procedure (CutLeft to region at line) = is_no_line line
  instr_out_of_range procedure (CutRight to region at line) = is_no_line line
  instr_out_of_range procedure (Get to region index line) = is_no_line line
  instr_out_of_range procedure (Put region index from line) = is_no_line line
  instr_out_of_range procedure (LoadSlot to slot) = nat_le (slots_of code procedure) slot
  instr_out_of_range procedure (StoreCur slot from) = nat_le (slots_of code procedure) slot
  instr_out_of_range procedure (Room words) = words == 0 || nat_lt room_limit words
  instr_out_of_range procedure (Ends e) = end_out_of_range procedure e
  instr_out_of_range procedure (Const to value) = false
  instr_out_of_range procedure (Move to from) = false
  instr_out_of_range procedure (Equal to left right) = false
  instr_out_of_range procedure (NotEqual to left right) = false
  instr_out_of_range procedure (Less to left right) = false
  instr_out_of_range procedure (AtMost to left right) = false
  instr_out_of_range procedure (Len to region) = false
  instr_out_of_range procedure (Give from) = false
  instr_out_of_range procedure (BranchZero tested target) = false
  instr_out_of_range procedure (BranchNonZero tested target) = false
  instr_out_of_range procedure (StoreNew word from) = false

  -- whether a number of a line is out of range; more arrays than slots are so where the root's procedure is there
  abbrev pub is_out_of_range : Place → Part → Bool
  is_out_of_range place (part.Root procedure arrays) =
      list_any (λ array. nat_le array_limit array) arrays || (is_procedure procedure && nat_lt (slots_of code procedure) (length arrays))
  is_out_of_range place (part.Procedure number slots entry) = nat_lt slot_limit slots
  is_out_of_range place (part.Instr None) = true
  is_out_of_range (Within capsule procedure at room) (part.Instr (Some i)) = instr_out_of_range procedure i
  is_out_of_range _ _ = false

  -- 3: whether an instruction at a place of a capsule is a branch that does not lead forward in it
  abbrev pub instr_not_forward : (capsule at : ℕ) → Instr → Bool
  instr_not_forward capsule at i = target_badly at (length (instrs_of code capsule)) (target_of i)

  -- whether an instruction's line at a place is a branch that does not lead forward
  abbrev pub is_not_forward : Place → Part → Bool
  is_not_forward (Within capsule procedure at room) (part.Instr (Some i)) = instr_not_forward capsule at i
  is_not_forward _ _ = false

  -- 4: whether a capsule has no instructions, or its last one is no end
  abbrev pub is_no_end : Place → Part → Bool
  is_no_end place (part.Capsule number procedure) = is_empty (instrs_of code number)
  is_no_end (Within capsule procedure at room) (part.Instr (Some i)) = (at + 1 == length (instrs_of code capsule)) && not (is_end i)
  is_no_end _ _ = false

  -- 5: whether an instruction asks for room after the first place, or takes room that there is not
  abbrev pub instr_has_wrong_room : (at : ℕ) → (room : Option ℕ) → Instr → Bool
  instr_has_wrong_room at room (Room words) = not (at == 0)
  instr_has_wrong_room at room (StoreNew offset from) = is_past_room room offset
  instr_has_wrong_room at room (Ends (Call callee capsule to)) = is_no_room_of room (is_procedure callee) (frame_size code callee)
  instr_has_wrong_room at room (Ends (Fork left right capsule left_to right_to)) =
      is_no_room_of room (is_procedure left && is_procedure right) (fork_size code left right)
  instr_has_wrong_room at room _ = false

  -- whether an instruction's line at a place asks for room after the first place, or takes room that there is not
  abbrev pub has_wrong_room : Place → Part → Bool
  has_wrong_room (Within capsule procedure at room) (part.Instr (Some i)) = instr_has_wrong_room at room i
  has_wrong_room _ _ = false

  -- 6: whether an end of a procedure's capsule names what is not there
  abbrev pub end_not_there : (procedure : ℕ) → End → Bool
  end_not_there procedure (Next capsule) = not (is_capsule_of procedure capsule)
  end_not_there procedure (Call callee capsule to) = not (is_procedure callee && is_capsule_of procedure capsule)
  end_not_there procedure (Fork left right capsule left_to right_to) =
      not (is_procedure left && is_procedure right && is_capsule_of procedure capsule)
  end_not_there procedure _ = false

  abbrev pub instr_not_there : (procedure : ℕ) → Instr → Bool
  instr_not_there procedure (Ends e) = end_not_there procedure e
  instr_not_there procedure _ = false

  -- whether the line of an instruction does, or is one too many in its capsule
  abbrev pub line_not_there : (procedure at : ℕ) → Option Instr → Bool
  line_not_there procedure at None = nat_le instr_limit at
  line_not_there procedure at (Some i) = nat_le instr_limit at || instr_not_there procedure i

  -- whether a line names what is not there, or is one too many
  abbrev pub is_not_there : Place → Part → Bool
  is_not_there place (part.Root procedure arrays) = not (is_procedure procedure)
  is_not_there place (part.Procedure number slots entry) = nat_le procedure_limit number || not (is_capsule_of number entry)
  is_not_there place (part.Capsule number procedure) = nat_le capsule_limit number || not (is_procedure procedure)
  is_not_there (Within capsule procedure at room) (part.Instr i) = line_not_there procedure at i
  is_not_there _ _ = false

  -- whether what stands at a place breaks a rule
  abbrev pub breaks : Fault → Place → Option Part → Bool
  breaks NoSuchForm place None = true
  breaks OutOfRange place (Some p) = is_out_of_range place p
  breaks NotForward place (Some p) = is_not_forward place p
  breaks NoEnd place (Some p) = is_no_end place p
  breaks WrongRoom place (Some p) = has_wrong_room place p
  breaks NotThere place (Some p) = is_not_there place p
  breaks _ place _ = false

  -- the line with a number from 0 breaks a rule, or the text ends there too early
  abbrev pub BreaksAt : Fault → Place → List (Option Part) → (number : ℕ) → Type 0
  BreaksAt fault place [] zero = IsTrue (ends_early fault place)
  BreaksAt fault place [] (suc number) = ⊥
  BreaksAt fault place (l ∷ ls) zero = IsTrue (breaks fault place l)
  BreaksAt fault place (l ∷ ls) (suc number) = BreaksAt fault (next place l) ls number

  -- no rule is broken at any line
  abbrev pub KeepsRules : Place → List (Option Part) → Type 0
  KeepsRules place ls = (fault : Fault) (number : ℕ) → BreaksAt fault place ls number → ⊥

  -- the rule of the least number that a line breaks, if it breaks one
  pub record IsLeastRule (place : Place) (line : Option Part) (found : Option Fault) : Type 0 where
    pub is : IfSome found (λ fault. IsTrue (breaks fault place line))
    pub least : IfSome found (λ fault. (other : Fault) → IsTrue (breaks other place line) → fault_number fault ≤ fault_number other)
    pub none : IfNone found ((other : Fault) → IsTrue (breaks other place line) → ⊥)

  -- the first broken rule: at the line with a number from 0, no line before it breaks one, and it none of a lesser number
  pub record IsFirstBreak (place : Place) (ls : List (Option Part)) (fault : Fault) (number : ℕ) : Type 0 where
    pub there : BreaksAt fault place ls number
    pub first : (other : Fault) (later : ℕ) → BreaksAt other place ls later → (number < later) ⊎ ((number ≡ later) × (fault_number fault ≤ fault_number other))
    pub within : number ≤ length ls
