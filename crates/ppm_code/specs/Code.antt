-- What always holds of a code: each number in an instruction names what is there, branches lead forward, and room is asked for first.
use Rattle.std.specs.Prelude.{◌≡◌, ◌<◌, ◌≤◌, ℕ, List, [], ◌∷◌, ◌++◌, length, Option, Some, None, slice_get, IfSome}
use Rattle.std.specs.List.{All}
use Rattle.ppm_words.specs.Limits.{array_limit}
use Rattle.ppm_code.specs.declared.act.End.{End}
use Rattle.ppm_code.specs.declared.act.End.TheVariants.{Next, Finish, Trap, Call, Fork}
use Rattle.ppm_code.specs.declared.code.Capsule.{Capsule}
use Rattle.ppm_code.specs.declared.code.CodeParts.{CodeParts}
use Rattle.ppm_code.specs.declared.instr.Instr.{Instr}
use Rattle.ppm_code.specs.declared.instr.Instr.TheVariants.{Add, Sub, Mul, Div, Rem, CutLeft, CutRight}
use Rattle.ppm_code.specs.declared.instr.Instr.TheVariants.{LoadSlot, StoreCur, Get, Put, BranchZero, BranchNonZero, Room, StoreNew, Ends}
use Rattle.ppm_code.specs.Limits.{procedure_limit, capsule_limit, instr_limit, slot_limit, room_limit, line_limit}
use Rattle.ppm_code.specs.Sizes.{slots_of, frame_size, fork_size}

-- the words that a capsule asks for by its first instruction
abbrev pub room_of : List Instr → Option ℕ
room_of (Room n ∷ is) = Some n
room_of _ = None

-- a line of the source
abbrev pub IsLine : ℕ → Type 0
IsLine line = (1 ≤ line) × (line ≤ line_limit)

module _ (code : CodeParts) where
  -- the procedure is there
  abbrev pub IsProcedure : ℕ → Type 0
  IsProcedure procedure = procedure < length code.procedures

  -- the capsule is there, and is one of the procedure
  abbrev pub IsCapsuleOf : (procedure capsule : ℕ) → Type 0
  IsCapsuleOf procedure capsule = IfSome (slice_get code.capsules capsule) (λ c. c.procedure ≡ procedure) × (capsule < length code.capsules)

  -- the slot is one of the procedure's frames
  abbrev pub IsSlot : (procedure slot : ℕ) → Type 0
  IsSlot procedure slot = slot < slots_of code procedure

  -- an end names what is there, and its capsule asks for as many words as the new block takes
  abbrev pub EndFits : (procedure : ℕ) → List Instr → End → Type 0
  EndFits procedure is (Next capsule) = IsCapsuleOf procedure capsule
  EndFits procedure is Finish = Unit {0}
  EndFits procedure is (Trap trap line) = IsLine line
  EndFits procedure is (Call callee capsule to) =
      IsProcedure callee × IsCapsuleOf procedure capsule × IfSome to (IsSlot procedure) × (room_of is ≡ Some (frame_size code callee))
  EndFits procedure is (Fork left right capsule left_to right_to) =
      IsProcedure left × IsProcedure right × IsCapsuleOf procedure capsule × IfSome left_to (IsSlot procedure)
      × IfSome right_to (IsSlot procedure) × (room_of is ≡ Some (fork_size code left right))

  -- an instruction at a place of its capsule names what is there; room is asked for by the first one alone
  abbrev pub Fits : (procedure : ℕ) → List Instr → (at : ℕ) → Instr → Type 0
  Fits procedure is at (Add to left right line) = IsLine line
  Fits procedure is at (Sub to left right line) = IsLine line
  Fits procedure is at (Mul to left right line) = IsLine line
  Fits procedure is at (Div to left right line) = IsLine line
  Fits procedure is at (Rem to left right line) = IsLine line
  Fits procedure is at (CutLeft to region place line) = IsLine line
  Fits procedure is at (CutRight to region place line) = IsLine line
  Fits procedure is at (Get to region index line) = IsLine line
  Fits procedure is at (Put region index from line) = IsLine line
  Fits procedure is at (LoadSlot to slot) = IsSlot procedure slot
  Fits procedure is at (StoreCur slot from) = IsSlot procedure slot
  Fits procedure is at (BranchZero tested target) = (at < target) × (target < length is)
  Fits procedure is at (BranchNonZero tested target) = (at < target) × (target < length is)
  Fits procedure is at (Room words) = (at ≡ 0) × (1 ≤ words) × (words ≤ room_limit)
  Fits procedure is at (StoreNew offset from) = (words : ℕ) × (room_of is ≡ Some words) × (offset < words)
  Fits procedure is at (Ends e) = EndFits procedure is e
  Fits procedure is at _ = Unit {0}

  -- a capsule: of a procedure that is there, of so many instructions at most, the last of which is an end
  pub record IsCapsule (c : Capsule) : Type 0 where
    pub procedure : IsProcedure c.procedure
    pub most : length c.instrs ≤ instr_limit
    pub last : (front : List Instr) × (e : End) × (c.instrs ≡ front ++ (Ends e ∷ []))
    pub each : (at : ℕ) (i : Instr) → slice_get c.instrs at ≡ Some i → Fits c.procedure c.instrs at i

-- a code: its root is a procedure with a slot for each array, and all parts are within their limits
pub record IsCode (code : CodeParts) : Type 0 where
  pub root : IsProcedure code code.root
  pub root_slots : length code.arrays ≤ slots_of code code.root
  pub arrays : All (λ a. a < array_limit) code.arrays
  pub procedures_most : length code.procedures ≤ procedure_limit
  pub capsules_most : length code.capsules ≤ capsule_limit
  pub slots_most : All (λ p. p.slots ≤ slot_limit) code.procedures
  pub entries : (procedure : ℕ) → IfSome (slice_get code.procedures procedure) (λ p. IsCapsuleOf code procedure p.entry)
  pub capsules : All (IsCapsule code) code.capsules
