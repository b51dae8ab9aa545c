-- Tidy code: what is stored into a new block is a slot of a frame that the end builds, and nothing can trap in between.
use Rattle.std.specs.Prelude.{◌≡◌, ◌⊎◌, ◌<◌, ◌≤◌, ℕ, ◌+◌, Bool, true, false, List, Some, slice_get}
use Rattle.std.specs.List.{All, Contains}
use Rattle.ppm_code.specs.declared.act.End.{End}
use Rattle.ppm_code.specs.declared.act.End.TheVariants.{Next, Finish, Trap, Call, Fork}
use Rattle.ppm_code.specs.declared.code.Capsule.{Capsule}
use Rattle.ppm_code.specs.declared.code.CodeParts.{CodeParts}
use Rattle.ppm_code.specs.declared.instr.Instr.{Instr}
use Rattle.ppm_code.specs.declared.instr.Instr.TheVariants.{Add, Sub, Mul, Div, Rem, CutLeft, CutRight, Get, Put, StoreNew, Ends}
use Rattle.ppm_code.specs.declared.register.Register.{Register}
use Rattle.ppm_code.specs.Paths.{Path, Any}
use Rattle.ppm_code.specs.Sizes.{slots_of, slot_at, left_at, right_at}

-- whether an instruction can trap
abbrev pub can_trap : Instr → Bool
can_trap (Add d a b line) = true
can_trap (Sub d a b line) = true
can_trap (Mul d a b line) = true
can_trap (Div d a b line) = true
can_trap (Rem d a b line) = true
can_trap (CutLeft d a b line) = true
can_trap (CutRight d a b line) = true
can_trap (Get d a b line) = true
can_trap (Put a b s line) = true
can_trap _ = false

module _ (code : CodeParts) where
  -- the word is a slot of the frame of a procedure that lies at `frame` of the block
  abbrev pub IsSlotWord : (frame procedure word : ℕ) → Type 0
  IsSlotWord frame procedure word = (frame + slot_at 0 ≤ word) × (word < frame + slot_at (slots_of code procedure))

  -- the word is a slot of a frame that the end builds
  abbrev pub Builds : End → ℕ → Type 0
  Builds (Call procedure capsule to) word = IsSlotWord 0 procedure word
  Builds (Fork left right capsule left_to right_to) word = IsSlotWord left_at left word ⊎ IsSlotWord (right_at code left) right word
  Builds (Next capsule) word = ⊥
  Builds Finish word = ⊥
  Builds (Trap trap line) word = ⊥

  -- the instruction is an end that builds it
  abbrev pub IsBuilder : Instr → ℕ → Type 0
  IsBuilder (Ends e) word = Builds e word
  IsBuilder _ word = ⊥

  -- the instruction may follow a store of it: an end builds it, and another cannot trap
  abbrev pub MayFollow : Instr → ℕ → Type 0
  MayFollow (Ends e) word = Builds e word
  MayFollow i word = can_trap i ≡ false

  -- each path from a place comes to an end that builds it, past no instruction that can trap
  abbrev pub LeadsToBuild : List Instr → (from word : ℕ) → Type 0
  LeadsToBuild is from word = (at : ℕ) (i : Instr) → Path is Any from at → slice_get is at ≡ Some i → MayFollow i word

  -- a store into a new block: so it is from the next instruction on where a path reaches it, and some end of its capsule builds the word
  pub record IsTidyStore (is : List Instr) (at word : ℕ) : Type 0 where
    pub leads : Path is Any 0 at → LeadsToBuild is (at + 1) word
    pub builds : (i : Instr) × Contains is i × IsBuilder i word

  abbrev pub IsTidyCapsule : List Instr → Type 0
  IsTidyCapsule is = (at word : ℕ) (from : Register) → slice_get is at ≡ Some (StoreNew word from) → IsTidyStore is at word

  -- each capsule is tidy
  abbrev pub IsTidyOne : Capsule → Type 0
  IsTidyOne c = IsTidyCapsule c.instrs

-- a tidy code
abbrev pub IsTidy : CodeParts → Type 0
IsTidy code = All (IsTidyOne code) code.capsules
