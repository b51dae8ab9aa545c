-- Which capsules are filled, as their paths tell: whatever they find on a second try, they store the same words of their own, and trap alike.
use Rattle.std.specs.Prelude.{◌≡◌, ◌⊎◌, ℕ, ◌+◌, Bool, true, false, List, [], ◌∷◌, Option, Some, None, MatchOption, slice_get}
use Rattle.ppm_strands.specs.Capsule.{In}
use Rattle.ppm_code.specs.declared.act.End.{End}
use Rattle.ppm_code.specs.declared.act.End.TheVariants.{Next, Finish, Trap, Call, Fork}
use Rattle.ppm_code.specs.declared.class.Class.{Class}
use Rattle.ppm_code.specs.declared.class.Class.TheVariants.{Slot, New, Value, Room, Array}
use Rattle.ppm_code.specs.declared.class.May.TheVariants.{Read, Write, Branch}
use Rattle.ppm_code.specs.declared.instr.Instr.{Instr}
use Rattle.ppm_code.specs.declared.instr.Instr.TheVariants.{Const, Move, Add, Sub, Mul, Div, Rem, Equal, NotEqual, Less, AtMost, Len, CutLeft, CutRight}
use Rattle.ppm_code.specs.declared.instr.Instr.TheVariants.{LoadSlot, StoreCur, Give, Get, Put, BranchZero, BranchNonZero, Room as RoomFor, StoreNew, Ends}
use Rattle.ppm_code.specs.declared.register.Register.{Register}
use Rattle.ppm_code.specs.Paths.{may, Does, GoesTo, Path, Any, Exposes}
use Rattle.ppm_code.specs.Tidy.{can_trap}
use Rattle.ppm_filled.specs.Racing.{EndWord, OfCall, OfFork}

-- the registers that an instruction reads
abbrev pub operands_of : Instr → List Register
operands_of (Const d v) = []
operands_of (Move d a) = a ∷ []
operands_of (Add d a b line) = a ∷ b ∷ []
operands_of (Sub d a b line) = a ∷ b ∷ []
operands_of (Mul d a b line) = a ∷ b ∷ []
operands_of (Div d a b line) = a ∷ b ∷ []
operands_of (Rem d a b line) = a ∷ b ∷ []
operands_of (Equal d a b) = a ∷ b ∷ []
operands_of (NotEqual d a b) = a ∷ b ∷ []
operands_of (Less d a b) = a ∷ b ∷ []
operands_of (AtMost d a b) = a ∷ b ∷ []
operands_of (Len d a) = a ∷ []
operands_of (CutLeft d a b line) = a ∷ b ∷ []
operands_of (CutRight d a b line) = a ∷ b ∷ []
operands_of (LoadSlot d i) = []
operands_of (StoreCur i a) = a ∷ []
operands_of (Give a) = a ∷ []
operands_of (Get d a b line) = a ∷ b ∷ []
operands_of (Put a b s line) = a ∷ b ∷ s ∷ []
operands_of (BranchZero a t) = a ∷ []
operands_of (BranchNonZero a t) = a ∷ []
operands_of (RoomFor n) = []
operands_of (StoreNew o a) = a ∷ []
operands_of (Ends e) = []

-- the register that it sets
abbrev pub target_of : Instr → Option Register
target_of (Const d v) = Some d
target_of (Move d a) = Some d
target_of (Add d a b line) = Some d
target_of (Sub d a b line) = Some d
target_of (Mul d a b line) = Some d
target_of (Div d a b line) = Some d
target_of (Rem d a b line) = Some d
target_of (Equal d a b) = Some d
target_of (NotEqual d a b) = Some d
target_of (Less d a b) = Some d
target_of (AtMost d a b) = Some d
target_of (Len d a) = Some d
target_of (CutLeft d a b line) = Some d
target_of (CutRight d a b line) = Some d
target_of (LoadSlot d i) = Some d
target_of (StoreCur i a) = None
target_of (Give a) = None
target_of (Get d a b line) = Some d
target_of (Put a b s line) = None
target_of (BranchZero a t) = None
target_of (BranchNonZero a t) = None
target_of (RoomFor n) = None
target_of (StoreNew o a) = None
target_of (Ends e) = None

-- whether a capsule may be over by a trap there
abbrev pub may_trap : Instr → Bool
may_trap (Ends (Trap trap line)) = true
may_trap i = can_trap i

-- the registers by whose words it traps or not, where it can: of a put those of its place, and not the one that it stores
abbrev pub traps_by : Instr → List Register
traps_by (Put a b s line) = a ∷ b ∷ []
traps_by i = operands_of i

-- what an end stores of a new block beside its slots
abbrev pub builds_by : End → Option EndWord
builds_by (Next capsule) = None
builds_by Finish = None
builds_by (Trap trap line) = None
builds_by (Call callee capsule to) = Some (OfCall callee)
builds_by (Fork left right capsule left_to right_to) = Some (OfFork left right)

abbrev pub built_in : Instr → Option EndWord
built_in (Ends e) = builds_by e
built_in i = None

abbrev pub builder_in : Option Instr → Option EndWord
builder_in None = None
builder_in (Some i) = built_in i

-- whether an instruction is an end other than a trap
abbrev pub is_stop : Instr → Bool
is_stop (Ends (Trap trap line)) = false
is_stop (Ends e) = true
is_stop i = false

-- a word of the frame that instructions store: a slot, or the value
abbrev pub IsOfFrame : Class → Type 0
IsOfFrame (Slot i) = Unit {0}
IsOfFrame Value = Unit {0}
IsOfFrame (New o) = ⊥
IsOfFrame Room = ⊥
IsOfFrame Array = ⊥

-- what comes of a find: the word in the register with a number, or which way a path went
pub data Mark : Type 0 where
  Word : ℕ → Mark
  Way : Mark

module _ (is : List Instr) where
  -- a path is over at a place other than by a trap: an end stands there, or no instruction does
  abbrev pub IsStop : ℕ → Type 0
  IsStop at = MatchOption (slice_get is at) (Unit {0}) (λ i. is_stop i ≡ true)

  -- what the end there builds
  abbrev pub builder_at : ℕ → Option EndWord
  builder_at at = builder_in (slice_get is at)

  -- a load of a slot that some path has stored before
  pub record IsReload (at : ℕ) : Type 0 where
    pub slot : ℕ
    pub store : ℕ
    pub before : Path is Any 0 store
    pub stores : Does is store (Write (Slot slot))
    pub between : Path is Any (store + 1) at
    pub loads : Does is at (Read (Slot slot))

  -- an instruction that may find another word on a second try: a read of an array word, or such a load
  abbrev pub IsFind : ℕ → Type 0
  IsFind at = (Path is Any 0 at × Does is at (Read Array)) ⊎ IsReload at

  -- a word of the frame that a capsule may leave as it is, though it may store it after what it found: some path stores it after the find, and
  -- some path that hasn't stored it before stops without
  pub record IsLeftOut (find write stop : ℕ) (c : Class) : Type 0 where
    pub of_frame : IsOfFrame c
    pub finds : IsFind find
    pub before : Path is (Exposes c) 0 find
    pub to_write : Path is Any (find + 1) write
    pub writes : Does is write (Write c)
    pub to_stop : Path is (Exposes c) (find + 1) stop
    pub stops : IsStop stop

  -- a word of the new block that some path doesn't store
  pub record IsUnbuilt (write stop word : ℕ) : Type 0 where
    pub writes : Does is write (Write (New word))
    pub to_stop : Path is (Exposes (New word)) 0 stop
    pub stops : IsStop stop

  -- an end that a path comes to, and one that builds another block
  pub record BuildsAnother (stop other : ℕ) : Type 0 where
    pub to_stop : Path is Any 0 stop
    pub stops : IsStop stop
    pub another : builder_at stop ≡ builder_at other → ⊥
    pub some : (b : EndWord) × (builder_at other ≡ Some b)

  -- on some path to a place this comes of a find
  pub data Hangs : (at : ℕ) → Mark → Type 0 where
    Finds : (at : ℕ) (i : Instr) (d : Register) → IsFind at → slice_get is at ≡ Some i → target_of i ≡ Some d → Hangs (at + 1) (Word d.index)
    Takes : (at : ℕ) (i : Instr) (a d : Register) → Hangs at (Word a.index) → slice_get is at ≡ Some i → In a (operands_of i)
        → target_of i ≡ Some d → Hangs (at + 1) (Word d.index)
    Stays : (at to : ℕ) (i : Instr) (r : ℕ) → Hangs at (Word r) → slice_get is at ≡ Some i
        → ((d : Register) → target_of i ≡ Some d → d.index ≡ r → ⊥) → GoesTo (may i) at to → Hangs to (Word r)
    Parts : (at to : ℕ) (i : Instr) (a : Register) (t : ℕ) → Hangs at (Word a.index) → slice_get is at ≡ Some i → In a (operands_of i)
        → may i ≡ Branch t → GoesTo (may i) at to → Hangs to Way
    GoesOn : (at to : ℕ) (i : Instr) → Hangs at Way → slice_get is at ≡ Some i → GoesTo (may i) at to → Hangs to Way

  -- a trap that hangs on a find: by a register that comes of one, or at a place to which the way does
  pub record IsHung (at : ℕ) : Type 0 where
    pub instr : Instr
    pub there : slice_get is at ≡ Some instr
    pub traps : may_trap instr ≡ true
    pub hangs : Hangs at Way ⊎ ((a : Register) × In a (traps_by instr) × Hangs at (Word a.index))

  -- the four things that a filled capsule has not
  pub record IsFilledOnPaths : Type 0 where
    pub none_left_out : (find write stop : ℕ) (c : Class) → IsLeftOut find write stop c → ⊥
    pub none_unbuilt : (write stop word : ℕ) → IsUnbuilt write stop word → ⊥
    pub one_block : (stop other : ℕ) → BuildsAnother stop other → ⊥
    pub none_hung : (at : ℕ) → IsHung at → ⊥
