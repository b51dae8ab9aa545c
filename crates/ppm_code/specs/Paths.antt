-- The paths through a capsule: each branch goes one way or the other, whatever the registers hold.
use Rattle.std.specs.Prelude.{◌≡◌, ◌⊎◌, ℕ, ◌+◌, max, List, Some, slice_get}
use Rattle.ppm_code.specs.declared.class.Class.{Class}
use Rattle.ppm_code.specs.declared.class.Class.TheVariants.{Slot, New, Value, Room, Array}
use Rattle.ppm_code.specs.declared.class.May.{May}
use Rattle.ppm_code.specs.declared.class.May.TheVariants.{Work, Read, Write, Branch, Stop}
use Rattle.ppm_code.specs.declared.act.Act.{Act}
use Rattle.ppm_code.specs.declared.act.Act.TheVariants.{Sets, Passes, Jumps, Steps, Ends as Stops}
use Rattle.ppm_code.specs.declared.act.Step.TheVariants.{Loads, Stores, Asks}
use Rattle.ppm_code.specs.declared.location.FrameWord.TheVariants.{Slot as SlotWord, Value as ValueWord}
use Rattle.ppm_strands.specs.Strand.{Own, New as NewWord, Shared}
use Rattle.ppm_code.specs.Acts.{does}
use Rattle.ppm_code.specs.Locations.{Where, location_of}
use Rattle.ppm_code.specs.declared.instr.Instr.{Instr}
use Rattle.ppm_code.specs.declared.instr.Instr.TheVariants.{LoadSlot, StoreCur, Give, Get, Put, BranchZero, BranchNonZero, Room as RoomFor, StoreNew, Ends}

-- what an instruction may do, whatever the registers hold
abbrev pub may : Instr → May
may (LoadSlot d i) = Read (Slot i)
may (StoreCur i a) = Write (Slot i)
may (Give a) = Write Value
may (Get d a b line) = Read Array
may (Put a b s line) = Write Array
may (BranchZero a t) = Branch t
may (BranchNonZero a t) = Branch t
may (RoomFor n) = Read Room
may (StoreNew o a) = Write (New o)
may (Ends e) = Stop
may _ = Work

-- the class of a location
abbrev pub class_of : Where → Class
class_of (Own (SlotWord i)) = Slot i
class_of (Own ValueWord) = Value
class_of (NewWord o) = New o
class_of (Shared x) = Array

-- an act is one of those that an instruction may make; any may be a trap
abbrev pub Follows : May → Act → Type 0
Follows m (Stops e) = Unit {0}
Follows Work (Sets d v) = Unit {0}
Follows (Read c) (Steps (Loads l d)) = class_of (location_of l) ≡ c
Follows (Read c) (Steps (Asks n)) = Room ≡ c
Follows (Write c) (Steps (Stores l v)) = class_of (location_of l) ≡ c
Follows (Branch t) Passes = Unit {0}
Follows (Branch t) (Jumps u) = u ≡ t
Follows _ _ = ⊥

-- what an instruction does is what it may do, whatever the registers hold
abbrev pub ActsFollow : Type 0
ActsFollow = (array_words : ℕ) (i : Instr) (g : List ℕ) → Follows (may i) (does array_words i g)

-- the instruction at a place of the capsule may do this
abbrev pub Does : List Instr → ℕ → May → Type 0
Does is at m = (i : Instr) × (slice_get is at ≡ Some i) × (may i ≡ m)

-- from an instruction at `at` that may do this a path may go on at `next`; a branch that does not lead forward goes on
abbrev pub GoesTo : May → (at next : ℕ) → Type 0
GoesTo Work at next = next ≡ at + 1
GoesTo (Read c) at next = next ≡ at + 1
GoesTo (Write c) at next = next ≡ at + 1
GoesTo (Branch t) at next = (next ≡ at + 1) ⊎ (next ≡ max t (at + 1))
GoesTo Stop at next = ⊥

-- a stretch of a path from one place to another, each instruction passed being one that may do what q allows; that at `to` is not passed
pub data Path (is : List Instr) (q : May → Type 0) : (from to : ℕ) → Type 0 where
  Here : (at : ℕ) → Path is q at at
  Then : (from at to : ℕ) (m : May) → Path is q from at → Does is at m → q m → GoesTo m at to → Path is q from to

-- any instruction
abbrev pub Any : May → Type 0
Any m = Unit {0}

-- one that does not write this class, or the class is that of the array words: an earlier write of these may be of another word
abbrev pub Exposes : Class → May → Type 0
Exposes Array m = Unit {0}
Exposes c m = m ≡ Write c → ⊥

-- the read at a place is exposed: on some path no instruction before it has written its class
pub record IsExposed (is : List Instr) (at : ℕ) (c : Class) : Type 0 where
  pub reads : Does is at (Read c)
  pub before : Path is (Exposes c) 0 at

-- a conflict: on some path an exposed read, and later a write of the same class
pub record IsConflict (is : List Instr) (read write : ℕ) (c : Class) : Type 0 where
  pub exposed : IsExposed is read c
  pub next : ℕ
  pub goes_on : GoesTo (Read c) read next
  pub between : Path is Any next write
  pub writes : Does is write (Write c)

-- no path has one
abbrev pub HasNoConflict : List Instr → Type 0
HasNoConflict is = (read write : ℕ) (c : Class) → IsConflict is read write c → ⊥
