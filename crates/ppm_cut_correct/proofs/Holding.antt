-- How the frames of the code hold the frames of the meaning, and its shared words the arrays.
use Rattle.std.proofs.Common.{◌≡◌, ◌≤◌, ◌<◌, ℕ, ◌+◌, ◌^◌, ℤ, pos, Bool, true, false, List, Option, Some, None, Result, Ok, Err, get_or, length}
use Rattle.std.specs.List.{sum}
use Rattle.ppm_strands.specs.Tree.{Words, Tree, Strand, Call as Calling, Fork as Forking, Over, Code}
use Rattle.ppm_strands.specs.Strand.{Frame as CapsuleFrame, code_of}
use Rattle.ppm_words.specs.TwosComplement.{value_of}
use Rattle.ppm_code.specs.declared.code.CodeParts.{CodeParts}
use Rattle.ppm_code.specs.declared.location.FrameWord.{FrameWord}
use Rattle.ppm_code.specs.declared.location.FrameWord.TheVariants.{Slot, Value}
use Rattle.ppm_code.specs.Locations.{code_locations}
use Rattle.ppm_code.specs.Strands.{Point, at_capsule, Result as Outcome, Gave, Trapped as TrappedAt, table_of, entry_of}
use Rattle.ppm_tree.specs.declared.named.Named.{Named}
use Rattle.ppm_tree.specs.Tree.{Procedure, Side}
use Rattle.ppm_tree.specs.Values.{holds}
use Rattle.ppm_tree.specs.State.{TrapAt, Region, Locals, Frame, Arrays, array_at, with_locals, with_local, with_region, procedure_named}
use Rattle.ppm_tree.specs.Meaning.{End, Ended, Trapped, with_parts as parts_frame}
use Rattle.ppm_ownership.specs.Coming.{stretch}
use Rattle.ppm_regions.specs.Scope.{Declaration, Scope, declared, is_region}
use Rattle.ppm_cut_code.specs.Layout.{Layout, slot_of, parameter_layout}
use Rattle.ppm_regions.specs.Scope.{scope_of}
use Rattle.ppm_cut_code.specs.Fits.{Has}
use Rattle.ppm_cut_code.specs.Statements.{number_of}
use Rattle.ppm_cut_code.proofs.RegionWords.{offset_of, region_word}
use Rattle.ppm_cut_correct.proofs.ChainLemmas.{Cost, cost, Chain}

-- a word stands for a value
pub record HoldsValue (word : ℕ) (v : ℤ) : Type 0 where
  pub value : value_of word ≡ v
  pub below : word < 2 ^ 64

module _ (lengths : List ℕ) where
  -- the shared words are those of the arrays
  pub record Shows (a : Words) (arrays : Arrays) : Type 0 where
    pub shape : (k : ℕ) → length (array_at arrays k) ≡ get_or lengths k 0
    pub word : (k i : ℕ) → i < get_or lengths k 0 → HoldsValue (a (offset_of lengths k + i)) (get_or (array_at arrays k) i (pos 0))

  -- the regions that may be used lie in their arrays
  pub record Lies (scope : Scope) (f : Frame) : Type 0 where
    pub within : (x : List ℕ) (d : Declaration) → declared scope x ≡ Some d → is_region d.mode ≡ true → d.hidden ≡ false
        → (f.regions x).start + (f.regions x).length ≤ get_or lengths (f.regions x).array 0

  -- a frame's slots hold what the names of its layout stand for; it has given no value yet
  pub record Holds (scope : Scope) (layout : Layout) (f : Frame) (own : FrameWord → ℕ) : Type 0 where
    pub local : (x : List ℕ) (d : Declaration) → declared scope x ≡ Some d → is_region d.mode ≡ false → Has layout x
        → HoldsValue (own (Slot (slot_of layout x))) (f.locals x)
    pub region : (x : List ℕ) (d : Declaration) → declared scope x ≡ Some d → is_region d.mode ≡ true → Has layout x
        → own (Slot (slot_of layout x)) ≡ region_word lengths (f.regions x)
    pub value : own Value ≡ 0

-- the frame of the meaning that the hidden procedure of an `each` has in hand: the elements of the region q from n on, m of them
abbrev pub sweep_frame : Frame → Region → (n m : ℕ) → Named → Named → Frame
sweep_frame f q n m i x = with_region (with_local f i.name (pos n)) x.name (stretch n m q)

abbrev pub CodeFrame : Type 0
CodeFrame = CapsuleFrame FrameWord Point

-- a frame at work, and one that waits
abbrev pub at_work : (FrameWord → ℕ) → ℕ → CodeFrame
at_work own k = record { own = own; point = at_capsule k }

abbrev pub waits : (FrameWord → ℕ) → (next : ℕ) → (left_to to : Option ℕ) → CodeFrame
waits own next left_to to = record { own = own; point = record { capsule = next; left_to = left_to; to = to } }

-- which of two numbers a test chooses
abbrev pub which : Bool → ℕ → ℕ → ℕ
which true inside next = inside
which false inside next = next

module _ (lengths : List ℕ) (code : CodeParts) where
  -- the strands of the code, over the words of arrays of these lengths
  abbrev pub strands : Code CodeFrame Outcome
  strands = code_of code_locations (table_of code (sum lengths))

  abbrev pub CodeTree : Type 0
  CodeTree = Tree CodeFrame Outcome

  -- a trap ends the strand, and the shared words are as they were
  abbrev pub Fails : Cost → CodeTree → Words → TrapAt → Type 0
  Fails k t a stop = Chain strands k t a (Over (TrappedAt stop.0 stop.1)) a

  -- A stretch of a block has been run: the frame goes on at a capsule and holds the new locals, or has trapped.
  abbrev pub Reaches : Scope → Layout → Frame → Cost → CodeTree → Words → (next : ℕ) → End Locals → Type 0
  Reaches scope layout f k t a next (Ended l arrays) =
      (own : FrameWord → ℕ) × (b : Words) × Holds lengths scope layout (with_locals f l) own × Shows lengths b arrays
      × Chain strands k t a (Strand (at_work own next)) b
  Reaches scope layout f k t a next (Trapped stop arrays) =
      (b : Words) × Shows lengths b arrays × Chain strands k t a (Over (TrappedAt stop.0 stop.1)) b

  -- a procedure has been run: it is over, with its value or trapped
  abbrev pub Returns : Cost → CodeTree → Words → End ℤ → Type 0
  Returns k t a (Ended v arrays) =
      (word : ℕ) × (b : Words) × HoldsValue word v × Shows lengths b arrays × Chain strands k t a (Over (Gave word)) b
  Returns k t a (Trapped stop arrays) =
      (b : Words) × Shows lengths b arrays × Chain strands k t a (Over (TrappedAt stop.0 stop.1)) b

  -- a test has been made
  abbrev pub Tested : (FrameWord → ℕ) → Words → (at inside next : ℕ) → Result ℤ TrapAt → Type 0
  Tested own a at inside next (Ok v) =
      Chain strands (cost 1 1 0 0) (Strand (at_work own at)) a (Strand (at_work own (which (holds v) inside next))) a
  Tested own a at inside next (Err stop) = Fails (cost 1 1 0 0) (Strand (at_work own at)) a stop

  -- a region has been split, of which the first part has so many words
  abbrev pub Parted : Scope → Layout → Frame → Region → Named → Named → (FrameWord → ℕ) → Words → (at next : ℕ) → Result ℕ TrapAt → Type 0
  Parted scope layout f q x y own a at next (Ok n) =
      (own' : FrameWord → ℕ) × Holds lengths scope layout (parts_frame f q n x y) own'
      × Chain strands (cost 1 1 0 0) (Strand (at_work own at)) a (Strand (at_work own' next)) a
  Parted scope layout f q x y own a at next (Err stop) = Fails (cost 1 1 0 0) (Strand (at_work own at)) a stop

  module _ (procedures : List Procedure) where
    -- a new frame of the procedure that a side calls, at its entry, holds the callee's frame
    pub record Enters (s : Side) (g : Frame) (callee : CodeFrame) : Type 0 where
      pub own : FrameWord → ℕ
      pub at : callee ≡ at_work own (entry_of code (number_of procedures s.callee.name))
      pub holds : Holds lengths (scope_of (procedure_named procedures s.callee.name))
          (parameter_layout (procedure_named procedures s.callee.name).parameters) g own

    -- a call has been begun
    abbrev pub Called : Side → Cost → (FrameWord → ℕ) → Words → (at next : ℕ) → Option ℕ → Result Frame TrapAt → Type 0
    Called s k own a at next to (Ok g) =
        (callee : CodeFrame) × Enters s g callee
        × Chain strands k (Strand (at_work own at)) a (Calling (waits own next None to) (Strand callee)) a
    Called s k own a at next to (Err stop) = Fails k (Strand (at_work own at)) a stop

    -- a fork has been begun; where the arguments trap none is counted
    abbrev pub Forked : Side → Side → (words : ℕ) → (FrameWord → ℕ) → Words → (at next : ℕ) → (left_to to : Option ℕ) → Result (Frame × Frame) TrapAt
        → Type 0
    Forked s u words own a at next left_to to (Ok g) =
        (left right : CodeFrame) × Enters s g.0 left × Enters u g.1 right
        × Chain strands (cost 1 1 1 words) (Strand (at_work own at)) a (Forking (waits own next left_to to) (Strand left) (Strand right)) a
    Forked s u words own a at next left_to to (Err stop) = Fails (cost 1 1 0 words) (Strand (at_work own at)) a stop
