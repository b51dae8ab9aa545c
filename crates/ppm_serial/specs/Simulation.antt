-- Which runs over slots have which rest of the meaning still to come.
use Rattle.std.specs.Prelude.{◌≡◌, ◌≤◌, ◌<◌, ◌+◌, ℕ, ℤ, true, false, List, [], ◌∷◌, Option, Result, Ok, Err, length, drop, get_or, codes, ⊤}
use Rattle.ppm_tree.specs.declared.named.Named.{Named}
use Rattle.ppm_tree.specs.Tree.{Expression, Block, Give, Procedure}
use Rattle.ppm_tree.specs.State.{TrapAt, Region, Regions, Frame, Arrays, nowhere, procedure_named}
use Rattle.ppm_tree.specs.Meaning.{End, Ended}
use Rattle.ppm_serial.specs.declared.code.Stop.{Stop}
use Rattle.ppm_serial.specs.declared.code.Stop.TheVariants as stop
use Rattle.ppm_serial.specs.declared.code.Value.{Value}
use Rattle.ppm_serial.specs.declared.code.Step.TheVariants as step
use Rattle.ppm_serial.specs.declared.code.Place.{Place}
use Rattle.ppm_serial.specs.declared.stack.Rest.{Rest}
use Rattle.ppm_serial.specs.declared.stack.Rest.TheVariants as rest
use Rattle.ppm_serial.specs.declared.stack.Sweep.{Sweep}
use Rattle.ppm_serial.specs.declared.stack.Caller.{Caller}
use Rattle.ppm_serial.specs.declared.run.Run.{Run}
use Rattle.ppm_serial.specs.Slots.{Slots}
use Rattle.ppm_serial.specs.Names.{Slotted, slot_in, names_of, frame_of}
use Rattle.ppm_serial.specs.Code.{Laid, block_at, routine_at}
use Rattle.ppm_serial.specs.Laying.{Fits, IsWorth, IsLocal, IsRegion, IsTarget, IsGive, Lies, place_in}
use Rattle.ppm_serial.specs.ToCome.{Item, Behind, Tests, Leaves, Sweeping, Returns, Crosses, Joins, Trap, Block_, Loop_, Shifts}

-- where a run stands in the meaning: before a block, before the test of a loop, or at its end
pub data Point : Type 0 where
  AtBlock : (block : Block) (frame : Frame) (arrays : Arrays) (items : List Item) → Point
  AtLoop : (test : Expression) (block : Block) (frame : Frame) (arrays : Arrays) (items : List Item) → Point
  AtEnd : (end : End ℤ) → Point

module _ (procedures : List Procedure) where
  -- the procedure `main`
  abbrev pub main_named : Procedure
  main_named = procedure_named procedures (codes "main")

  -- what is still to come there
  abbrev pub Way : Point → ℕ → End ℤ → Type 0
  Way (AtBlock b f a k) n z = Block_ procedures main_named.give b f a k n z
  Way (AtLoop e p f a k) n z = Loop_ procedures main_named.give e p f a k n z
  Way (AtEnd y) n z = (n ≡ 0) × (z ≡ y)

  module _ (c : Laid) where
    -- the steps from a place on stand for a block
    abbrev pub Stands_at : Slotted → Block → Place → Type 0
    Stands_at n b p = Lies procedures c.blocks n b (drop p.at (block_at c p.block))

    -- a place is before the test of a loop
    pub record IsTest (n : Slotted) (e : Expression) (s : Block) (p : Place) : Type 0 where
      pub value : Value
      pub block : ℕ
      pub steps : block_at c p.block ≡ step.Test value block ∷ []
      pub first : p.at ≡ 0
      pub worth : IsWorth n e value
      pub lies : Lies procedures c.blocks n s (get_or c.blocks block [])

    -- who waits has such a frame, and goes on with such a block
    pub record Waits (m : Slotted) (x : Option Named) (f : Frame) (b : Block) (q : Caller) : Type 0 where
      pub frame : f ≡ frame_of m q.frame
      pub fits : Fits m q.frame
      pub target : IsTarget m x q.target
      pub place : Stands_at m b q.place

    -- such blocks of an `each` are still to come
    pub record Sweeps_ (n : Slotted) (i x : Named) (s : Block) (r : Region) (f : Frame) (from count : ℕ) (b : Block) (w : Sweep) : Type 0 where
      pub frame : f ≡ frame_of n w.frame
      pub fits : Fits n w.frame
      pub index : IsLocal n i.name w.index
      pub part : IsRegion n x.name w.part
      pub region : w.region ≡ r
      pub next : w.next ≡ from
      pub sum : from + count ≡ r.length
      pub block : Lies procedures c.blocks n s (get_or c.blocks w.block [])
      pub place : Stands_at n b w.place

    -- what is on the stack is still to come, for a procedure with these names
    pub data Stacks : Slotted → List Rest → List Item → Type 0 where
      Empty : Stacks (names_of main_named) [] []
      OnBlock : (n : Slotted) (b : Block) (p : Place) (k : List Rest) (items : List Item) → Stands_at n b p → Stacks n k items
          → Stacks n (rest.Block p ∷ k) (Behind b ∷ items)
      OnTest : (n : Slotted) (e : Expression) (s : Block) (p : Place) (k : List Rest) (items : List Item) → IsTest n e s p → Stacks n k items
          → Stacks n (rest.Block p ∷ k) (Tests e s ∷ items)
      OnParts : (n : Slotted) (b : Block) (rs : Regions) (old : List Region) (p : Place) (k : List Rest) (items : List Item)
          → rs ≡ (λ x. get_or old (slot_in n.regions x) nowhere) → length old ≡ length n.regions → Stands_at n b p → Stacks n k items
          → Stacks n (rest.Parts old p ∷ k) (Leaves rs ∷ Behind b ∷ items)
      OnSweep : (n : Slotted) (i x : Named) (s : Block) (r : Region) (f : Frame) (next count : ℕ) (b : Block) (w : Sweep) (k : List Rest) (items : List Item)
          → Sweeps_ n i x s r f next count b w → Stacks n k items → Stacks n (rest.Sweep w ∷ k) (Sweeping i x s r f next count ∷ Behind b ∷ items)
      OnCall : (n m : Slotted) (g : Option Give) (x : Option Named) (f : Frame) (b : Block) (q : Caller) (k : List Rest) (items : List Item)
          → IsGive n g (routine_at c q.callee).give → Waits m x f b q → Stacks m k items
          → Stacks n (rest.Call q ∷ k) (Returns g x f ∷ Behind b ∷ items)
      OnLeft : (n m : Slotted) (g : Option Give) (x y : Option Named) (f : Frame) (b : Block) (callee : List ℕ) (l : ℕ) (h : Frame) (q : Caller)
          (j : Option ℕ) (entered : Slots) (k : List Rest) (items : List Item) → l ≡ place_in procedures callee
          → IsGive n g (routine_at c q.callee).give → Waits m x f b q → IsTarget m y j → h ≡ frame_of (names_of (procedure_named procedures callee)) entered
          → Fits (names_of (procedure_named procedures callee)) entered → Stacks m k items
          → Stacks n (rest.Left q j l entered ∷ k) (Crosses g x y f (procedure_named procedures callee) h ∷ Behind b ∷ items)
      OnRight : (n m : Slotted) (g : Option Give) (x y : Option Named) (f : Frame) (b : Block) (q : Caller) (j : Option ℕ) (v : ℤ) (k : List Rest) (items : List Item)
          → IsGive n g (routine_at c q.callee).give → Waits m y f b q → IsTarget m x j → Stacks m k items
          → Stacks n (rest.Right q j v ∷ k) (Joins g x y f v ∷ Behind b ∷ items)

    -- a run stands at a point
    pub data Shows : Run → Point → Type 0 where
      InBlock : (n : Slotted) (b : Block) (f : Frame) (s : Run) (items : List Item) → s.ended ≡ false → f ≡ frame_of n s.frame → Fits n s.frame
          → Stands_at n b s.place → Stacks n s.stack items → Shows s (AtBlock b f s.store items)
      InLoop : (n : Slotted) (e : Expression) (p : Block) (f : Frame) (s : Run) (items : List Item) → s.ended ≡ false → f ≡ frame_of n s.frame → Fits n s.frame
          → IsTest n e p s.place → Stacks n s.stack items → Shows s (AtLoop e p f s.store items)
      Over : (v : ℤ) (s : Run) → s.ended ≡ true → Shows s (AtEnd (Ended v s.store))

    -- a run goes on to another, after so many turns
    pub record Goes (left : ℕ) (A : ℕ → End ℤ → Type 0) (t : Run) : Type 0 where
      pub point : Point
      pub spent : ℕ
      pub shows : Shows t point
      pub sum : left ≡ spent + t.left
      pub shifts : Shifts spent A (Way point)

    -- a run stops at a trap, after so many turns
    pub record Traps (left : ℕ) (A : ℕ → End ℤ → Type 0) (t : TrapAt) : Type 0 where
      pub arrays : Arrays
      pub spent : ℕ
      pub within : spent ≤ left
      pub shifts : Shifts spent A (Trap t arrays)

    -- a step does what is still to come
    abbrev pub Moves : ℕ → (ℕ → End ℤ → Type 0) → Result Run Stop → Type 0
    Moves left A (Ok t) = Goes left A t
    Moves left A (Err (stop.Trapped t line)) = Traps left A (t, line)
    Moves left A (Err stop.NotWithin) = (n : ℕ) (z : End ℤ) → A n z → left < n
    Moves left A (Err stop.NoMemory) = ⊤
