-- What is still to come of a run, and what it still spends: the meaning, with the rest of the run as a list.
use Rattle.std.specs.Prelude.{◌≡◌, ℕ, ◌+◌, ℤ, pos, List, [], ◌∷◌, Option, Some, None, Result, Ok, Err}
use Rattle.ppm_tree.specs.declared.named.Named.{Named}
use Rattle.ppm_tree.specs.Tree.{Expression, Block, Give, Procedure}
use Rattle.ppm_tree.specs.State.{TrapAt, Region, Regions, Locals, Frame, Arrays, evaluate}
use Rattle.ppm_tree.specs.Meaning.{Plain, Counts, End, Ended, Trapped, end_of, returned, joined, Runs, Loops, Enters, Sweeps}

-- what comes after a block: another block, the tests of a loop, the end of a split's block, further blocks of an `each`, and
-- who waits for a procedure that gives
pub data Item : Type 0 where
  Behind : (block : Block) → Item
  Tests : (test : Expression) (block : Block) → Item
  Leaves : (regions : Regions) → Item
  Sweeping : (index part : Named) (block : Block) (region : Region) (frame : Frame) (next count : ℕ) → Item
  Returns : (give : Option Give) (target : Option Named) (frame : Frame) → Item
  Crosses : (give : Option Give) (left right : Option Named) (frame : Frame) (procedure : Procedure) (entered : Frame) → Item
  Joins : (give : Option Give) (left right : Option Named) (frame : Frame) (value : ℤ) → Item

-- a stretch that ends with so many turns, and then what comes after it
pub record Two {A : Type 0} (P : Counts → End A → Type 0) (Q : End A → ℕ → End ℤ → Type 0) (n : ℕ) (z : End ℤ) : Type 0 where
  pub counts : Counts
  pub middle : End A
  pub rest : ℕ
  pub first : P counts middle
  pub second : Q middle rest z
  pub sum : n ≡ counts.turns + rest

-- the end is this trap, and nothing more is spent
abbrev pub Trap : TrapAt → Arrays → ℕ → End ℤ → Type 0
Trap stop a n z = (n ≡ 0) × (z ≡ Trapped stop a)

-- goes on with what was found, or the end is the trap
abbrev pub Opens : {A : Type 0} → Result A TrapAt → Arrays → (A → ℕ → End ℤ → Type 0) → ℕ → End ℤ → Type 0
Opens (Ok x) a go n z = go x n z
Opens (Err stop) a go n z = Trap stop a n z

-- a frame of regions and locals
abbrev pub of : Regions → Locals → Frame
of rs l = record { regions = rs; locals = l }

-- what a procedure gives at its end
abbrev pub gave : Option Give → Regions → Locals → Arrays → End ℤ
gave None rs l a = Ended (pos 0) a
gave (Some g) rs l a = end_of (evaluate (of rs l) a g.value) a (λ v. Ended v a)

-- so many turns, and then
pub record Later (c : ℕ) (Q : ℕ → End ℤ → Type 0) (n : ℕ) (z : End ℤ) : Type 0 where
  pub rest : ℕ
  pub sum : n ≡ c + rest
  pub next : Q rest z

-- the turns of a `give`
abbrev pub given_turns : Option Give → ℕ
given_turns None = 0
given_turns (Some g) = 1

-- at the end of a body its procedure gives, and then
abbrev pub Gave : Option Give → Regions → (End ℤ → ℕ → End ℤ → Type 0) → End Locals → ℕ → End ℤ → Type 0
Gave g rs Q (Trapped stop a) n z = Trap stop a n z
Gave g rs Q (Ended l a) n z = Later (given_turns g) (Q (gave g rs l a)) n z

module _ (procedures : List Procedure) where
  -- after a left branch the right one comes, and then
  abbrev pub Crossed : Procedure → Frame → (ℤ → End ℤ → ℕ → End ℤ → Type 0) → End ℤ → ℕ → End ℤ → Type 0
  Crossed p h Q (Trapped stop a) n z = Trap stop a n z
  Crossed p h Q (Ended v a) n z = Two (Enters Plain procedures p h a) (Q v) n z

  -- From the end of a block in a frame of these regions the run has its end, with so many turns more. A trap is the end;
  -- with nothing left the first procedure gives.
  abbrev pub After : Option Give → List Item → Regions → End Locals → ℕ → End ℤ → Type 0
  After main k rs (Trapped stop a) n z = Trap stop a n z
  After main [] rs (Ended l a) n z = (n ≡ given_turns main) × (z ≡ gave main rs l a)
  After main (Behind b ∷ k) rs (Ended l a) n z = Two (Runs Plain procedures b (of rs l) a) (After main k rs) n z
  After main (Tests e s ∷ k) rs (Ended l a) n z = Two (Loops Plain procedures e s (of rs l) a) (After main k rs) n z
  After main (Leaves rs' ∷ k) rs (Ended l a) n z = After main k rs' (Ended l a) n z
  After main (Sweeping i x s r f p m ∷ k) rs (Ended l a) n z = Two (Sweeps Plain procedures i x s r f p m a) (After main k f.regions) n z
  After main (Returns g x f ∷ k) rs (Ended l a) n z = Gave g rs (λ y. After main k f.regions (returned x f y)) (Ended l a) n z
  After main (Crosses g x y f p h ∷ k) rs (Ended l a) n z =
      Gave g rs (Crossed p h (λ v w. After main k f.regions (joined x y f (Ended v []) w))) (Ended l a) n z
  After main (Joins g x y f v ∷ k) rs (Ended l a) n z = Gave g rs (λ w. After main k f.regions (joined x y f (Ended v []) w)) (Ended l a) n z

  -- a block in a frame, and what comes after it
  abbrev pub Block_ : Option Give → Block → Frame → Arrays → List Item → ℕ → End ℤ → Type 0
  Block_ main b f a k n z = Two (Runs Plain procedures b f a) (After main k f.regions) n z

  -- the tests of a loop, and what comes after them
  abbrev pub Loop_ : Option Give → Expression → Block → Frame → Arrays → List Item → ℕ → End ℤ → Type 0
  Loop_ main e s f a k n z = Two (Loops Plain procedures e s f a) (After main k f.regions) n z

  -- the blocks of an `each`, and what comes after them
  abbrev pub Sweep_ : Option Give → Named → Named → Block → Region → Frame → ℕ → ℕ → Arrays → List Item → ℕ → End ℤ → Type 0
  Sweep_ main i x s r f p m a k n z = Two (Sweeps Plain procedures i x s r f p m a) (After main k f.regions) n z

-- One way to go on is another after so many turns, both ways.
pub record Shifts (c : ℕ) (A B : ℕ → End ℤ → Type 0) : Type 0 where
  pub on : (n : ℕ) (z : End ℤ) → A n z → Later c B n z
  pub back : (n : ℕ) (z : End ℤ) → Later c B n z → A n z
