-- Trees of strands in which something is left to do. In such a tree a place has a strand, or a right branch may be taken; and what a run
-- makes of a tree leaves it so.
use Rattle.std.specs.Prelude.{◌≡◌, ◌⊎◌, ◌≤◌, ℕ}
use Rattle.ppm_frames.specs.Skeletons.{Stand, Who, InPlace, Fresh, Waiting, Held, Came, Inlined, Skeleton, Leaf, Calling, Forking}
use Rattle.ppm_frames.specs.Skeletons.{at, grow, back, joined, over_left, pushed, inlined, take_in, Around, plug}
use Rattle.ppm_kept.specs.Unruns.{IsLeafOf}

-- a branch that no place runs yet, or that came first
abbrev pub IsPaused : Skeleton → Type 0
IsPaused t = IsLeafOf Fresh t ⊎ (IsLeafOf Waiting t ⊎ (IsLeafOf Held t ⊎ IsLeafOf Came t))

-- The tree advances: in each fork a branch advances, or the right one waits to be taken. If the left branch came first, the right one
-- advances or waits. If one strand runs both branches, and has ended the left one, the right one advances. Else the left one advances, and
-- the right one does too or is paused.
abbrev pub Advances : Skeleton → Type 0
Advances (Leaf (InPlace p) st f n) = Unit {0}
Advances (Leaf Fresh st f n) = ⊥
Advances (Leaf Waiting st f n) = ⊥
Advances (Leaf Held st f n) = ⊥
Advances (Leaf Came st f n) = ⊥
Advances (Leaf Inlined st f n) = ⊥
Advances (Calling f n y t) = Advances t
Advances (Forking f n y r a b) =
    (Advances a × (Advances b ⊎ IsPaused b)) ⊎ ((IsLeafOf Came a × (Advances b ⊎ IsLeafOf Waiting b)) ⊎ (IsLeafOf Inlined a × Advances b))

-- the right branch of some block of the tree waits to be taken
abbrev pub SomeWaits : Skeleton → Type 0
SomeWaits (Leaf w st f n) = ⊥
SomeWaits (Calling f n y t) = SomeWaits t
SomeWaits (Forking f n y r a b) = IsLeafOf Waiting b ⊎ (SomeWaits a ⊎ SomeWaits b)

-- a place has a strand of the tree, or a right branch of it waits to be taken
abbrev pub HasReady : Skeleton → Type 0
HasReady t = ((p : ℕ) × (1 ≤ at p t)) ⊎ SomeWaits t

-- each tree that advances has something to do
abbrev pub AdvancingAreReady : Type 0
AdvancingAreReady = (t : Skeleton) → Advances t → HasReady t

-- A tree that advances does so after each of these changes: the strand of place p goes on as something that advances, returns to a frame, joins
-- into a frame, pushes its right branch, or place p takes a branch.
pub record AdvanceStays (p : ℕ) (t : Skeleton) : Type 0 where
  pub grows : (u : Stand → ℕ → ℕ → Skeleton) → ((st : Stand) (f n : ℕ) → Advances (u st f n)) → Advances (grow p u t)
  pub returns : (k : ℕ → Stand) → Advances (back p k t)
  pub joins : (k : ℕ → Stand) → Advances (joined p k t)
  pub pushes : (w : Who) → (w ≡ Waiting) ⊎ (w ≡ Held) → Advances (over_left p (pushed w) t)
  pub takes : (r : ℕ) → Advances (take_in r p t)

-- of each place and tree
abbrev pub AllAdvance : Type 0
AllAdvance = (p : ℕ) (t : Skeleton) → Advances t → AdvanceStays p t

-- At the fork of the branch that place p runs: the left branch may come first beside a right one that runs or waits, and the right one beside
-- a left one that runs. A strand that ends the left branch goes on with the right one that it holds.
pub record AdvanceThere (p : ℕ) (c : Around) (f n y r : ℕ) (st : Stand) (g m : ℕ) (b : Skeleton) : Type 0 where
  pub came_left : (IsLeafOf Fresh b → ⊥) → (IsLeafOf Held b → ⊥) → (IsLeafOf Came b → ⊥)
      → Advances (plug c (Forking f n y r (Leaf (InPlace p) st g m) b)) → Advances (plug c (Forking f n y r (Leaf Came st g m) b))
  pub came_right : (IsLeafOf Came b → ⊥) → (IsLeafOf Inlined b → ⊥)
      → Advances (plug c (Forking f n y r b (Leaf (InPlace p) st g m))) → Advances (plug c (Forking f n y r b (Leaf Came st g m)))
  pub inlines : IsLeafOf Held b
      → Advances (plug c (Forking f n y r (Leaf (InPlace p) st g m) b)) → Advances (plug c (inlined p f n y r (Leaf (InPlace p) st g m) b))

-- of each such fork
abbrev pub AllAdvanceThere : Type 0
AllAdvanceThere = (p : ℕ) (c : Around) (f n y r : ℕ) (st : Stand) (g m : ℕ) (b : Skeleton) → AdvanceThere p c f n y r st g m b
