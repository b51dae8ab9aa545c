-- The blocks that were forked, over a whole turn, by places.
use Rattle.std.specs.Prelude.{◌≡◌, ℕ, Bool, false, List, [], ◌∷◌}
use Rattle.ppm_strands.specs.Tree.{Words, Tree}
use Rattle.ppm_cells.specs.declared.shape.Takeover.TheVariants.{ByPlaces}
use Rattle.ppm_strands.specs.Strand.{Frame}
use Rattle.ppm_code.specs.Strands.{Point, Result}
use Rattle.ppm_code.specs.declared.location.FrameWord.{FrameWord}
use Rattle.ppm_step.specs.State.{State as Machine, stand_of, happens, forks_of}
use Rattle.ppm_step.specs.declared.turn.Turn.{Turn}
use Rattle.ppm_frames.specs.Skeletons.{Skeleton}
use Rattle.ppm_kept.specs.Running.{IsFair}
use Rattle.ppm_cells.specs.declared.restart.RestartKind.{RestartKind}
use Rattle.ppm_cells.specs.declared.restart.RestartKind.TheVariants.{Bump}
use Rattle.ppm_kept.specs.Heirs.{GoesOnAs, inherits}
use Rattle.ppm_kept.specs.Kept.{Setting, State, IsKept}
use Rattle.ppm_kept.specs.Left.{Followed, left, AreApart, StepsAway}
use Rattle.ppm_kept.specs.Others.{IsIdle}
use Rattle.ppm_kept.specs.Births.{Births, with_block}
use Rattle.ppm_kept.specs.Places.{places_of}
use Rattle.ppm_kept.specs.Steps.{ActsSo}

-- those blocks, and more
abbrev pub with_blocks : List ℕ → (ℕ → Bool) → ℕ → Bool
with_blocks [] born = born
with_blocks (r ∷ l) born = with_block r (with_blocks l born)

-- With takeover by places: as `turns_keep`, a turn leaves the blocks that were forked, with those that
-- it forks, below what each place may still open; also where it stops the run
abbrev pub TurnsBear : Type 0
TurnsBear = (i : Setting) → IsFair i.code → i.shape.takeover ≡ ByPlaces
    → (root : Tree (Frame FrameWord Point) Result) (input : Words) (state : Machine) (t : Skeleton)
    → IsKept i root input (places_of i.shape state) t
    → (born : ℕ → Bool) → Births i (places_of i.shape state) born → (turn : Turn)
    → ActsSo i state t turn.processor turn.act (stand_of state turn.processor)
    → Births i (places_of i.shape (happens i.shape i.code state turn)) (with_blocks (forks_of state turn) born)

-- With either takeover, as `turns_keep_left` has it, of the state with the followed places left out
abbrev pub TurnsBearLeft : Type 0
TurnsBearLeft = (i : Setting) → IsFair i.code
    → (root : Tree (Frame FrameWord Point) Result) (input : Words) (state : Machine) (l : List Followed)
    → AreApart l → (t : Skeleton)
    → IsKept i root input (left i l (places_of i.shape state)) t
    → (born : ℕ → Bool) → Births i (left i l (places_of i.shape state)) born → (turn : Turn)
    → ActsSo i state t turn.processor turn.act (stand_of state turn.processor)
    → StepsAway i l turn.act (stand_of state turn.processor)
    → Births i (left i l (places_of i.shape (happens i.shape i.code state turn))) (with_blocks (forks_of state turn) born)

-- Where a place goes on with a closed one's strand, so they do still. A block that the closed place was about
-- to open was not forked before, and with it they do too.
abbrev pub HeirsBear : Type 0
HeirsBear = (i : Setting) → IsFair i.code
    → (root : Tree (Frame FrameWord Point) Result) (input : Words) (s : State) (t : Skeleton)
    → IsKept i root input s t → (born : ℕ → Bool) → Births i s born
    → (v p : ℕ) → IsIdle (s.kind p) → (k : RestartKind) → GoesOnAs s t v (s.kind v) k
    → Births i (inherits i s v p k) born
    × ((r : ℕ) → s.kind v ≡ Bump r → (born r ≡ false) × Births i (inherits i s v p k) (with_block r born))
