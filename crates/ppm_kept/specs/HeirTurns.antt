-- A turn by which a place goes on with what it inherited, with takeover by entries: the closed place is left
-- out of the state from then on.
use Rattle.std.specs.Prelude.{◌≡◌, ◌⊎◌, ◌≤◌, ◌<◌, ℕ, Bool, true, List, ◌∷◌}
use Rattle.ppm_strands.specs.Tree.{Words, Tree}
use Rattle.ppm_cells.specs.declared.restart.RestartKind.{RestartKind}
use Rattle.ppm_cells.specs.declared.restart.RestartKind.TheVariants.{Bump}
use Rattle.ppm_strands.specs.Strand.{Frame}
use Rattle.ppm_code.specs.Strands.{Point, Result}
use Rattle.ppm_code.specs.declared.location.FrameWord.{FrameWord}
use Rattle.ppm_step.specs.Standings.{IsWithin, then_is_there}
use Rattle.ppm_step.specs.State.{State as Machine, stand_of, happens, forks_of}
use Rattle.ppm_step.specs.declared.row.Row.TheVariants.{Now}
use Rattle.ppm_step.specs.declared.row.Seat.{Seat}
use Rattle.ppm_step.specs.declared.row.Then.{Then}
use Rattle.ppm_step.specs.declared.row.Then.TheVariants.{Install, Fork}
use Rattle.ppm_step.specs.declared.turn.Act.TheVariants.{Step}
use Rattle.ppm_cells.specs.declared.link.LinkKind.TheVariants.{Root}
use Rattle.ppm_frames.specs.Skeletons.{Fresh, Held, Skeleton, count}
use Rattle.ppm_kept.specs.Running.{IsFair}
use Rattle.ppm_kept.specs.Kept.{Setting, Resting, State, ceiling, IsKept}
use Rattle.ppm_kept.specs.Laws.{kind_then}
use Rattle.ppm_kept.specs.Others.{IsIdle}
use Rattle.ppm_kept.specs.Heirs.{handed, GoesOnAs}
use Rattle.ppm_kept.specs.Births.{Births}
use Rattle.ppm_kept.specs.Branches.{Untaken}
use Rattle.ppm_kept.specs.Unruns.{HasUnrun, SameUnruns}
use Rattle.ppm_kept.specs.Bearing.{with_blocks}
use Rattle.ppm_kept.specs.Left.{Followed, left, IsAway, AreApart}
use Rattle.ppm_kept.specs.Places.{kinds_of, places_of, Holds}

-- a row that ends so: a kind is installed, or a block forked, which the closed place was about to open
abbrev pub GoesOnBy : Then → (closed : RestartKind) → Type 0
GoesOnBy (Install restart) k = Unit {0}
GoesOnBy (Fork block) k = k ≡ Bump block
GoesOnBy next k = ⊥

-- what the deque's half says of it: the place v is closed, nobody is in it, and none has followed it
pub record Heired (i : Setting) (state : Machine) (l : List Followed) (t : Skeleton) (c : ℕ) (seat : Seat) (next : Then) (v : ℕ) : Type 0 where
  pub holds : Holds i.shape state c seat.place
  pub kind : kinds_of i.shape state.words seat.place ≡ seat.restart.kind
  pub there : then_is_there i.shape seat next ≡ true
  pub idle : IsIdle seat.restart.kind
  pub away : IsAway l seat.place
  pub place : v < i.shape.processors
  pub still : IsAway l v
  pub rests : (places_of i.shape state).doing v ≡ Resting
  pub ends : GoesOnBy next (kinds_of i.shape state.words v)
  pub goes : GoesOnAs (left i l (places_of i.shape state)) t v (kinds_of i.shape state.words v) (kind_then next)

-- with the place v followed too, from this state on
abbrev pub and_followed : Setting → List Followed → State → (v : ℕ) → List Followed
and_followed i l s v = record { place = v; top = ceiling i (left i l s).words v ((left i l s).kind v) } ∷ l

-- it keeps the state with that place left out too, with the closed place's leaf as the heir's
abbrev pub HeirTurnsKeep : Type 0
HeirTurnsKeep = (i : Setting) → IsFair i.code
    → (root : Tree (Frame FrameWord Point) Result) (input : Words) (state : Machine) (l : List Followed)
    → AreApart l → (t : Skeleton)
    → IsKept i root input (left i l (places_of i.shape state)) t
    → (c victim : ℕ) (seat : Seat) (next : Then) (v : ℕ) → stand_of state c ≡ IsWithin seat (Now next)
    → Heired i state l t c seat next v
    → IsKept i root input
    (left i (and_followed i l (places_of i.shape state) v) (places_of i.shape (happens i.shape i.code state (record { processor = c; act = Step victim }))))
    (handed v seat.place t)

-- and the blocks that were forked lie where they should, with the one that it forks
abbrev pub HeirTurnsBear : Type 0
HeirTurnsBear = (i : Setting) → IsFair i.code
    → (root : Tree (Frame FrameWord Point) Result) (input : Words) (state : Machine) (l : List Followed)
    → AreApart l → (t : Skeleton)
    → IsKept i root input (left i l (places_of i.shape state)) t
    → (born : ℕ → Bool) → Births i (left i l (places_of i.shape state)) born
    → (c victim : ℕ) (seat : Seat) (next : Then) (v : ℕ) → stand_of state c ≡ IsWithin seat (Now next)
    → Heired i state l t c seat next v
    → Births i
    (left i (and_followed i l (places_of i.shape state) v) (places_of i.shape (happens i.shape i.code state (record { processor = c; act = Step victim }))))
    (with_blocks (forks_of state (record { processor = c; act = Step victim })) born)

-- a branch that is not pushed yet, or held, is untaken beside any place's strand
abbrev pub UnrunsAreUntaken : Type 0
UnrunsAreUntaken = (t : Skeleton) → ((x : ℕ) → count Root t x ≤ 1) → (r : ℕ)
    → HasUnrun Fresh r t ⊎ HasUnrun Held r t → (v : ℕ) → Untaken v r t

-- where a strand is handed over the branches that were not run are the same
abbrev pub HandedSame : Type 0
HandedSame = (v p : ℕ) (t : Skeleton) → SameUnruns t (handed v p t)
