-- What turns owe to the tickets, from the tree of strands.
use Rattle.std.specs.Prelude.{◌≡◌, ◌⊎◌, ◌≤◌, ℕ, false, List, ◌++◌}
use Rattle.ppm_strands.specs.Tree.{Words, Tree}
use Rattle.ppm_cells.specs.declared.shape.Shape.{Shape}
use Rattle.ppm_cells.specs.declared.shape.Takeover.TheVariants.{ByPlaces}
use Rattle.ppm_strands.specs.Strand.{Frame}
use Rattle.ppm_code.specs.Strands.{Point, Result}
use Rattle.ppm_code.specs.declared.code.CodeParts.{CodeParts}
use Rattle.ppm_code.specs.declared.location.FrameWord.{FrameWord}
use Rattle.ppm_step.specs.Among.{IsTurnAmong}
use Rattle.ppm_step.specs.Standings.{IsWithin, IsBroken}
use Rattle.ppm_step.specs.State.{State as RunState, stand_of, happens, forks_of, takes_of}
use Rattle.ppm_step.specs.declared.row.Row.TheVariants.{Now}
use Rattle.ppm_step.specs.declared.row.Seat.{Seat}
use Rattle.ppm_step.specs.declared.row.Then.TheVariants.{Load, Fork, Begin}
use Rattle.ppm_step.specs.declared.turn.Turn.{Turn}
use Rattle.ppm_tickets.specs.Along.{IsJoined, IsOrderly, by_act}
use Rattle.ppm_tickets.specs.Entries.{IsPooledAt}
use Rattle.ppm_cells.specs.declared.restart.RestartKind.{RestartKind}
use Rattle.ppm_cells.specs.declared.restart.RestartKind.TheVariants.{Push1, Pop2, Check}
use Rattle.ppm_step.specs.declared.row.Point.TheVariants.{Offset}
use Rattle.ppm_tickets.specs.Homes.{Home, Pushing, Popping, Stolen}
use Rattle.ppm_tickets.specs.Renewal.{IsLawful}
use Rattle.ppm_tickets.specs.View as spots
use Rattle.ppm_tickets.specs.Words.{has}
use Rattle.ppm_frames.specs.Skeletons.{Skeleton}
use Rattle.ppm_kept.specs.Running.{IsFair}
use Rattle.ppm_kept.specs.Kept.{IsKept}
use Rattle.ppm_kept.specs.Births.{Births}
use Rattle.ppm_kept.specs.Places.{places_of}
use Rattle.ppm_kept.specs.Steps.{tree_after, SaysStop}
use Rattle.ppm_runs.specs.Run.{setting, IsRun}

module _ (s : Shape) (code : CodeParts) (root : Tree (Frame FrameWord Point) Result) (input : Words) (state : RunState) (h : ℕ → Home) (forked taken : List ℕ) (t : Skeleton) where
  -- what each premise of an orderly turn comes of
  pub record Owes : Type 0 where
    -- a block word that a step changes is one of a pool
    pub pooled : (c : ℕ) → IsPooledAt s (stand_of state c)
    -- a block that is forked was not forked before
    pub forks : (c : ℕ) (seat : Seat) (block : ℕ) → stand_of state c ≡ IsWithin seat (Now (Fork block))
        → has forked block ≡ false
    -- a branch that is begun where its left one joins was left to that strand
    pub joins : (c : ℕ) (seat : Seat) (block frame bottom : ℕ)
        → stand_of state c ≡ IsWithin seat (Now (Begin block frame bottom))
        → IsJoined seat.restart.kind (h block)
    -- the next turn is orderly, whosever it is
    pub orderly : (turn : Turn) → IsTurnAmong s.processors turn
        → IsOrderly s state.words turn.act (stand_of state turn.processor) h forked

-- with takeover by places, in each state of a run
abbrev pub TurnsAreOrderly : Type 0
TurnsAreOrderly = (s : Shape) (code : CodeParts) → s.takeover ≡ ByPlaces → IsFair code
    → (root : Tree (Frame FrameWord Point) Result) (input : Words) (state : RunState) (h : ℕ → Home) (forked taken : List ℕ) (t : Skeleton)
    → IsRun s code root input state h forked taken t
    → Owes s code root input state h forked taken t

-- a place that is about to take a branch got it back, or stole it
abbrev pub IsTakers : (place : ℕ) → RestartKind → Home → Type 0
IsTakers p (Pop2 r) x = x ≡ Popping p
IsTakers p (Check v i) x = x ≡ Stolen p
IsTakers p k x = Unit {0}

-- Where branches are that places are about to push or to take: at those places. So no two places are
-- about to take one.
pub record TakersAre (s : Shape) (state : RunState) (h : ℕ → Home) : Type 0 where
  pub pushes : (p r : ℕ) → spots.kinds s state.words p ≡ Push1 r → h r ≡ Pushing p
  pub offsets : (c : ℕ) (seat : Seat) (r low : ℕ) → stand_of state c ≡ IsWithin seat (Now (Load (Offset r low)))
      → IsTakers seat.place seat.restart.kind (h r)
  pub begins : (c : ℕ) (seat : Seat) (r f low : ℕ) → stand_of state c ≡ IsWithin seat (Now (Begin r f low))
      → IsTakers seat.place seat.restart.kind (h r)

-- with takeover by places, in each state that is lawful
abbrev pub TakersHave : Type 0
TakersHave = (s : Shape) (code : CodeParts) → s.takeover ≡ ByPlaces
    → (state : RunState) (h : ℕ → Home) (forked taken : List ℕ)
    → IsLawful s code state h forked taken → TakersAre s state h

-- after each turn of a run's state words are lawful, with the homes and lists that the turn makes; and
-- they are kept, with the tree after it, or the run was stopped by a finish that is no outcome
pub record RunsGoOn (s : Shape) (code : CodeParts) (root : Tree (Frame FrameWord Point) Result) (input : Words) (state : RunState) (h : ℕ → Home) (forked taken : List ℕ) (t : Skeleton) : Type 0 where
  pub lawful : (turn : Turn) → IsTurnAmong s.processors turn
      → IsLawful s code (happens s code state turn) (by_act s state.words turn.act (stand_of state turn.processor) h) (forks_of state turn ++ forked) (takes_of state turn ++ taken)
  pub kept : (turn : Turn) → IsTurnAmong s.processors turn
      → IsKept (setting s code) root input (places_of s (happens s code state turn)) (tree_after (setting s code) state turn t)
      ⊎ SaysStop s (happens s code state turn).words

-- with takeover by places
abbrev pub TurnsGoOn : Type 0
TurnsGoOn = (s : Shape) (code : CodeParts) → s.takeover ≡ ByPlaces → IsFair code
    → (root : Tree (Frame FrameWord Point) Result) (input : Words) (state : RunState) (h : ℕ → Home) (forked taken : List ℕ) (t : Skeleton)
    → IsRun s code root input state h forked taken t
    → RunsGoOn s code root input state h forked taken t

-- after each turn blocks are forked upwards still, those of the turn among them
abbrev pub BirthsFollow : Type 0
BirthsFollow = (s : Shape) (code : CodeParts) → s.takeover ≡ ByPlaces → IsFair code
    → (root : Tree (Frame FrameWord Point) Result) (input : Words) (state : RunState) (h : ℕ → Home) (forked taken : List ℕ) (t : Skeleton)
    → IsRun s code root input state h forked taken t
    → (turn : Turn) → IsTurnAmong s.processors turn
    → Births (setting s code) (places_of s (happens s code state turn)) (has (forks_of state turn ++ forked))

-- after each turn who has met broken words knows a place, or that it is at none
abbrev pub BrokenFollow : Type 0
BrokenFollow = (s : Shape) (code : CodeParts) (root : Tree (Frame FrameWord Point) Result) (input : Words) (state : RunState) (h : ℕ → Home) (forked taken : List ℕ) (t : Skeleton)
    → IsRun s code root input state h forked taken t
    → (turn : Turn) (c p : ℕ) → stand_of (happens s code state turn) c ≡ IsBroken p → p ≤ 64
