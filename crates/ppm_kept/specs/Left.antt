-- The state by places with those places left out that others have followed, with takeover by entries: each
-- seeks, as it were, and has given out its pool up to where its heir left it. Where none was followed, as
-- by places, that is the state itself.
use Rattle.std.specs.Prelude.{◌≡◌, ◌≢◌, ◌⊎◌, ℕ, List, [], ◌∷◌}
use Rattle.ppm_strands.specs.Tree.{Words, Tree}
use Rattle.ppm_cells.specs.declared.cell.Cell.{Cell}
use Rattle.ppm_cells.specs.declared.restart.RestartKind.{RestartKind}
use Rattle.ppm_cells.specs.declared.restart.RestartKind.TheVariants.{Check, Seek}
use Rattle.ppm_cells.specs.declared.shape.Takeover.{Takeover}
use Rattle.ppm_cells.specs.declared.shape.Takeover.TheVariants.{ByPlaces}
use Rattle.ppm_strands.specs.Strand.{Frame}
use Rattle.ppm_code.specs.Strands.{Point, Result}
use Rattle.ppm_code.specs.declared.location.FrameWord.{FrameWord}
use Rattle.ppm_step.specs.Standings.{Standing, IsAt, IsWithin, IsRunning}
use Rattle.ppm_step.specs.State.{State as Machine, stand_of, happens}
use Rattle.ppm_step.specs.declared.row.Row.{Row}
use Rattle.ppm_step.specs.declared.row.Row.TheVariants.{Now}
use Rattle.ppm_step.specs.declared.row.Then.TheVariants.{Install, Fork}
use Rattle.ppm_step.specs.declared.turn.Act.{Act}
use Rattle.ppm_step.specs.declared.turn.Act.TheVariants.{Step}
use Rattle.ppm_step.specs.declared.turn.Turn.{Turn}
use Rattle.ppm_frames.specs.Skeletons.{Skeleton}
use Rattle.ppm_kept.specs.Running.{IsFair}
use Rattle.ppm_kept.specs.Kept.{Setting, State, put, IsKept}
use Rattle.ppm_kept.specs.Others.{IsIdle}
use Rattle.ppm_kept.specs.Heirs.{settled}
use Rattle.ppm_kept.specs.Places.{places_of}
use Rattle.ppm_kept.specs.Steps.{act_with, ActsSo}

-- a place that was followed, and where the free words of its pool began
pub record Followed : Type 0 where
  pub place : ℕ
  pub top : ℕ

-- the words and the kinds with each of them left out, the newest first
abbrev pub left_words : Setting → List Followed → (Cell → ℕ) → Cell → ℕ
left_words i [] m = m
left_words i (v ∷ l) m = settled i (left_words i l m) v.place v.top

abbrev pub left_kinds : List Followed → (ℕ → RestartKind) → ℕ → RestartKind
left_kinds [] k = k
left_kinds (v ∷ l) k = put (left_kinds l k) v.place Seek

-- the state so
abbrev pub left : Setting → List Followed → State → State
left i l s = record { words = left_words i l s.words; kind = left_kinds l s.kind; doing = s.doing }

-- a place is none of them
abbrev pub IsAway : List Followed → (place : ℕ) → Type 0
IsAway [] p = Unit {0}
IsAway (v ∷ l) p = (p ≢ v.place) × IsAway l p

-- no place was followed twice
abbrev pub AreApart : List Followed → Type 0
AreApart [] = Unit {0}
AreApart (v ∷ l) = IsAway l v.place × AreApart l

-- nor is the place of a processor that takes a step
abbrev pub StandsAway : List Followed → Standing → Type 0
StandsAway l (IsAt p restart) = IsAway l p
StandsAway l (IsWithin seat row) = IsAway l seat.place
StandsAway l (IsRunning seat rest) = IsAway l seat.place
StandsAway l standing = Unit {0}

-- a place that checks what it stole goes on with nothing that it inherited
abbrev pub LooksOn : RestartKind → Row → Type 0
LooksOn (Check v x) (Now (Install restart)) = IsIdle restart.kind
LooksOn (Check v x) (Now (Fork block)) = ⊥
LooksOn k row = Unit {0}

-- by places no other does
abbrev pub InheritsNone : Takeover → Standing → Type 0
InheritsNone how (IsWithin seat row) = (how ≡ ByPlaces) ⊎ LooksOn seat.restart.kind row
InheritsNone how standing = Unit {0}

-- what it takes of the deque's half, beside `ActsSo`
abbrev pub StepsAway : Setting → List Followed → Act → Standing → Type 0
StepsAway i l (Step victim) standing = StandsAway l standing × InheritsNone i.shape.takeover standing
StepsAway i l act standing = Unit {0}

-- With either takeover: a turn by which no place goes on with what it inherited keeps the state with the
-- followed places left out, with the skeleton after it.
abbrev pub TurnsKeepLeft : Type 0
TurnsKeepLeft = (i : Setting) → IsFair i.code
    → (root : Tree (Frame FrameWord Point) Result) (input : Words) (state : Machine) (l : List Followed)
    → AreApart l → (t : Skeleton)
    → IsKept i root input (left i l (places_of i.shape state)) t → (turn : Turn)
    → ActsSo i state t turn.processor turn.act (stand_of state turn.processor)
    → StepsAway i l turn.act (stand_of state turn.processor)
    → IsKept i root input (left i l (places_of i.shape (happens i.shape i.code state turn)))
    (act_with i (left i l (places_of i.shape state)).words state.words turn.act (stand_of state turn.processor) t)
