-- Both halves of a run's state and what joins them, with either takeover: by entries with those places left
-- out that others have followed. By places none is, and this is what `IsRun` says.
use Rattle.std.specs.Prelude.{◌≡◌, ℕ, ◌+◌, List, ◌++◌}
use Rattle.ppm_strands.specs.Tree.{Words, Tree}
use Rattle.ppm_cells.specs.declared.restart.RestartKind.TheVariants.{Run as RunFrame, Push1}
use Rattle.ppm_cells.specs.declared.shape.Shape.{Shape}
use Rattle.ppm_cells.specs.declared.shape.Takeover.{Takeover}
use Rattle.ppm_cells.specs.declared.shape.Takeover.TheVariants.{ByPlaces, ByEntries}
use Rattle.ppm_strands.specs.Strand.{Frame}
use Rattle.ppm_code.specs.Strands.{Point, Result}
use Rattle.ppm_code.specs.declared.code.CodeParts.{CodeParts}
use Rattle.ppm_code.specs.declared.location.FrameWord.{FrameWord}
use Rattle.ppm_step.specs.Among.{IsTurnAmong}
use Rattle.ppm_step.specs.Standings.{Standing}
use Rattle.ppm_step.specs.State.{State as RunState, stand_of, happens, forks_of, takes_of}
use Rattle.ppm_step.specs.declared.row.Point.TheVariants.{PushAbove}
use Rattle.ppm_step.specs.declared.row.Row.{Row}
use Rattle.ppm_step.specs.declared.row.Row.TheVariants.{Now, Exchange}
use Rattle.ppm_step.specs.declared.row.Then.TheVariants.{Load, Install}
use Rattle.ppm_step.specs.declared.turn.Act.{Act}
use Rattle.ppm_step.specs.declared.turn.Act.TheVariants.{Step}
use Rattle.ppm_step.specs.declared.turn.Turn.{Turn}
use Rattle.ppm_tickets.specs.Along.{by_act}
use Rattle.ppm_tickets.specs.Homes.{Home, Pushing}
use Rattle.ppm_tickets.specs.Lawful.{IsEmpty}
use Rattle.ppm_tickets.specs.View as spots
use Rattle.ppm_tickets.specs.Words.{Slot}
use Rattle.ppm_frames.specs.Skeletons.{Held, Skeleton}
use Rattle.ppm_kept.specs.Running.{IsFair}
use Rattle.ppm_kept.specs.Kept.{InRow}
use Rattle.ppm_kept.specs.Fates.{Agrees}
use Rattle.ppm_kept.specs.Left.{Followed, left, InheritsNone}
use Rattle.ppm_kept.specs.Places.{places_of}
use Rattle.ppm_kept.specs.Steps.{act_with}
use Rattle.ppm_kept.specs.Unruns.{HasUnrun}
use Rattle.ppm_runs.specs.Run.{setting, fate_of, IsAtLast}
use Rattle.ppm_runs.specs.Follow.{IsHalves, OpenRightly}

-- nothing is pushed above the place's bottom: by places it has no slot left, by entries the one above is empty
abbrev pub IsCapped : Takeover → Shape → List ℕ → (place : ℕ) → Type 0
IsCapped ByPlaces s words p = IsAtLast s words p
IsCapped ByEntries s words p = IsEmpty (spots.view s words (Slot p (spots.bottoms s words p + 1)))

-- a row of Push1 that is to push, past the load of the order word
abbrev pub PushesOn : Row → Type 0
PushesOn (Now (Load (PushAbove r))) = Unit {0}
PushesOn (Exchange cell old new next) = Unit {0}
PushesOn row = ⊥

-- What joins the halves: in the tree each right branch is what its home says; one is held by a place alone
-- that can't push; a place about to go on with the left branch has the right one held, and one about to push
-- has not; and blocks of closed places are opened by their links.
pub record AreJoint (s : Shape) (code : CodeParts) (state : RunState) (h : ℕ → Home) (l : List Followed) (t : Skeleton) : Type 0 where
  pub agrees : Agrees t (λ r. fate_of (h r))
  pub last : (r p : ℕ) → HasUnrun Held r t → h r ≡ Pushing p → IsCapped s.takeover s state.words p
  pub ready : (p r f y b : ℕ) → (left (setting s code) l (places_of s state)).kind p ≡ Push1 r
      → (places_of s state).doing p ≡ InRow (Now (Install (record { kind = RunFrame f y; bottom = b }))) → HasUnrun Held r t
  pub unheld : s.takeover ≡ ByEntries → (p r : ℕ) (row : Row) → (left (setting s code) l (places_of s state)).kind p ≡ Push1 r
      → (places_of s state).doing p ≡ InRow row → PushesOn row → HasUnrun Held r t → ⊥
  pub opens : OpenRightly s code state l

-- by where a processor stands that acts: no place goes on with what it inherited
abbrev pub StepsAlone : Takeover → Act → Standing → Type 0
StepsAlone how (Step victim) standing = InheritsNone how standing
StepsAlone how act standing = Unit {0}

-- the halves of a run's state are joined after each turn that keeps both, and by which no place goes on with what it inherited
abbrev pub JointsStay : Type 0
JointsStay = (s : Shape) (code : CodeParts) → IsFair code
    → (root : Tree (Frame FrameWord Point) Result) (input : Words) (state : RunState) (h : ℕ → Home) (forked taken : List ℕ) (l : List Followed) (t : Skeleton)
    → IsHalves s code root input state h forked taken l t → AreJoint s code state h l t
    → (turn : Turn) → IsTurnAmong s.processors turn → StepsAlone s.takeover turn.act (stand_of state turn.processor)
    → IsHalves s code root input (happens s code state turn) (by_act s state.words turn.act (stand_of state turn.processor) h) (forks_of state turn ++ forked) (takes_of state turn ++ taken) l
    (act_with (setting s code) (left (setting s code) l (places_of s state)).words state.words turn.act (stand_of state turn.processor) t)
    → AreJoint s code (happens s code state turn) (by_act s state.words turn.act (stand_of state turn.processor) h) l
    (act_with (setting s code) (left (setting s code) l (places_of s state)).words state.words turn.act (stand_of state turn.processor) t)
