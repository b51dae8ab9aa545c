-- A state of a run whose tree advances. Each turn by which no place goes on with what it inherited leads to the next one: by places each turn,
-- by entries each turn while nobody is dead.
use Rattle.std.proofs.Common.{◌≡◌, ◌⊎◌, ℕ, List, [], ◌++◌, inl, inr, refl, subst}
use Rattle.ppm_strands.specs.Tree.{Words, Tree}
use Rattle.ppm_cells.specs.declared.shape.Shape.{Shape}
use Rattle.ppm_cells.specs.declared.shape.Takeover.{Takeover}
use Rattle.ppm_cells.specs.declared.shape.Takeover.TheVariants.{ByPlaces, ByEntries}
use Rattle.ppm_strands.specs.Strand.{Frame}
use Rattle.ppm_code.specs.Strands.{Point, Result}
use Rattle.ppm_code.specs.declared.code.CodeParts.{CodeParts}
use Rattle.ppm_code.specs.declared.location.FrameWord.{FrameWord}
use Rattle.ppm_step.specs.Among.{IsTurnAmong}
use Rattle.ppm_step.specs.Standings.{Standing, IsLost, IsPlaced, IsAt, IsWithin, IsRunning, IsBroken, IsDone}
use Rattle.ppm_step.specs.State.{State as RunState, stand_of, happens, forks_of, takes_of}
use Rattle.ppm_step.specs.declared.row.Row.{Row}
use Rattle.ppm_step.specs.declared.row.Row.TheVariants.{Now}
use Rattle.ppm_step.specs.declared.row.Seat.{Seat}
use Rattle.ppm_step.specs.declared.row.Then.{Then}
use Rattle.ppm_step.specs.declared.row.Then.TheVariants.{Install, Fork}
use Rattle.ppm_step.specs.declared.turn.Act.{Act}
use Rattle.ppm_step.specs.declared.turn.Act.TheVariants.{Step, Soft, Hard, Quit}
use Rattle.ppm_step.specs.declared.turn.Turn.{Turn}
use Rattle.ppm_tickets.specs.Along.{by_act}
use Rattle.ppm_tickets.specs.Heirs.{ChecksSo}
use Rattle.ppm_tickets.specs.Homes.{Home}
use Rattle.ppm_tickets.specs.Lawful.{IsAlive, Closed}
use Rattle.ppm_tickets.specs.View as spots
use Rattle.ppm_tickets.proofs.HeirRows.{heirs_see}
use Rattle.ppm_frames.specs.Skeletons.{Skeleton}
use Rattle.ppm_kept.specs.Running.{IsFair}
use Rattle.ppm_kept.specs.Left.{left, StepsAway}
use Rattle.ppm_kept.specs.Places.{places_of}
use Rattle.ppm_kept.specs.Steps.{act_with, ActsSo}
use Rattle.ppm_kept.proofs.StepRows.{act_away}
use Rattle.ppm_runs.specs.Run.{setting, IsRun}
use Rattle.ppm_runs.specs.Follow.{IsHalves, CarriesOn, LooksOnly}
use Rattle.ppm_runs.specs.Joint.{IsCapped, StepsAlone}
use Rattle.ppm_runs.specs.Entries.{IsHeired}
use Rattle.ppm_runs.proofs.BrokenLemmas.{broken_stays}
use Rattle.ppm_runs.proofs.GoingLemmas as by_places
use Rattle.ppm_runs.proofs.HalvesLemmas as by_entries
use Rattle.ppm_runs.proofs.HeiredLemmas.{Inherits, looks_or, alone_of, inlined}
use Rattle.ppm_runs.proofs.JoinLemmas.{joints_stay, alone_by}
use Rattle.ppm_runs.proofs.MomentLemmas.{turns_lead_on}
use Rattle.ppm_runs.proofs.OrderlyLemmas.{halves_owe}
use Rattle.ppm_runs.proofs.ShownLemmas.{halves}
use Rattle.ppm_advance.specs.Advance.{Advances}
use Rattle.ppm_advance.proofs.TurnLemmas.{trees_advance}
use Rattle.ppm_progress.specs.Fresh.{FreshAtBump}
use Rattle.ppm_progress.proofs.FreshLemmas.{left_comes_later}
use Rattle.ppm_progress.proofs.FreshTurns.{fresh_stay}

-- a state of a run, with no place left out, whose tree advances
pub record IsAdvancing (s : Shape) (code : CodeParts) (root : Tree (Frame FrameWord Point) Result) (input : Words) (state : RunState)
    (h : ℕ → Home) (forked taken : List ℕ) (t : Skeleton) : Type 0 where
  pub run : IsHeired s code root input state h forked taken [] t
  pub advances : Advances t
  pub fresh : FreshAtBump s code state h [] t

-- by places that is a run's state
pub run_of : (s : Shape) (code : CodeParts) (root : Tree (Frame FrameWord Point) Result) (input : Words) (state : RunState) (h : ℕ → Home)
    → (forked taken : List ℕ) (t : Skeleton) → IsAdvancing s code root input state h forked taken t → s.takeover ≡ ByPlaces
    → IsRun s code root input state h forked taken t
run_of s code root input state h forked taken t now places = record {
  lawful = now.run.halves.lawful;
  kept = now.run.halves.kept;
  agrees = now.run.joint.agrees;
  last = λ r p held home. subst (λ (how : Takeover). IsCapped how s state.words p) places (now.run.joint.last r p held home);
  ready = now.run.joint.ready;
  broken = now.run.broken;
  born = now.run.halves.born;
}

module _ (s : Shape) (code : CodeParts) (fair : IsFair code) (root : Tree (Frame FrameWord Point) Result) (input : Words) (state : RunState)
    (h : ℕ → Home) (f tk : List ℕ) (t : Skeleton) (now : IsAdvancing s code root input state h f tk t)
    (turn : Turn) (among : IsTurnAmong s.processors turn) where
  abbrev x : Standing
  x = stand_of state turn.processor

  abbrev then_ : Skeleton
  then_ = act_with (setting s code) (left (setting s code) [] (places_of s state)).words state.words turn.act x t

  abbrev pub Next : Type 0
  Next = IsAdvancing s code root input (happens s code state turn) (by_act s state.words turn.act x h)
      (forks_of state turn ++ f) (takes_of state turn ++ tk) then_

  abbrev NextHalves : Type 0
  NextHalves = IsHalves s code root input (happens s code state turn) (by_act s state.words turn.act x h)
      (forks_of state turn ++ f) (takes_of state turn ++ tk) [] then_

  -- where both halves of the state hold again
  goes_on : StepsAlone s.takeover turn.act x → ActsSo (setting s code) state t turn.processor turn.act x → StepsAway (setting s code) [] turn.act x
      → NextHalves → Next
  goes_on alone so away next =
      let later = left_comes_later s code fair root input state h f tk [] t now.run.halves now.run.joint.agrees now.fresh in
      record {
        run = record {
          halves = next;
          joint = joints_stay s code fair root input state h f tk [] t now.run.halves now.run.joint turn among alone next;
          broken = broken_stays s code state h f tk now.run.halves.lawful now.run.broken turn;
        };
        advances = trees_advance (setting s code) fair root input state [] t now.run.halves.kept turn so away later now.advances;
        fresh = fresh_stay s code fair root input state h f tk [] t now.run.halves now.run.joint now.fresh turn among alone next;
      }

  -- by places
  pub places_go_on : s.takeover ≡ ByPlaces → Next
  places_go_on places =
      let run = run_of s code root input state h f tk t now places in
      goes_on (alone_by s.takeover places turn.act x)
      (by_places.acts_so s code places fair root input state h f tk t run turn.processor turn.act among.processor)
      (act_away (setting s code) places turn.act x)
      (halves (turns_lead_on s code places fair root input state h f tk t run turn among))

  -- by entries, where nobody is dead: nothing is inherited
  module _ (ih : s.takeover ≡ ByEntries) (alive : (c : ℕ) → IsAlive (spots.view s state.words) c) where
    abbrev Checks : Seat → Row → Type 0
    Checks seat row = ChecksSo (Closed s.takeover (spots.view s state.words)) (spots.view s state.words) (spots.kinds s state.words)
        (spots.bottoms s state.words) h now.run.halves.lawful.1.board seat.place row

    carries_none : (seat : Seat) (next : Then) → CarriesOn next → Checks seat (Now next) → ⊥
    carries_none seat (Install restart) carries (inl seeks) = carries seeks
    carries_none seat (Install restart) carries (inr inherits) = alive inherits.0.place inherits.0.dead
    carries_none seat (Fork block) carries inherits = alive inherits.0.place inherits.0.dead
    carries_none seat _ carries sees = absurd carries

    inherits_none : (seat : Seat) (row : Row) → x ≡ IsWithin seat row → Inherits seat.restart.kind row → ⊥
    inherits_none seat row e goes =
        let sees : Checks seat row = heirs_see s code ih state h f tk now.run.halves.lawful turn.processor seat row goes.0 goes.1 e goes.3 in
        carries_none seat goes.2 goes.5 (subst (Checks seat) goes.4 sees)

    looks_only : (act : Act) (y : Standing) → x ≡ y → LooksOnly act y
    looks_only (Step v) (IsWithin seat row) e = elim (looks_or seat.restart.kind row) [
      | inl looks ↦ looks
      | inr inherits ↦ absurd (inherits_none seat row e inherits)
    ]
    looks_only (Step v) IsLost e = tt
    looks_only (Step v) (IsPlaced p) e = tt
    looks_only (Step v) (IsAt p re) e = tt
    looks_only (Step v) (IsRunning seat rest) e = tt
    looks_only (Step v) (IsBroken p) e = tt
    looks_only (Step v) IsDone e = tt
    looks_only Soft y e = tt
    looks_only Hard y e = tt
    looks_only (Quit why) y e = tt

    pub entries_go_on : Next
    entries_go_on =
        let halves_ = now.run.halves in
        let agrees = now.run.joint.agrees in
        let looks = looks_only turn.act x refl in
        let owe = halves_owe s code fair root input state h f tk [] t halves_ agrees
        (λ d seat re e. inlined s code ih fair root input state h f tk [] t now.run d seat re e) in
        goes_on (alone_of s.takeover turn.act x looks)
        (by_entries.acts_so s code ih fair root input state h f tk [] t halves_ agrees now.run.broken turn.processor turn.act among.processor)
        (by_entries.steps_away s code ih fair root input state h f tk [] t halves_ agrees now.run.broken turn.processor turn.act looks)
        (by_entries.halves_go_on s code ih fair root input state h f tk [] t halves_ agrees now.run.broken turn among.processor (owe.orderly turn among) looks)

  -- with either takeover
  pub alive_go_on : ((c : ℕ) → IsAlive (spots.view s state.words) c) → (s.takeover ≡ ByPlaces) ⊎ (s.takeover ≡ ByEntries) → Next
  alive_go_on alive (inl places) = places_go_on places
  alive_go_on alive (inr ih) = entries_go_on ih alive
