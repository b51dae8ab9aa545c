-- By places who works makes a work turn soon, whatever others do.
use Rattle.std.proofs.Common.{◌≡◌, ◌<◌, ℕ, List, [], ◌∷◌, ◌++◌, refl, sym, ap, ◌∙◌}
use Rattle.std.specs.List.{AllByRecursion}
use Rattle.ppm_strands.specs.Tree.{Words, Tree}
use Rattle.ppm_cells.specs.declared.shape.Shape.{Shape}
use Rattle.ppm_cells.specs.declared.shape.Takeover.TheVariants.{ByPlaces}
use Rattle.ppm_strands.specs.Strand.{Frame}
use Rattle.ppm_code.specs.Strands.{Point, Result}
use Rattle.ppm_code.specs.declared.code.CodeParts.{CodeParts}
use Rattle.ppm_code.specs.declared.location.FrameWord.{FrameWord}
use Rattle.ppm_layout.specs.Root.{root_strand}
use Rattle.ppm_step.specs.Among.{IsTurnAmong}
use Rattle.ppm_step.specs.Laws.{reached}
use Rattle.ppm_step.specs.State.{State as RunState, stand_of, happens, opening, forks_of, takes_of}
use Rattle.ppm_step.specs.declared.turn.Turn.{Turn}
use Rattle.ppm_tickets.specs.Along.{by_act}
use Rattle.ppm_tickets.specs.Homes.{Home}
use Rattle.ppm_frames.specs.Views.{view}
use Rattle.ppm_frames.specs.Seen.{arrays_at}
use Rattle.ppm_frames.specs.Skeletons.{Skeleton}
use Rattle.ppm_kept.specs.Running.{IsFair}
use Rattle.ppm_runs.specs.Legs.{words_then, last_state, all_homes, all_forked, all_taken}
use Rattle.ppm_runs.proofs.WholeLemmas.{in_two}
use Rattle.ppm_progress.proofs.MomentLemmas.{IsMoment, AreMoments, IsOn}
use Rattle.ppm_progress.proofs.ThiefLemmas.{works_from_place}
use Rattle.ppm_takeover.specs.Looks.{LooksComeSoon}
use Rattle.ppm_takeover.specs.Soon.{WorksSoonByPlaces}
use Rattle.ppm_takeover.proofs.LookSteps.{look_soon_from}
use Rattle.ppm_takeover.proofs.ComeSteps.{AreAllHeld}
use Rattle.ppm_takeover.proofs.CarriedRuns.{IsTended, tended_on, tended_then, raised_by}

module _ (s : Shape) (code : CodeParts) (places : s.takeover ≡ ByPlaces) (fair : IsFair code) (root : Tree (Frame FrameWord Point) Result) (input : Words)
    (raised : ℕ) (ws : List ℕ) where
  pub moment_of : (state : RunState) (h : ℕ → Home) (f tk : List ℕ) (t : Skeleton) → IsTended s code places fair root input raised ws state h f tk t
      → IsMoment s code fair root input state
  moment_of state h f tk t now = record { homes = h; forked = f; taken = tk; tree = t; advancing = now.advancing; spare = now.spare }

  -- each moment of turns that follow
  pub tended_moments : (first : List Turn) (state : RunState) → state ≡ reached s code ws first → (h : ℕ → Home) (f tk : List ℕ) (t : Skeleton)
      → IsTended s code places fair root input raised ws state h f tk t
      → (more : List Turn) → AllByRecursion (IsTurnAmong s.processors) more → AreMoments s code fair root input state more
  tended_moments first state on h f tk t now [] among = moment_of state h f tk t now
  tended_moments first state on h f tk t now (turn ∷ more) among =
      let next = tended_on s code places fair root input raised ws first state on h f tk t now turn among.0 in
      let behind = ap (λ (z : RunState). happens s code z turn) on ∙ sym (in_two s code (opening ws s.processors) first (turn ∷ [])) in (
        moment_of state h f tk t now,
        tended_moments (first ++ turn ∷ []) (happens s code state turn) behind (by_act s state.words turn.act (stand_of state turn.processor) h)
            (forks_of state turn ++ f) (takes_of state turn ++ tk) next.0 next.1 more among.1,
      )

  -- and at each of them holders carry their places
  pub tended_held : (c q p : ℕ) (there : c < s.processors) (first : List Turn) (state : RunState) → state ≡ reached s code ws first
      → (h : ℕ → Home) (f tk : List ℕ) (t : Skeleton) → IsTended s code places fair root input raised ws state h f tk t
      → (more : List Turn) → AllByRecursion (IsTurnAmong s.processors) more → AreAllHeld s code fair root input ws c q p there state more
  tended_held c q p there first state on h f tk t now [] among = now.held
  tended_held c q p there first state on h f tk t now (turn ∷ more) among =
      let next = tended_on s code places fair root input raised ws first state on h f tk t now turn among.0 in
      let behind = ap (λ (z : RunState). happens s code z turn) on ∙ sym (in_two s code (opening ws s.processors) first (turn ∷ [])) in (
        now.held,
        tended_held c q p there (first ++ turn ∷ []) (happens s code state turn) behind
            (by_act s state.words turn.act (stand_of state turn.processor) h) (forks_of state turn ++ f) (takes_of state turn ++ tk) next.0 next.1 more among.1,
      )

pub works_soon_by_places : WorksSoonByPlaces
works_soon_by_places code input s keeper im places fair opens calm legs are first more among_first among_more c works steps many =
    let root = root_strand code input in
    let arrays = arrays_at (view s im.words) in
    let back = words_then s code im.words legs in
    let state = last_state s code im.words legs first in
    let raised = raised_by code input s keeper im places fair opens calm legs in
    let h = all_homes s code im.words legs first in
    let f = all_forked s code im.words legs first in
    let tk = all_taken s code im.words legs first in
    let a = tended_then code input s keeper im places fair opens calm legs are first among_first in
    let moments = tended_moments s code places fair root arrays raised back first state refl h f tk a.0 a.1 more among_more in
    let on : IsOn s code fair root arrays c works.place state = record {
      moment = moment_of s code places fair root arrays raised back state h f tk a.0 a.1;
      going = works.not_done;
      carried = works.carried;
    } in
    works_from_place s code fair root arrays back c works.place works.there first more moments on works.at_work among_more steps many

pub looks_come_soon : LooksComeSoon
looks_come_soon code input s keeper im places fair opens calm legs are first more among_first among_more c there going steps many =
    let root = root_strand code input in
    let arrays = arrays_at (view s im.words) in
    let back = words_then s code im.words legs in
    let state = last_state s code im.words legs first in
    let raised = raised_by code input s keeper im places fair opens calm legs in
    let h = all_homes s code im.words legs first in
    let f = all_forked s code im.words legs first in
    let tk = all_taken s code im.words legs first in
    let a = tended_then code input s keeper im places fair opens calm legs are first among_first in
    let moments = tended_moments s code places fair root arrays raised back first state refl h f tk a.0 a.1 more among_more in
    let place = a.1.advancing.run.halves.lawful.1.holding.carried c in
    let on : IsOn s code fair root arrays c place.0 state = record {
      moment = moment_of s code places fair root arrays raised back state h f tk a.0 a.1;
      going = going;
      carried = place.1;
    } in
    look_soon_from s code places fair root arrays back c place.0 there first more moments on among_more steps many
