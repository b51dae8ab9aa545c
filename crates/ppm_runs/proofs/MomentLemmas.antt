-- Each turn of a run's state leads to one, also where it stops the run; so all turns do.
use Rattle.std.proofs.Common.{◌≡◌, ℕ, List, [], ◌∷◌, ◌++◌, sym, ◌∙◌}
use Rattle.std.specs.List.{AllByRecursion}
use Rattle.ppm_strands.specs.Tree.{Words, Tree}
use Rattle.ppm_cells.specs.Cells.{pool_at}
use Rattle.ppm_cells.specs.declared.shape.Shape.{Shape}
use Rattle.ppm_cells.specs.declared.shape.Takeover.TheVariants.{ByPlaces}
use Rattle.ppm_strands.specs.Strand.{Frame}
use Rattle.ppm_code.specs.Sizes.{slots_of}
use Rattle.ppm_code.specs.Strands.{Point, Result}
use Rattle.ppm_code.specs.declared.code.CodeParts.{CodeParts}
use Rattle.ppm_code.specs.declared.location.FrameWord.{FrameWord}
use Rattle.ppm_layout.specs.Root.{root_strand}
use Rattle.ppm_step.specs.Among.{IsTurnAmong}
use Rattle.ppm_step.specs.State.{State as RunState, stand_of, happens, after, opening, forks_of, takes_of}
use Rattle.ppm_step.specs.declared.turn.Turn.{Turn}
use Rattle.ppm_tickets.specs.Along.{by_act, homes, forked as forked_in, taken as taken_in}
use Rattle.ppm_tickets.specs.Homes.{Home, Unborn, Begun}
use Rattle.ppm_tickets.specs.Lawful.{Counts}
use Rattle.ppm_frames.specs.Views.{view}
use Rattle.ppm_frames.specs.Seen.{arrays_at}
use Rattle.ppm_frames.specs.Skeletons.{Begins, InPlace, Skeleton, Leaf}
use Rattle.ppm_kept.specs.Running.{IsFair}
use Rattle.ppm_kept.specs.Steps.{tree_after}
use Rattle.ppm_kept.proofs.StepRows.{turns_keep_on}
use Rattle.ppm_runs.specs.Run.{setting, IsRun}
use Rattle.ppm_runs.specs.Moments.{TurnsLeadOn, RunsStay, AreOnce, OnceAtEachMoment}
use Rattle.ppm_runs.proofs.JoinLemmas.{joins_stay}
use Rattle.ppm_runs.proofs.BearingLemmas.{births_follow}
use Rattle.ppm_runs.proofs.BrokenLemmas.{broken_follow}
use Rattle.ppm_runs.proofs.GoingLemmas.{turns_go_on, acts_so}
use Rattle.ppm_runs.proofs.OpenLemmas.{runs_open}

pub turns_lead_on : TurnsLeadOn
turns_lead_on s code places fair root input state h forked taken t run turn among =
    let kept = turns_keep_on (setting s code) fair places root input state t run.kept turn (acts_so s code places fair root input state h forked taken t run turn.processor turn.act among.processor) in
    let joined = joins_stay s code places fair root input state h forked taken t run turn among kept in record {
      lawful = (turns_go_on s code places fair root input state h forked taken t run).lawful turn among;
      kept = kept;
      agrees = joined.agrees;
      last = joined.last;
      ready = joined.ready;
      broken = broken_follow s code root input state h forked taken t run turn;
      born = births_follow s code places fair root input state h forked taken t run turn among;
    }

module _ (s : Shape) (code : CodeParts) (places : s.takeover ≡ ByPlaces) (fair : IsFair code) (root : Tree (Frame FrameWord Point) Result) (input : Words) where
  pub all_lead : (state : RunState) (h : ℕ → Home) (f tk : List ℕ) (t : Skeleton) (turns : List Turn) → AllByRecursion (IsTurnAmong s.processors) turns
      → IsRun s code root input state h f tk t
      → (v : Skeleton) × IsRun s code root input (after s code state turns) (homes s code state h turns) (forked_in s code state f turns) (taken_in s code state tk turns) v
  all_lead state h f tk t [] all run = (t, run)
  all_lead state h f tk t (turn ∷ more) all run =
      all_lead (happens s code state turn) (by_act s state.words turn.act (stand_of state turn.processor) h) (forks_of state turn ++ f) (takes_of state turn ++ tk) (tree_after (setting s code) state turn t) more all.1
      (turns_lead_on s code places fair root input state h f tk t run turn all.0)

pub runs_stay : RunsStay
runs_stay code input s keeper im places fair opens calm turns all =
    all_lead s code places fair (root_strand code input) (arrays_at (view s im.words)) (opening im.words s.processors) (λ r. Unborn) [] []
    (Leaf (InPlace keeper) (Begins 0) (pool_at s keeper) (slots_of code code.root)) turns all (runs_open code input s keeper im opens calm)

-- what was taken was forked
pub are_once : (h : ℕ → Home) (forked taken : List ℕ) → Counts h forked taken → AreOnce forked taken
are_once h forked taken counts = record {
  forked_once = counts.forked_once;
  taken_once = counts.once;
  forked_first = λ r e. counts.listed r (λ u. let z : Begun ≡ Unborn = sym (counts.begun r e) ∙ u in cc);
}

pub once_at_each_moment : OnceAtEachMoment
once_at_each_moment code input s keeper im places fair opens calm turns all =
    let run = runs_stay code input s keeper im places fair opens calm turns all in
    are_once (homes s code (opening im.words s.processors) (λ r. Unborn) turns) (forked_in s code (opening im.words s.processors) [] turns) (taken_in s code (opening im.words s.processors) [] turns) run.1.lawful.1.counts
