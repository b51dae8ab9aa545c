-- Whole runs: what is come to at their ends.
use Rattle.std.proofs.Common.{◌≡◌, List, [], ◌∷◌, ◌++◌, refl}
use Rattle.ppm_cells.specs.declared.shape.Shape.{Shape}
use Rattle.ppm_code.specs.declared.code.CodeParts.{CodeParts}
use Rattle.ppm_layout.specs.Root.{root_strand}
use Rattle.ppm_step.specs.Laws.{reached}
use Rattle.ppm_step.specs.State.{State as RunState, happens, after, opening}
use Rattle.ppm_step.specs.declared.turn.Turn.{Turn}
use Rattle.ppm_tickets.specs.Along.{homes, forked as forked_in, taken as taken_in}
use Rattle.ppm_tickets.specs.Homes.{Unborn}
use Rattle.ppm_frames.specs.Views.{view}
use Rattle.ppm_frames.specs.Seen.{arrays_at}
use Rattle.ppm_runs.specs.Whole.{RunsComeTo}
use Rattle.ppm_runs.proofs.MomentLemmas.{runs_stay}
use Rattle.ppm_runs.proofs.OutcomeLemmas.{runs_end}

pub in_two : (s : Shape) (code : CodeParts) (state : RunState) (first more : List Turn) → after s code state (first ++ more) ≡ after s code (after s code state first) more
in_two s code state [] more = refl
in_two s code state (turn ∷ first) more = in_two s code (happens s code state turn) first more

pub runs_come_to : RunsComeTo
runs_come_to code input s keeper im places fair opens calm turns all finish says out =
    let run = runs_stay code input s keeper im places fair opens calm turns all in (
      run.0,
      runs_end s code (root_strand code input) (arrays_at (view s im.words)) (reached s code im.words turns) (homes s code (opening im.words s.processors) (λ r. Unborn) turns)
          (forked_in s code (opening im.words s.processors) [] turns) (taken_in s code (opening im.words s.processors) [] turns) run.0 run.1 finish says out,
    )
