-- By places, each moment of a run has something to do.
use Rattle.std.proofs.Common.{◌≡◌, ℕ, List, [], ◌∷◌, ◌++◌}
use Rattle.std.specs.List.{AllByRecursion}
use Rattle.ppm_strands.specs.Tree.{Words, Tree}
use Rattle.ppm_strands.specs.Calm.{Calm}
use Rattle.ppm_words.specs.declared.named_array.NamedArray.{NamedArray}
use Rattle.ppm_cells.specs.Cells.{pool_at}
use Rattle.ppm_cells.specs.declared.shape.Shape.{Shape}
use Rattle.ppm_cells.specs.declared.shape.Takeover.TheVariants.{ByPlaces}
use Rattle.ppm_strands.specs.Strand.{Frame}
use Rattle.ppm_code.specs.Sizes.{slots_of}
use Rattle.ppm_code.specs.Strands.{Point, Result}
use Rattle.ppm_code.specs.declared.code.CodeParts.{CodeParts}
use Rattle.ppm_code.specs.declared.location.FrameWord.{FrameWord}
use Rattle.ppm_layout.specs.Correct.{Opens}
use Rattle.ppm_layout.specs.Root.{root_strand}
use Rattle.ppm_layout.specs.declared.images.Image.{Image}
use Rattle.ppm_step.specs.Among.{IsTurnAmong}
use Rattle.ppm_step.specs.State.{State as RunState, stand_of, happens, after, opening, forks_of, takes_of}
use Rattle.ppm_step.specs.declared.turn.Turn.{Turn}
use Rattle.ppm_tickets.specs.Along.{by_act, homes, forked as forked_in, taken as taken_in}
use Rattle.ppm_tickets.specs.Homes.{Home, Unborn}
use Rattle.ppm_frames.specs.Views.{view}
use Rattle.ppm_frames.specs.Seen.{arrays_at}
use Rattle.ppm_frames.specs.Skeletons.{Begins, InPlace, Skeleton, Leaf}
use Rattle.ppm_kept.specs.Running.{IsFair, strands}
use Rattle.ppm_runs.proofs.HeiredLemmas.{heired_first}
use Rattle.ppm_runs.proofs.LeftLemmas.{shows}
use Rattle.ppm_advance.proofs.AdvanceLemmas.{ready}
use Rattle.ppm_progress.specs.Ready.{SomethingIsReady}
use Rattle.ppm_progress.proofs.AdvanceRuns.{IsAdvancing, places_go_on}

-- a run opens with the strand of its root at the keeper's place
pub advancing_first : (code : CodeParts) (input : List NamedArray) (s : Shape) (keeper : ℕ) (im : Image) → Opens code input s keeper im
    → Calm (strands s code) (root_strand code input) (arrays_at (view s im.words))
    → IsAdvancing s code (root_strand code input) (arrays_at (view s im.words)) (opening im.words s.processors) (λ r. Unborn) [] []
    (Leaf (InPlace keeper) (Begins 0) (pool_at s keeper) (slots_of code code.root))
advancing_first code input s keeper im opens calm =
    record { run = heired_first code input s keeper im opens calm; advances = tt; fresh = λ r none un. absurd none }

module _ (s : Shape) (code : CodeParts) (places : s.takeover ≡ ByPlaces) (fair : IsFair code) (root : Tree (Frame FrameWord Point) Result) (input : Words) where
  pub ready_at : (state : RunState) (h : ℕ → Home) (f tk : List ℕ) (t : Skeleton) (turns : List Turn) → AllByRecursion (IsTurnAmong s.processors) turns
      → IsAdvancing s code root input state h f tk t
      → (v : Skeleton) × IsAdvancing s code root input (after s code state turns) (homes s code state h turns)
      (forked_in s code state f turns) (taken_in s code state tk turns) v
  ready_at state h f tk t [] among now = (t, now)
  ready_at state h f tk t (turn ∷ more) among now =
      ready_at (happens s code state turn) (by_act s state.words turn.act (stand_of state turn.processor) h) (forks_of state turn ++ f)
      (takes_of state turn ++ tk) _ more among.1 (places_go_on s code fair root input state h f tk t now turn among.0 places)

pub something_is_ready : SomethingIsReady
something_is_ready code input s keeper im places fair opens calm turns among =
    let root = root_strand code input in
    let arrays = arrays_at (view s im.words) in
    let first : RunState = opening im.words s.processors in
    let a = ready_at s code places fair root arrays first (λ r. Unborn) [] [] _ turns among (advancing_first code input s keeper im opens calm) in (
      a.0,
      shows s code root arrays (after s code first turns) (homes s code first (λ r. Unborn) turns) (forked_in s code first [] turns)
          (taken_in s code first [] turns) [] a.0 a.1.run.halves,
      a.1.run.joint.agrees,
      ready a.0 a.1.advances,
    )
