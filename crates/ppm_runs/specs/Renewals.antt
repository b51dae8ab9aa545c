-- Words that were saved come back, with takeover by places: a run goes on from them.
use Rattle.std.specs.Prelude.{◌≡◌, ℕ, List, [], ◌∷◌, Some}
use Rattle.std.specs.List.{AllByRecursion}
use Rattle.ppm_strands.specs.Tree.{Words, Tree}
use Rattle.ppm_strands.specs.Calm.{Calm}
use Rattle.ppm_words.specs.declared.named_array.NamedArray.{NamedArray}
use Rattle.ppm_cells.specs.Finish.{finish_of, IsOutcome}
use Rattle.ppm_cells.specs.Memory.{read}
use Rattle.ppm_cells.specs.declared.cell.Cell.TheVariants.{FinishWord}
use Rattle.ppm_cells.specs.declared.finish.Finish.{Finish}
use Rattle.ppm_cells.specs.declared.shape.Shape.{Shape}
use Rattle.ppm_cells.specs.declared.shape.Takeover.TheVariants.{ByPlaces}
use Rattle.ppm_strands.specs.Strand.{Frame}
use Rattle.ppm_code.specs.Strands.{Point, Result}
use Rattle.ppm_code.specs.declared.code.CodeParts.{CodeParts}
use Rattle.ppm_code.specs.declared.location.FrameWord.{FrameWord}
use Rattle.ppm_layout.specs.Correct.{Opens}
use Rattle.ppm_layout.specs.Root.{root_strand}
use Rattle.ppm_layout.specs.declared.images.Image.{Image}
use Rattle.ppm_step.specs.Among.{IsTurnAmong}
use Rattle.ppm_step.specs.State.{State as RunState, after, opening}
use Rattle.ppm_tickets.specs.Along.{homes, forked as forked_in, taken as taken_in}
use Rattle.ppm_tickets.specs.Homes.{Home, Unborn}
use Rattle.ppm_tickets.specs.Renewal.{IsRenewal, Part, Ran, CameBack}
use Rattle.ppm_frames.specs.Views.{view}
use Rattle.ppm_frames.specs.Seen.{arrays_at}
use Rattle.ppm_frames.specs.Skeletons.{Skeleton}
use Rattle.ppm_kept.specs.Running.{IsFair, strands}
use Rattle.ppm_kept.specs.Kept.{NoOutcome}
use Rattle.ppm_runs.specs.Run.{IsRun}
use Rattle.ppm_runs.specs.Moments.{AreOnce}
use Rattle.ppm_runs.specs.Outcomes.{EndsWell}

-- the saved words of a run's state come back, with a finish word that says no outcome: that is a run's
-- state again, with all processors lost, and with the same tree, homes and lists
abbrev pub RunsComeBack : Type 0
RunsComeBack = (s : Shape) (code : CodeParts) → s.takeover ≡ ByPlaces → IsFair code
    → (root : Tree (Frame FrameWord Point) Result) (input : Words) (state : RunState) (h : ℕ → Home) (forked taken : List ℕ) (t : Skeleton)
    → IsRun s code root input state h forked taken t
    → (back : List ℕ) → IsRenewal s state.words back → NoOutcome (read s back FinishWord)
    → IsRun s code root input (opening back s.processors) h forked taken t

-- What holds after a run in parts: turns among the processors, whatever they are, and words that come
-- back, which are a renewal of those before, with a finish word that says no outcome. Homes and lists
-- go on from part to part. Legs (`specs/Legs`) are such parts in which words come back as `renew` gives
-- them, where the finish word stays or becomes 0; here it may be any that says no outcome.
abbrev pub BehindParts : (s : Shape) (code : CodeParts) (P : RunState → (ℕ → Home) → List ℕ → List ℕ → Type 0)
    → RunState → (ℕ → Home) → (forked taken : List ℕ) → List Part → Type 0
BehindParts s code P state h f tk [] = P state h f tk
BehindParts s code P state h f tk (Ran turns ∷ parts) = AllByRecursion (IsTurnAmong s.processors) turns
    → BehindParts s code P (after s code state turns) (homes s code state h turns) (forked_in s code state f turns) (taken_in s code state tk turns) parts
BehindParts s code P state h f tk (CameBack back ∷ parts) = IsRenewal s state.words back
    → NoOutcome (read s back FinishWord)
    → BehindParts s code P (opening back s.processors) h f tk parts

-- no branch was forked or taken twice over all the parts; and where the finish word says an outcome, the
-- depth-first run of the root ends so, and each branch that was forked was taken once
pub record EndsInParts (s : Shape) (code : CodeParts) (root : Tree (Frame FrameWord Point) Result) (input : Words) (state : RunState) (forked taken : List ℕ) : Type 0 where
  pub once : AreOnce forked taken
  pub ends : (finish : Finish) → finish_of (read s state.words FinishWord) ≡ Some finish → IsOutcome finish
      → (t : Skeleton) × EndsWell s code root input state forked taken t finish

-- over all parts of a run no branch is forked or taken twice, and an outcome in the finish word is that of the root's depth-first run
abbrev pub PartsComeTo : Type 0
PartsComeTo = (code : CodeParts) (input : List NamedArray) (s : Shape) (keeper : ℕ) (image : Image)
    → s.takeover ≡ ByPlaces → IsFair code → Opens code input s keeper image
    → Calm (strands s code) (root_strand code input) (arrays_at (view s image.words))
    → (parts : List Part)
    → BehindParts s code (λ state h f tk. EndsInParts s code (root_strand code input) (arrays_at (view s image.words)) state f tk)
    (opening image.words s.processors) (λ r. Unborn) [] [] parts
