-- In a run of at most 2^34 work turns nobody meets broken words.
use Rattle.std.specs.Prelude.{◌≡◌, ◌≤◌, ℕ, ◌^◌, List}
use Rattle.std.specs.List.{AllByRecursion}
use Rattle.ppm_strands.specs.Calm.{Calm}
use Rattle.ppm_words.specs.declared.named_array.NamedArray.{NamedArray}
use Rattle.ppm_cells.specs.Memory.{read}
use Rattle.ppm_cells.specs.declared.cell.Cell.TheVariants.{FinishWord}
use Rattle.ppm_cells.specs.declared.shape.Shape.{Shape}
use Rattle.ppm_code.specs.declared.code.CodeParts.{CodeParts}
use Rattle.ppm_layout.specs.Correct.{Opens}
use Rattle.ppm_layout.specs.Root.{root_strand}
use Rattle.ppm_layout.specs.declared.images.Image.{Image}
use Rattle.ppm_step.specs.Among.{IsTurnAmong}
use Rattle.ppm_step.specs.Standings.{IsBroken}
use Rattle.ppm_step.specs.State.{State as RunState, stand_of, after, opening}
use Rattle.ppm_step.specs.declared.turn.Turn.{Turn}
use Rattle.ppm_frames.specs.Views.{view}
use Rattle.ppm_frames.specs.Seen.{arrays_at}
use Rattle.ppm_kept.specs.Running.{IsFair, strands}
use Rattle.ppm_runs.specs.Sound.{SaysNoBreak}
use Rattle.ppm_runs.specs.Work.{work_in}

-- no processor has met broken words, and the finish word says of no place that one has there
pub record HasNoBreak (s : Shape) (state : RunState) : Type 0 where
  pub stands : (c p : ℕ) → stand_of state c ≡ IsBroken p → ⊥
  pub finish : SaysNoBreak (read s state.words FinishWord)

-- from an image of a sound code, whatever the takeover and the turns, as long as at most 2^34 of them are work
abbrev pub NothingBreaks : Type 0
NothingBreaks = (code : CodeParts) (input : List NamedArray) (s : Shape) (keeper : ℕ) (image : Image)
    → IsFair code → Opens code input s keeper image
    → Calm (strands s code) (root_strand code input) (arrays_at (view s image.words))
    → (turns : List Turn) → AllByRecursion (IsTurnAmong s.processors) turns
    → work_in s code (opening image.words s.processors) turns ≤ 2 ^ 34
    → HasNoBreak s (after s code (opening image.words s.processors) turns)
