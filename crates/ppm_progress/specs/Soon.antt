-- Without hard faults a processor whose own place is at work makes a work turn soon, whatever others do.
use Rattle.std.specs.Prelude.{◌≡◌, ◌≢◌, ◌⊎◌, ◌≤◌, ◌<◌, ◌+◌, ◌==◌, if◌then◌else◌, ℕ, true, List, [], ◌∷◌, ◌++◌}
use Rattle.std.specs.List.{AllByRecursion}
use Rattle.ppm_strands.specs.Calm.{Calm}
use Rattle.ppm_words.specs.declared.named_array.NamedArray.{NamedArray}
use Rattle.ppm_cells.specs.Memory.{read}
use Rattle.ppm_cells.specs.declared.cell.Cell.TheVariants.{FinishWord}
use Rattle.ppm_cells.specs.declared.shape.Shape.{Shape}
use Rattle.ppm_code.specs.declared.code.CodeParts.{CodeParts}
use Rattle.ppm_layout.specs.Correct.{Opens}
use Rattle.ppm_layout.specs.Root.{root_strand}
use Rattle.ppm_layout.specs.declared.images.Image.{Image}
use Rattle.ppm_step.specs.Among.{IsTurnAmong}
use Rattle.ppm_step.specs.Laws.{reached}
use Rattle.ppm_step.specs.State.{along, work_of, is_step, is_work}
use Rattle.ppm_step.specs.declared.turn.Turn.{Turn}
use Rattle.ppm_tickets.specs.View.{view as spots, kinds}
use Rattle.ppm_tickets.specs.Words.{has}
use Rattle.ppm_frames.specs.Views.{view}
use Rattle.ppm_frames.specs.Seen.{arrays_at}
use Rattle.ppm_kept.specs.Running.{IsFair, strands}
use Rattle.ppm_progress.specs.Works.{IsAtWork, HurtsNone}

-- how many of the turns are processor c's
abbrev pub turns_of : (c : ℕ) → List Turn → ℕ
turns_of c [] = 0
turns_of c (turn ∷ more) = (if turn.processor == c then 1 else 0) + turns_of c more

-- if the turn is processor c's, it is a step
abbrev pub StepsOnly : (c : ℕ) → Turn → Type 0
StepsOnly c turn = turn.processor ≡ c → is_step turn.act ≡ true

-- From an image of a sound code, with either takeover, after any first turns, without hard faults: if the own place of processor c is at a kind of
-- work, and then c makes four steps, no fault among them, one of these is a work turn, or the finish word isn't 0 after these turns.
abbrev pub WorksSoon : Type 0
WorksSoon = (code : CodeParts) (input : List NamedArray) (s : Shape) (keeper : ℕ) (image : Image)
    → IsFair code → Opens code input s keeper image
    → Calm (strands s code) (root_strand code input) (arrays_at (view s image.words))
    → (first more : List Turn) → AllByRecursion (IsTurnAmong s.processors) first → AllByRecursion (IsTurnAmong s.processors) more
    → AllByRecursion HurtsNone first → AllByRecursion HurtsNone more
    → (c : ℕ) → c < s.processors → is_work (kinds s (reached s code image.words first).words c) ≡ true
    → AllByRecursion (StepsOnly c) more → 4 ≤ turns_of c more
    → (has (along s code work_of (reached s code image.words first) more) c ≡ true)
    ⊎ (read s (reached s code image.words (first ++ more)).words FinishWord ≢ 0)

-- Of thirteen steps that holds also where that place has won a job that it has still to begin.
abbrev pub WorksWithin13 : Type 0
WorksWithin13 = (code : CodeParts) (input : List NamedArray) (s : Shape) (keeper : ℕ) (image : Image)
    → IsFair code → Opens code input s keeper image
    → Calm (strands s code) (root_strand code input) (arrays_at (view s image.words))
    → (first more : List Turn) → AllByRecursion (IsTurnAmong s.processors) first → AllByRecursion (IsTurnAmong s.processors) more
    → AllByRecursion HurtsNone first → AllByRecursion HurtsNone more
    → (c : ℕ) → c < s.processors
    → IsAtWork (spots s (reached s code image.words first).words) c (kinds s (reached s code image.words first).words c)
    → AllByRecursion (StepsOnly c) more → 13 ≤ turns_of c more
    → (has (along s code work_of (reached s code image.words first) more) c ≡ true)
    ⊎ (read s (reached s code image.words (first ++ more)).words FinishWord ≢ 0)
