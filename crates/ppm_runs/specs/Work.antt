-- The work of all processors together, whatever the turns.
use Rattle.std.specs.Prelude.{◌≡◌, ◌≤◌, ◌<◌, ℕ, ◌+◌, ◌*◌, ◌||◌, if◌then◌else◌, Bool, true, false, List, [], ◌∷◌, length, Option, Some, None}
use Rattle.std.specs.List.{AllByRecursion}
use Rattle.ppm_strands.specs.Calm.{Calm}
use Rattle.ppm_strands.specs.Run.{End, Ends}
use Rattle.ppm_words.specs.declared.named_array.NamedArray.{NamedArray}
use Rattle.ppm_cells.specs.Memory.{read}
use Rattle.ppm_cells.specs.Restart.{restart_of}
use Rattle.ppm_cells.specs.declared.cell.Cell.TheVariants.{RestartWord}
use Rattle.ppm_cells.specs.declared.restart.Restart.{Restart}
use Rattle.ppm_cells.specs.declared.restart.RestartKind.{RestartKind}
use Rattle.ppm_cells.specs.declared.restart.RestartKind.TheVariants.{Push2}
use Rattle.ppm_cells.specs.declared.shape.Shape.{Shape}
use Rattle.ppm_cells.specs.declared.shape.Takeover.{Takeover}
use Rattle.ppm_cells.specs.declared.shape.Takeover.TheVariants.{ByPlaces, ByEntries}
use Rattle.ppm_code.specs.Strands.{Result}
use Rattle.ppm_code.specs.declared.code.CodeParts.{CodeParts}
use Rattle.ppm_layout.specs.Correct.{Opens}
use Rattle.ppm_layout.specs.Root.{root_strand}
use Rattle.ppm_layout.specs.declared.images.Image.{Image}
use Rattle.ppm_step.specs.Among.{IsTurnAmong}
use Rattle.ppm_step.specs.Standings.{Standing}
use Rattle.ppm_step.specs.State.{State, stand_of, along, opening, is_done_at, work_of}
use Rattle.ppm_step.specs.declared.turn.Act.{Act}
use Rattle.ppm_step.specs.declared.turn.Act.TheVariants.{Hard}
use Rattle.ppm_step.specs.declared.turn.Turn.{Turn}
use Rattle.ppm_paces.specs.Paces.{is_strike, strikes_of}
use Rattle.ppm_frames.specs.Views.{view}
use Rattle.ppm_frames.specs.Seen.{arrays_at}
use Rattle.ppm_kept.specs.Running.{IsFair, strands}

-- whether a place is at Push2
abbrev pub is_push : RestartKind → Bool
is_push (Push2 block) = true
is_push _ = false

abbrev pub is_at_push : Option Restart → Bool
is_at_push None = false
is_at_push (Some restart) = is_push restart.kind

-- Whether a fault undoes work: it strikes a row of work. With takeover by entries it also does where it closes a place at Push2, by its
-- restart word, though no row of that be under way: who follows begins at Push1, and makes that row again.
abbrev pub undoes : Takeover → Act → Standing → Option Restart → Bool
undoes ByEntries Hard standing restart = is_strike Hard standing || (if is_done_at standing then false else is_at_push restart)
undoes how act standing restart = is_strike act standing

-- which turns do so, told as the processor; by entries its place has its own number
abbrev pub undone_of : Shape → State → Turn → List ℕ
undone_of s state turn =
    if undoes s.takeover turn.act (stand_of state turn.processor) (restart_of (read s state.words (RestartWord turn.processor)))
    then turn.processor ∷ [] else []

-- by places these are the faults that strike a row
abbrev pub UndoneAreStruck : Type 0
UndoneAreStruck = (s : Shape) → s.takeover ≡ ByPlaces → (state : State) (turn : Turn) → undone_of s state turn ≡ strikes_of state turn

module _ (s : Shape) (code : CodeParts) (state : State) (turns : List Turn) where
  -- how many work turns all processors make in these turns
  abbrev pub work_in : ℕ
  work_in = length (along s code work_of state turns)

  -- how many faults strike a row of work: they find it under way, or at the broken words that it has met
  abbrev pub strikes_in : ℕ
  strikes_in = length (along s code strikes_of state turns)

  -- and how many undo work
  abbrev pub undone_in : ℕ
  undone_in = length (along s code (undone_of s) state turns)

-- From an image of a sound code, with either takeover, whatever the turns: where the depth-first run of the root ends, all work turns together
-- are no more than 218 for each of its capsules, 171 for each fault that undoes work, and 6
abbrev pub WorkIsBounded : Type 0
WorkIsBounded = (code : CodeParts) (input : List NamedArray) (s : Shape) (keeper : ℕ) (image : Image)
    → IsFair code → Opens code input s keeper image
    → Calm (strands s code) (root_strand code input) (arrays_at (view s image.words))
    → (turns : List Turn) → AllByRecursion (IsTurnAmong s.processors) turns
    → (end : End Result) → Ends (strands s code) (root_strand code input) (arrays_at (view s image.words)) end
    → work_in s code (opening image.words s.processors) turns ≤ 218 * end.counts.capsules + 171 * undone_in s code (opening image.words s.processors) turns + 6

-- all work turns together are fewer than 256 for each capsule and each fault that undoes work
abbrev pub WorkIsWithin256 : Type 0
WorkIsWithin256 = (code : CodeParts) (input : List NamedArray) (s : Shape) (keeper : ℕ) (image : Image)
    → IsFair code → Opens code input s keeper image
    → Calm (strands s code) (root_strand code input) (arrays_at (view s image.words))
    → (turns : List Turn) → AllByRecursion (IsTurnAmong s.processors) turns
    → (end : End Result) → Ends (strands s code) (root_strand code input) (arrays_at (view s image.words)) end
    → work_in s code (opening image.words s.processors) turns < 256 * (end.counts.capsules + undone_in s code (opening image.words s.processors) turns)
