-- Somebody always works: without hard faults, as long as a run isn't over.
use Rattle.std.specs.Prelude.{◌≡◌, ◌≢◌, ◌⊎◌, ◌<◌, ℕ, true, false, List}
use Rattle.std.specs.List.{AllByRecursion}
use Rattle.ppm_strands.specs.Calm.{Calm}
use Rattle.ppm_words.specs.declared.named_array.NamedArray.{NamedArray}
use Rattle.ppm_cells.specs.Memory.{read}
use Rattle.ppm_cells.specs.declared.cell.Cell.TheVariants.{FinishWord}
use Rattle.ppm_cells.specs.declared.restart.RestartKind.{RestartKind}
use Rattle.ppm_cells.specs.declared.shape.Shape.{Shape}
use Rattle.ppm_cells.specs.declared.shape.Takeover.TheVariants.{ByPlaces}
use Rattle.ppm_code.specs.declared.code.CodeParts.{CodeParts}
use Rattle.ppm_layout.specs.Correct.{Opens}
use Rattle.ppm_layout.specs.Root.{root_strand}
use Rattle.ppm_layout.specs.declared.images.Image.{Image}
use Rattle.ppm_step.specs.Among.{IsTurnAmong}
use Rattle.ppm_step.specs.Laws.{reached}
use Rattle.ppm_step.specs.State.{State, stand_of, is_work, is_done_at, next_of}
use Rattle.ppm_step.specs.declared.turn.Act.{Act}
use Rattle.ppm_step.specs.declared.turn.Act.TheVariants.{Step, Soft, Hard, Quit}
use Rattle.ppm_step.specs.declared.turn.Next.TheVariants.{Seek as Seeks, Done}
use Rattle.ppm_step.specs.declared.turn.Turn.{Turn}
use Rattle.ppm_tickets.specs.Lawful.{IsAlive, Steals}
use Rattle.ppm_tickets.specs.View.{view as spots, kinds}
use Rattle.ppm_tickets.specs.Words.{Word, Number, Spot, Carry}
use Rattle.ppm_frames.specs.Views.{view}
use Rattle.ppm_frames.specs.Seen.{arrays_at}
use Rattle.ppm_kept.specs.Running.{IsFair, strands}

-- place p, at this kind, is at work: the kind is work, or the place has won a job that it has still to begin
abbrev pub IsAtWork : (Spot → Word) → (p : ℕ) → RestartKind → Type 0
IsAtWork m p k = (is_work k ≡ true) ⊎ ((r : ℕ) × Steals m p k r)

-- By places, from an image of a sound code, whatever the turns, hard faults among them: at each moment some place is at work. In a
-- run that is over this may be the place at which the root's strand stands at its end.
abbrev pub SomePlaceIsAtWork : Type 0
SomePlaceIsAtWork = (code : CodeParts) (input : List NamedArray) (s : Shape) (keeper : ℕ) (image : Image)
    → s.takeover ≡ ByPlaces → IsFair code → Opens code input s keeper image
    → Calm (strands s code) (root_strand code input) (arrays_at (view s image.words))
    → (turns : List Turn) → AllByRecursion (IsTurnAmong s.processors) turns
    → (p : ℕ) × (p < s.processors)
    × IsAtWork (spots s (reached s code image.words turns).words) p (kinds s (reached s code image.words turns).words p)

-- the processor lives, isn't done, and carries a place that is at work
pub record Works (s : Shape) (state : State) (c : ℕ) : Type 0 where
  pub there : c < s.processors
  pub alive : IsAlive (spots s state.words) c
  pub not_done : is_done_at (stand_of state c) ≡ false
  pub place : ℕ
  pub carried : spots s state.words (Carry c) ≡ Number place
  pub at_work : IsAtWork (spots s state.words) place (kinds s state.words place)

-- the act is no hard fault
abbrev pub IsNoHard : Act → Type 0
IsNoHard (Step victim) = Unit {0}
IsNoHard Soft = Unit {0}
IsNoHard Hard = ⊥
IsNoHard (Quit why) = Unit {0}

-- the turn is no hard fault
abbrev pub HurtsNone : Turn → Type 0
HurtsNone turn = IsNoHard turn.act

-- From an image of a sound code, with either takeover, whatever the turns, none of them a hard fault: while the finish word is 0 some processor works.
abbrev pub SomebodyWorks : Type 0
SomebodyWorks = (code : CodeParts) (input : List NamedArray) (s : Shape) (keeper : ℕ) (image : Image)
    → IsFair code → Opens code input s keeper image
    → Calm (strands s code) (root_strand code input) (arrays_at (view s image.words))
    → (turns : List Turn) → AllByRecursion (IsTurnAmong s.processors) turns → AllByRecursion HurtsNone turns
    → read s (reached s code image.words turns).words FinishWord ≡ 0
    → (c : ℕ) × Works s (reached s code image.words turns) c

-- Where each processor is done or would seek work next, the run is over: if all have parked or left there, too.
abbrev pub AllIdleIsOver : Type 0
AllIdleIsOver = (code : CodeParts) (input : List NamedArray) (s : Shape) (keeper : ℕ) (image : Image)
    → IsFair code → Opens code input s keeper image
    → Calm (strands s code) (root_strand code input) (arrays_at (view s image.words))
    → (turns : List Turn) → AllByRecursion (IsTurnAmong s.processors) turns → AllByRecursion HurtsNone turns
    → ((c : ℕ) → c < s.processors
    → (next_of (stand_of (reached s code image.words turns) c) ≡ Seeks) ⊎ (next_of (stand_of (reached s code image.words turns) c) ≡ Done))
    → read s (reached s code image.words turns).words FinishWord ≢ 0
