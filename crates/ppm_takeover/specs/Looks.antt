-- By places, whatever others do: a processor that takes steps looks around soon, or works, or moves to a place that it has taken over.
use Rattle.std.specs.Prelude.{◌≡◌, ◌≢◌, ◌⊎◌, ◌≤◌, ◌<◌, ℕ, true, false, List, ◌∷◌, ◌++◌}
use Rattle.std.specs.List.{AllByRecursion}
use Rattle.ppm_strands.specs.Calm.{Calm}
use Rattle.ppm_words.specs.declared.named_array.NamedArray.{NamedArray}
use Rattle.ppm_cells.specs.Memory.{read}
use Rattle.ppm_cells.specs.declared.cell.Cell.TheVariants.{FinishWord}
use Rattle.ppm_cells.specs.declared.shape.Shape.{Shape}
use Rattle.ppm_cells.specs.declared.shape.Takeover.TheVariants.{ByPlaces}
use Rattle.ppm_code.specs.declared.code.CodeParts.{CodeParts}
use Rattle.ppm_layout.specs.Correct.{Opens}
use Rattle.ppm_layout.specs.Root.{root_strand}
use Rattle.ppm_layout.specs.declared.images.Image.{Image}
use Rattle.ppm_step.specs.Among.{IsTurnAmong}
use Rattle.ppm_step.specs.Standings.{Standing, IsWithin}
use Rattle.ppm_step.specs.State.{State, stand_of, after, along, work_of, is_done_at, seeks_holder}
use Rattle.ppm_step.specs.declared.row.Row.TheVariants.{Now}
use Rattle.ppm_step.specs.declared.row.Then.TheVariants.{Move}
use Rattle.ppm_step.specs.declared.turn.Act.TheVariants.{Step}
use Rattle.ppm_step.specs.declared.turn.Turn.{Turn}
use Rattle.ppm_tickets.specs.Words.{has}
use Rattle.ppm_frames.specs.Views.{view}
use Rattle.ppm_frames.specs.Seen.{arrays_at}
use Rattle.ppm_kept.specs.Running.{IsFair, strands}
use Rattle.ppm_runs.specs.Legs.{Leg, AreLegs, last_state}
use Rattle.ppm_progress.specs.Soon.{turns_of, StepsOnly}

-- a standing before a move to another place
abbrev pub IsMoving : Standing → Type 0
IsMoving (IsWithin seat (Now (Move place))) = Unit {0}
IsMoving _ = ⊥

-- a standing before the load of a holder word, as the processor seeks work
abbrev pub IsLooking : Standing → Type 0
IsLooking standing = seeks_holder standing ≡ true

-- in these turns processor c steps from a standing at which this holds, after at most so many other turns of its own
pub record StepsFrom (s : Shape) (code : CodeParts) (holds : Standing → Type 0) (c most : ℕ) (state : State) (turns : List Turn) : Type 0 where
  pub before : List Turn
  pub rest : List Turn
  pub victim : ℕ
  pub turns_are : turns ≡ before ++ record { processor = c; act = Step victim } ∷ rest
  pub stands : holds (stand_of (after s code state before) c)
  pub soon : turns_of c before ≤ most

-- By places, from an image of a sound code, after any legs and any first turns: of the next seventeen turns of a processor that isn't done, if all are
-- steps, one is the load of a holder word as it seeks work, or a move to a place that it has taken over, or a work turn, or the finish word is set.
abbrev pub LooksComeSoon : Type 0
LooksComeSoon = (code : CodeParts) (input : List NamedArray) (s : Shape) (keeper : ℕ) (image : Image)
    → s.takeover ≡ ByPlaces → IsFair code → Opens code input s keeper image
    → Calm (strands s code) (root_strand code input) (arrays_at (view s image.words))
    → (legs : List Leg) → AreLegs s code image.words legs
    → (first more : List Turn) → AllByRecursion (IsTurnAmong s.processors) first → AllByRecursion (IsTurnAmong s.processors) more
    → (c : ℕ) → c < s.processors → is_done_at (stand_of (last_state s code image.words legs first) c) ≡ false
    → AllByRecursion (StepsOnly c) more → 17 ≤ turns_of c more
    → StepsFrom s code IsLooking c 16 (last_state s code image.words legs first) more
    ⊎ (StepsFrom s code IsMoving c 16 (last_state s code image.words legs first) more
    ⊎ ((has (along s code work_of (last_state s code image.words legs first) more) c ≡ true)
    ⊎ (read s (after s code (last_state s code image.words legs first) more).words FinishWord ≢ 0)))
