-- With takeover by places, what goes on after legs of a run of a sound code, with turns and room enough, ends as the code does.
use Rattle.std.specs.Prelude.{◌≡◌, ◌≤◌, ◌<◌, ℕ, ◌+◌, ◌*◌, ◌^◌, List, Option, Some, length}
use Rattle.ppm_words.specs.declared.named_array.NamedArray.{NamedArray}
use Rattle.ppm_words.specs.declared.outcome.Outcome.{Outcome}
use Rattle.ppm_words.specs.declared.outcome.Outcome.TheVariants as outcome
use Rattle.ppm_cells.specs.Finish.{finish_of}
use Rattle.ppm_cells.specs.Memory.{read}
use Rattle.ppm_cells.specs.declared.cell.Cell.TheVariants.{FinishWord}
use Rattle.ppm_cells.specs.declared.finish.Finish.{Finish}
use Rattle.ppm_cells.specs.declared.finish.Finish.TheVariants as finishes
use Rattle.ppm_cells.specs.declared.shape.Shape.{Shape}
use Rattle.ppm_cells.specs.declared.shape.Takeover.TheVariants.{ByPlaces}
use Rattle.ppm_code.specs.declared.code.CodeParts.{CodeParts}
use Rattle.ppm_plan.specs.Forms.{plan_form}
use Rattle.ppm_plan.specs.Refusals.{IsKeeper}
use Rattle.ppm_plan.specs.Schedules.{Planned}
use Rattle.ppm_step.specs.declared.turn.Turn.{Turn}
use Rattle.ppm_runs.specs.Legs.{Leg, AreLegs, words_then, state_then, strikes_then}
use Rattle.ppm_saved.specs.Renewal.{AreRenewed}
use Rattle.ppm_core.specs.Situation.{Situation}
use Rattle.ppm_choice.specs.Obeying.{ObeyAll}
use Rattle.ppm_choice.specs.declared.limits.Limits.{Limits}
use Rattle.ppm_loading.specs.declared.loading.Sizes.{Sizes}
use Rattle.ppm_loading.specs.Loading.{OpensRun}
use Rattle.ppm_loading.specs.Says.{arrays_from}
use Rattle.ppm_outcomes.specs.AsCode.{MayRun}
use Rattle.ppm_outcomes.specs.CompleteAsCode.{CodeIsEnough}
use Rattle.ppm_outcomes.specs.Legs.{words_at_last, finish_at_last}
use Rattle.ppm_outcomes.specs.LegsAsCode.{EndsAsCodeInAll}
use Rattle.ppm_outcomes.specs.Strikes.{fault_count}

-- a finish word that says only that turns were made, or that a watcher's memory was full; fresh processors find none such
abbrev pub IsLimit : Option Finish → Type 0
IsLimit (Some (finishes.OutOfTurns processor)) = Unit {0}
IsLimit (Some finishes.Stopped) = Unit {0}
IsLimit finish = ⊥

-- fresh processors find no finish word that says only that turns were made, or that a watcher's memory was full, whatever was saved
abbrev pub FreshFindNoLimit : Type 0
FreshFindNoLimit = (s : Shape) (saved words : List ℕ) → AreRenewed s saved words → IsLimit (finish_of (read s words FinishWord)) → ⊥

-- the legs of a run from a machine, the latest first
module _ (m : Situation) (legs : List Leg) where
  -- the words that came back last, or with which it began
  abbrev pub words_back : List ℕ
  words_back = words_then m.shape m.code m.state.words legs

  -- how many rows of work were lost in them: by each fault that struck one, and one of each place whenever fresh processors came
  abbrev pub lost_before : ℕ
  lost_before = strikes_then m.shape m.code m.state.words legs + m.shape.processors * length legs

  -- the finish word after these turns says this outcome, and its arrays are those of the words then
  abbrev pub SaysOutcomeAtLast : List Turn → List NamedArray → Outcome → Type 0
  SaysOutcomeAtLast turns input (outcome.Ended arrays) =
      (finish_of (finish_at_last m legs turns) ≡ Some finishes.Ended)
      × (arrays ≡ arrays_from m.shape m.array_lengths (words_at_last m legs turns) 0 input)
  SaysOutcomeAtLast turns input (outcome.Trapped trap line) = finish_of (finish_at_last m legs turns) ≡ Some (finishes.Trapped trap line)
  SaysOutcomeAtLast turns input outcome.NotWithin = ⊥

-- From the machine with which a run of a sound code begins, after legs of it, at most 2^50: where turns and room are enough for the code, what was
-- lost, and the faults of a plan that spares a processor, and each fresh processor obeys the plan and the limits, the finish word says an outcome,
-- and the run ends so.
abbrev pub RunsOfCodeCompleteInLegs : Type 0
RunsOfCodeCompleteInLegs = (code : CodeParts) (input : List NamedArray) → MayRun code input → (sizes : Sizes) → sizes.takeover ≡ ByPlaces
    → (keeper : ℕ) (m : Situation) → OpensRun sizes code input keeper m
    → (legs : List Leg) → AreLegs m.shape m.code m.state.words legs → length legs ≤ 2 ^ 50
    → (IsLimit (finish_of (read m.shape (words_back m legs) FinishWord)) → ⊥)
    → (plan : Planned) (spared : ℕ) → IsKeeper plan_form plan.items spared → spared < m.shape.processors
    → (limits : Limits) → limits.turns ≤ 2 ^ 34
    → CodeIsEnough code input (lost_before m legs + fault_count plan.items) limits.turns sizes.room
    → (turns : List Turn) → ObeyAll plan limits m.shape m.code (state_then m.shape m.code m.state.words legs) turns
    → (o : Outcome) × SaysOutcomeAtLast m legs turns input o × EndsAsCodeInAll m legs turns code input o
