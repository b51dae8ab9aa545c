-- A run of a sound code with turns and room enough ends as the code does.
use Rattle.std.specs.Prelude.{◌≡◌, ◌≤◌, ℕ, ◌+◌, ◌*◌, ◌^◌, List, Some}
use Rattle.ppm_strands.specs.Run.{End as CapsuleEnd}
use Rattle.ppm_words.specs.declared.named_array.NamedArray.{NamedArray}
use Rattle.ppm_words.specs.declared.outcome.Outcome.{Outcome}
use Rattle.ppm_words.specs.declared.outcome.Outcome.TheVariants as outcome
use Rattle.ppm_cells.specs.Finish.{finish_of}
use Rattle.ppm_cells.specs.declared.finish.Finish.TheVariants as finishes
use Rattle.ppm_code.specs.Strands.{Result}
use Rattle.ppm_code.specs.declared.code.CodeParts.{CodeParts}
use Rattle.ppm_depth.specs.Run.{ComesTo, pool_words}
use Rattle.ppm_plan.specs.Forms.{plan_form}
use Rattle.ppm_plan.specs.Refusals.{IsKeeper}
use Rattle.ppm_plan.specs.Schedules.{Planned}
use Rattle.ppm_step.specs.declared.turn.Turn.{Turn}
use Rattle.ppm_core.specs.Situation.{Situation}
use Rattle.ppm_choice.specs.Obeying.{ObeyAll}
use Rattle.ppm_choice.specs.declared.limits.Limits.{Limits}
use Rattle.ppm_loading.specs.declared.loading.Sizes.{Sizes}
use Rattle.ppm_loading.specs.Loading.{OpensRun}
use Rattle.ppm_loading.specs.Says.{arrays_from}
use Rattle.ppm_outcomes.specs.AsCode.{MayRun, EndsAsCode}
use Rattle.ppm_outcomes.specs.RunOf.{words_behind, finish_behind}
use Rattle.ppm_outcomes.specs.Strikes.{fault_count}

-- The code, run depth first on this input, comes to an end. So many turns are at least 256 for each of its capsules and each of so many faults,
-- and so much room at least the words that it takes: the root's frame, and the blocks that its capsules ask for.
pub record CodeIsEnough (code : CodeParts) (input : List NamedArray) (faults turns room : ℕ) : Type 0 where
  pub end : CapsuleEnd Result
  pub comes : ComesTo code input end
  pub for_turns : 256 * (end.counts.capsules + faults) ≤ turns
  pub for_room : pool_words code end.counts ≤ room

-- the finish word after these turns says this outcome, and its arrays are those of the words then
abbrev pub SaysOutcome : Situation → List Turn → List NamedArray → Outcome → Type 0
SaysOutcome m turns input (outcome.Ended arrays) =
    (finish_of (finish_behind m turns) ≡ Some finishes.Ended)
    × (arrays ≡ arrays_from m.shape m.array_lengths (words_behind m turns) 0 input)
SaysOutcome m turns input (outcome.Trapped trap line) = finish_of (finish_behind m turns) ≡ Some (finishes.Trapped trap line)
SaysOutcome m turns input outcome.NotWithin = ⊥

-- From the machine with which a run of a sound code begins, its root with a processor that the plan spares: where turns and room are enough for
-- the code and the faults of the plan, and each processor obeys the plan and the limits, the finish word says an outcome, and the run ends so.
abbrev pub RunsOfCodeComplete : Type 0
RunsOfCodeComplete = (code : CodeParts) (input : List NamedArray) → MayRun code input → (sizes : Sizes)
    → (keeper : ℕ) (m : Situation) → OpensRun sizes code input keeper m
    → (plan : Planned) → IsKeeper plan_form plan.items keeper → (limits : Limits) → limits.turns ≤ 2 ^ 34
    → CodeIsEnough code input (fault_count plan.items) limits.turns sizes.room
    → (turns : List Turn) → ObeyAll plan limits m.shape m.code m.state turns
    → (o : Outcome) × SaysOutcome m turns input o × EndsAsCode m turns code input o
