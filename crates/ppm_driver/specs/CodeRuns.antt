-- What an answer says where it is that of a run of a code on an input, with options, a plan and watchers as `run` has them, and no program in sight.
use Rattle.std.specs.Prelude.{ℕ, List}
use Rattle.ppm_words.specs.declared.named_array.NamedArray.{NamedArray}
use Rattle.ppm_words.specs.declared.outcome.Outcome.TheVariants as outcome
use Rattle.ppm_ports.specs.Outside.{ToldLists}
use Rattle.ppm_code.specs.declared.code.CodeParts.{CodeParts}
use Rattle.ppm_plan.specs.declared.plan_item.PlanItem.{PlanItem}
use Rattle.ppm_step.specs.declared.turn.Turn.{Turn}
use Rattle.ppm_core.specs.Situation.{Situation}
use Rattle.ppm_answers.specs.declared.answer.Answer.{Answer}
use Rattle.ppm_answers.specs.declared.answer.Answer.TheVariants as answers
use Rattle.ppm_cli.specs.declared.run.RunOptions.{RunOptions}
use Rattle.ppm_cli.specs.Words.{AreRun}
use Rattle.ppm_outcomes.specs.AsCode.{MayRun, CodeNeedsMoreRoom, CodeNeedsMoreTurns, EndsAsCode, IsAsCode}
use Rattle.ppm_outcomes.specs.Runs.{CodeHas}
use Rattle.ppm_outcomes.specs.Strikes.{fault_count}

-- What it says: an outcome is that of the code, run depth first, and this run ends so; else the turns of a processor are fewer than 256 for each
-- capsule of that run and each fault of the plan, or that run takes more words than a pool has, or has no end. No other answer comes.
abbrev pub SaysAsCode : RunOptions → List PlanItem → CodeParts → List NamedArray → Situation → List Turn → Answer → Type 0
SaysAsCode options items code input start turns (answers.Ended arrays) = EndsAsCode start turns code input (outcome.Ended arrays)
SaysAsCode options items code input start turns (answers.Trapped trap line) = EndsAsCode start turns code input (outcome.Trapped trap line)
SaysAsCode options items code input start turns (answers.OutOfTurns processor) = CodeNeedsMoreTurns code input (fault_count items) options.turns
SaysAsCode options items code input start turns (answers.OutOfRoom place) = CodeNeedsMoreRoom code input options.room
SaysAsCode options items code input start turns answer = ⊥

-- with options in their ranges, of each sound code: the run is as the code is, and its answer says so
abbrev pub AnswersAreAsCode : Type 0
AnswersAreAsCode = (options : RunOptions) → AreRun options → (items : List PlanItem)
    → (code : CodeParts) (input : List NamedArray) → MayRun code input
    → (watching : ℕ) (before now : ToldLists) (answer : Answer) (h : CodeHas options watching before now items code input answer)
    → IsAsCode h.start h.run.turns code input × SaysAsCode options items code input h.start h.run.turns answer
