-- A case that `races` calls sound: what each `run` of it comes to, whatever the plan, the schedule and the takeover are.
use Rattle.std.specs.Prelude.{◌<◌, ℕ, ◌+◌, ◌*◌, List}
use Rattle.ppm_ports.specs.Outside.{ToldLists}
use Rattle.ppm_plan.specs.declared.plan_item.PlanItem.{PlanItem}
use Rattle.ppm_plan.specs.Forms.{plan_form}
use Rattle.ppm_plan.specs.Refusals.{IsAccepted}
use Rattle.ppm_answers.specs.declared.counts.Counts.{Counts}
use Rattle.ppm_answers.specs.declared.answer.Answer.{Answer}
use Rattle.ppm_answers.specs.declared.answer.Answer.TheVariants as answers
use Rattle.ppm_cli.specs.declared.run.RunOptions.{RunOptions}
use Rattle.ppm_cli.specs.Words.{AreRun}
use Rattle.ppm_commands.specs.Depth.{DepthHas}
use Rattle.ppm_commands.specs.Races.{RacesHas}
use Rattle.ppm_loading.specs.Planned.{PlannedHas}
use Rattle.ppm_driver.specs.CaseRuns.{TextHas}
use Rattle.ppm_outcomes.specs.Strikes.{fault_count}

-- The answer of a run with such options, of a text that has these counts, and so many faults in the plan, is the result of `depth` of the text: its
-- arrays, or its trap. Else the turns of a processor are fewer than 256 for each of the capsules and each of the faults, or a pool has fewer words.
abbrev pub ComesToDepth : RunOptions → (faults capsules : ℕ) → (text : List ℕ) → Counts → Answer → Type 0
ComesToDepth options faults capsules text k (answers.Ended arrays) = DepthHas capsules text (answers.Counted arrays k)
ComesToDepth options faults capsules text k (answers.Trapped trap line) = DepthHas capsules text (answers.TrappedAfter trap line k)
ComesToDepth options faults capsules text k (answers.OutOfTurns processor) = options.turns < 256 * (k.capsules + faults)
ComesToDepth options faults capsules text k (answers.OutOfRoom place) = options.room < k.pool_words
ComesToDepth options faults capsules text k answer = ⊥

-- Where `races` finds a text sound, with these counts, and the plan is accepted, each answer of `run` is the result of `depth`, or a limit is too low.
abbrev pub SoundCasesRunAsDepth : Type 0
SoundCasesRunAsDepth = (capsules : ℕ) (text : List ℕ) (k : Counts) → RacesHas capsules text (answers.Sound k)
    → (options : RunOptions) → AreRun options
    → (plan : List ℕ) (items : List PlanItem) → IsAccepted plan_form plan options.processors items
    → (watching : ℕ) (before now : ToldLists) (answer : Answer)
    → PlannedHas plan_form plan options.processors (TextHas options watching before now) text answer
    → ComesToDepth options (fault_count items) capsules text k answer
