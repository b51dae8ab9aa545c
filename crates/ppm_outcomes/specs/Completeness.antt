-- A run with turns and room enough ends as its program does.
use Rattle.std.specs.Prelude.{◌≤◌, ℕ, ◌+◌, ◌*◌, List}
use Rattle.ppm_strands.specs.Run.{End as CapsuleEnd}
use Rattle.ppm_ports.specs.Outside.{ToldLists}
use Rattle.ppm_code.specs.Strands.{Result}
use Rattle.ppm_depth.specs.Run.{ComesTo, pool_words}
use Rattle.ppm_tree.specs.Tree.{ProgramTree}
use Rattle.ppm_tree.specs.Program.{initial_arrays}
use Rattle.ppm_program.specs.Programs.{HasProgram}
use Rattle.ppm_cut_code.specs.Routines.{code_of}
use Rattle.ppm_plan.specs.declared.plan_item.PlanItem.{PlanItem}
use Rattle.ppm_plan.specs.Forms.{plan_form}
use Rattle.ppm_plan.specs.Refusals.{IsAccepted}
use Rattle.ppm_answers.specs.declared.answer.Answer.{Answer}
use Rattle.ppm_answers.specs.declared.answer.Answer.TheVariants as answers
use Rattle.ppm_cli.specs.declared.run.RunOptions.{RunOptions}
use Rattle.ppm_cli.specs.Words.{AreRun}
use Rattle.ppm_loading.specs.Planned.{PlannedHas}
use Rattle.ppm_outcomes.specs.Runs.{TextHas}
use Rattle.ppm_outcomes.specs.Strikes.{fault_count}

-- The code of the program, run depth first, comes to an end. So many turns are at least 256 for each of its capsules and each of so many
-- faults, and so much room at least the words that it takes: the root's frame, and the blocks that its capsules ask for.
pub record IsEnough (t : ProgramTree) (faults turns room : ℕ) : Type 0 where
  pub end : CapsuleEnd Result
  pub comes : ComesTo (code_of t) (initial_arrays t) end
  pub for_turns : 256 * (end.counts.capsules + faults) ≤ turns
  pub for_room : pool_words (code_of t) end.counts ≤ room

-- the answer of a run that ended: with arrays, or in a trap
abbrev pub IsEnd : Answer → Type 0
IsEnd (answers.Ended arrays) = Unit {0}
IsEnd (answers.Trapped trap line) = Unit {0}
IsEnd answer = ⊥

-- with options in their ranges, and a plan that is accepted: where turns and room are enough for a text's program and the faults of the plan,
-- each answer of the text is that its run ended
abbrev pub RunsComplete : Type 0
RunsComplete = (options : RunOptions) → AreRun options
    → (plan : List ℕ) (items : List PlanItem) → IsAccepted plan_form plan options.processors items
    → (text : List ℕ) (t : ProgramTree) → HasProgram text t → IsEnough t (fault_count items) options.turns options.room
    → (watching : ℕ) (before now : ToldLists) (answer : Answer)
    → PlannedHas plan_form plan options.processors (TextHas options watching before now) text answer → IsEnd answer
