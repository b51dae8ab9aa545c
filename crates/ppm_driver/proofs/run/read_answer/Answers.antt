use Rattle.std.proofs.Common.{map}
use Rattle.ppm_tree.specs.Tree.{tree_of}
use Rattle.ppm_plan.specs.Forms.{plan_form}
use Rattle.ppm_answers.specs.declared.answer.Answer.TheVariants as answers
use Rattle.ppm_outcomes.specs.Runs.{ProgramHas}
use Rattle.ppm_driver.proofs.MadeLemmas.{source_tells}
use Rattle.ppm_orders.proofs.OrdersLemmas.{no_task, task_has, task_wants}
use Rattle.ppm_outcomes.proofs.RunLemmas.{kinds, of_program, run_tells}
use Rattle.ppm_outcomes.proofs.WatchLemmas.{fronts_stay, untold}
use Rattle.ppm_driver.proofs.run.read_answer.Goals as goal

-- what the run of the program comes to, by the plan's items
pub returns-in-Ok-ran-clause-may : goal.returns-in-Ok-ran-clause-may
returns-in-Ok-ran-clause-may g c =
    task_has plan_form c.args.faults.now c.args.options.processors (ProgramHas c.args.options c.args.options.processors _ _)
    (kinds c.args.options.processors) (of_program c.args.options c.args.options.processors _ _) c.read_task.ensures.one c.in-Ok.plan.items
    c.in-Ok.ensures.accepted _ (tree_of c.in-Ok.program) c.in-Ok.ensures.said c.in-Ok-ran.answer c.in-Ok-ran.ensures.has

pub returns-in-Ok-ran-clause-told : goal.returns-in-Ok-ran-clause-told
returns-in-Ok-ran-clause-told g c =
    source_tells c.args.options c.args.options.processors _ _ c.in-Ok.plan.items _ _ c.in-Ok.ensures.said c.args.faults.now
    c.in-Ok.ensures.accepted c.in-Ok-ran.answer
    (run_tells c.args.options.processors _ c.in-Ok-ran.answer _ _
    (of_program c.args.options c.args.options.processors _ _ c.in-Ok.plan.items (tree_of c.in-Ok.program) c.in-Ok-ran.answer c.in-Ok-ran.ensures.has)
    c.in-Ok-ran.ensures.others)

-- memory was wanting in it
pub returns-in-Ok-clause-may : goal.returns-in-Ok-clause-may
returns-in-Ok-clause-may g c =
    let before = map g.W.Watch.told c.args.watch.now.items in
    let now = map g.W.Watch.told c.ran.new.watch.items in
    task_wants plan_form c.args.faults.now c.args.options.processors (ProgramHas c.args.options c.args.options.processors before now)
    (kinds c.args.options.processors) (of_program c.args.options c.args.options.processors before now) c.read_task.ensures.one c.in-Ok.plan.items
    c.in-Ok.ensures.accepted _ (tree_of c.in-Ok.program) c.in-Ok.ensures.said

pub returns-in-Ok-clause-told : goal.returns-in-Ok-clause-told
returns-in-Ok-clause-told g c =
    source_tells c.args.options c.args.options.processors _ _ c.in-Ok.plan.items _ _ c.in-Ok.ensures.said c.args.faults.now
    c.in-Ok.ensures.accepted answers.NoMemory (c.in-Err-ran.ensures.kept, c.in-Err-ran.ensures.others, c.in-Err-ran.ensures.wants)

-- nothing was run, and nobody was told anything
pub returns-clause-may : goal.returns-clause-may
returns-clause-may g c =
    no_task plan_form c.args.faults.now c.args.options.processors (ProgramHas c.args.options c.args.options.processors _ _) _ c.in-Err.answer
    c.in-Err.ensures.none

pub returns-clause-told : goal.returns-clause-told
returns-clause-told g c = untold c.args.options.processors _ _ c.in-Err.answer _

pub returns-clause-kept : goal.returns-clause-kept
returns-clause-kept g c = fronts_stay _
