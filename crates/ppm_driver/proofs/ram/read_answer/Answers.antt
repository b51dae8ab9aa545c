use Rattle.std.proofs.Common.{map}
use Rattle.ppm_plan.specs.Forms.{plan_form}
use Rattle.ppm_answers.specs.declared.answer.Answer.TheVariants as answers
use Rattle.ppm_driver.specs.RamEnds.{RamHas}
use Rattle.ppm_driver.proofs.RamLemmas.{of_ram, ram_tells}
use Rattle.ppm_orders.proofs.RamTaskLemmas.{no_ram_task, ram_has, ram_wants}
use Rattle.ppm_outcomes.proofs.RunLemmas.{kinds, run_tells}
use Rattle.ppm_outcomes.proofs.WatchLemmas.{fronts_stay, untold}
use Rattle.ppm_driver.proofs.ram.read_answer.Goals as goal

-- what the run of the RAM comes to, by the plan's items
pub returns-in-Ok-ran_ram-clause-may : goal.returns-in-Ok-ran_ram-clause-may
returns-in-Ok-ran_ram-clause-may g c =
    let before = map g.W.Watch.told c.args.watch.now.items in
    let now = map g.W.Watch.told c.ran_ram.new.watch.items in
    ram_has plan_form c.args.faults.now c.args.options.processors
    (λ items ram a. RamHas ram c.args.options c.args.options.processors before now items a) (kinds c.args.options.processors)
    (of_ram c.args.options c.args.options.processors before now) c.read_task.ensures.one c.in-Ok.plan.items c.in-Ok.ensures.accepted _
    c.in-Ok.ensures.said.0 c.in-Ok.ensures.said.1 c.in-Ok.ram c.in-Ok.ensures.said.2 c.in-Ok-ran_ram.answer c.in-Ok-ran_ram.ensures.has

pub returns-in-Ok-ran_ram-clause-told : goal.returns-in-Ok-ran_ram-clause-told
returns-in-Ok-ran_ram-clause-told g c =
    ram_tells c.args.options c.args.options.processors _ _ c.in-Ok.plan.items c.in-Ok.ram _ c.in-Ok.ensures.said c.args.faults.now
    c.in-Ok.ensures.accepted c.in-Ok-ran_ram.answer
    (run_tells c.args.options.processors _ c.in-Ok-ran_ram.answer _ _
    (of_ram c.args.options c.args.options.processors _ _ c.in-Ok.plan.items c.in-Ok.ram c.in-Ok-ran_ram.answer c.in-Ok-ran_ram.ensures.has)
    c.in-Ok-ran_ram.ensures.others)

-- memory was wanting in it
pub returns-in-Ok-clause-may : goal.returns-in-Ok-clause-may
returns-in-Ok-clause-may g c =
    let before = map g.W.Watch.told c.args.watch.now.items in
    let now = map g.W.Watch.told c.ran_ram.new.watch.items in
    ram_wants plan_form c.args.faults.now c.args.options.processors
    (λ items ram a. RamHas ram c.args.options c.args.options.processors before now items a) (kinds c.args.options.processors)
    (of_ram c.args.options c.args.options.processors before now) c.read_task.ensures.one c.in-Ok.plan.items c.in-Ok.ensures.accepted _
    c.in-Ok.ensures.said.0 c.in-Ok.ensures.said.1 c.in-Ok.ram c.in-Ok.ensures.said.2

pub returns-in-Ok-clause-told : goal.returns-in-Ok-clause-told
returns-in-Ok-clause-told g c =
    ram_tells c.args.options c.args.options.processors _ _ c.in-Ok.plan.items c.in-Ok.ram _ c.in-Ok.ensures.said c.args.faults.now
    c.in-Ok.ensures.accepted answers.NoMemory (c.in-Err-ran_ram.ensures.kept, c.in-Err-ran_ram.ensures.others, c.in-Err-ran_ram.ensures.wants)

-- nothing was run, and nobody was told anything
pub returns-clause-may : goal.returns-clause-may
returns-clause-may g c =
    let lists = map g.W.Watch.told c.args.watch.now.items in
    no_ram_task plan_form c.args.faults.now c.args.options.processors
    (λ items ram a. RamHas ram c.args.options c.args.options.processors lists lists items a) _ c.in-Err.answer c.in-Err.ensures.none

pub returns-clause-told : goal.returns-clause-told
returns-clause-told g c = untold c.args.options.processors _ _ c.in-Err.answer _

pub returns-clause-kept : goal.returns-clause-kept
returns-clause-kept g c = fronts_stay _
