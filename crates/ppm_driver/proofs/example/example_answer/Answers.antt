use Rattle.std.proofs.Common.{map}
use Rattle.ppm_tree.specs.Tree.{tree_of}
use Rattle.ppm_answers.specs.declared.answer.Answer.TheVariants as answers
use Rattle.ppm_driver.proofs.ExampleLemmas.{example_tells, none_may, program_may, sums_may, sums_tell}
use Rattle.ppm_outcomes.proofs.WatchLemmas.{fronts_stay, untold}
use Rattle.ppm_driver.proofs.example.example_answer.Goals as goal

-- what the run of the program comes to
pub returns-in-Ok-summed-clause-may : goal.returns-in-Ok-summed-clause-may
returns-in-Ok-summed-clause-may g c =
    program_may c.args.options (map g.W.Watch.told c.args.watch.now.items) (map g.W.Watch.told c.summed.new.watch.items) (tree_of c.in-Ok.program)
    c.in-Ok.ensures.program c.in-Ok-summed.answer
    (sums_may c.args.options (map g.W.Watch.told c.args.watch.now.items) (map g.W.Watch.told c.summed.new.watch.items) (tree_of c.in-Ok.program)
    c.in-Ok-summed.answer c.in-Ok-summed.ensures.has)

pub returns-in-Ok-summed-clause-told : goal.returns-in-Ok-summed-clause-told
returns-in-Ok-summed-clause-told g c =
    example_tells c.args.options (map g.W.Watch.told c.args.watch.now.items) (map g.W.Watch.told c.summed.new.watch.items) (tree_of c.in-Ok.program)
    c.in-Ok.ensures.program c.in-Ok-summed.answer
    (sums_tell c.args.options (map g.W.Watch.told c.args.watch.now.items) (map g.W.Watch.told c.summed.new.watch.items) (tree_of c.in-Ok.program) _
    c.in-Ok-summed.answer c.in-Ok-summed.ensures.has c.in-Ok-summed.ensures.others)

-- memory was wanting in it
pub returns-in-Ok-clause-told : goal.returns-in-Ok-clause-told
returns-in-Ok-clause-told g c =
    example_tells c.args.options (map g.W.Watch.told c.args.watch.now.items) (map g.W.Watch.told c.summed.new.watch.items) (tree_of c.in-Ok.program)
    c.in-Ok.ensures.program answers.NoMemory
    (c.in-Err-summed.ensures.kept, c.in-Err-summed.ensures.others, c.in-Err-summed.ensures.wants)

-- there is no program, and nobody was told anything
pub returns-clause-may : goal.returns-clause-may
returns-clause-may g c = none_may c.args.options (map g.W.Watch.told c.args.watch.now.items) (map g.W.Watch.told c.args.watch.now.items) c.in-Err.answer c.in-Err.ensures.none

pub returns-clause-told : goal.returns-clause-told
returns-clause-told g c = untold c.args.options.processors _ _ c.in-Err.answer _

pub returns-clause-kept : goal.returns-clause-kept
returns-clause-kept g c = fronts_stay _
