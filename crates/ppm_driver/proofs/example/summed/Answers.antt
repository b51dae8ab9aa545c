use Rattle.std.proofs.Common.{map, subst}
use Rattle.ppm_cli.specs.declared.run.RunOptions.{RunOptions}
use Rattle.ppm_tree.specs.Tree.{tree_of}
use Rattle.ppm_outcomes.specs.Runs.{ProgramHas}
use Rattle.ppm_outcomes.specs.Runs as runs
use Rattle.ppm_outcomes.specs.Watchers.{OthersKeep, ToldWhole}
use Rattle.ppm_driver.proofs.ExampleLemmas.{wants_by_plan}
use Rattle.ppm_outcomes.proofs.WantLemmas.{at_err}
use Rattle.ppm_driver.proofs.example.summed.Goals as goal

-- sums come in place of the arrays of the run
pub returns-clause-has : goal.returns-clause-has
returns-clause-has g c =
    let before = map g.W.Watch.told c.args.watch.now.items in
    let now = map g.W.Watch.told c.ran.new.watch.items in
    c.with_sums.ensures before now c.args.plan.now c.requires.plan
    (subst (λ (r : RunOptions). ProgramHas r r.processors before now c.args.plan.now.items (tree_of c.args.program.now) c.in_ok-answer.answer)
    c.run_options.ensures.value c.in_ok-answer.ensures.has)

-- where memory is wanting for the sums, all of the run was told
pub returns-clause-wants : goal.returns-clause-wants
returns-clause-wants g c =
    let before = map g.W.Watch.told c.args.watch.now.items in
    let now = map g.W.Watch.told c.ran.new.watch.items in
    at_err (wants_by_plan c.args.options before now (tree_of c.args.program.now) c.args.plan.now.items c.requires.plan.1
    (ToldWhole (
      c.in_ok-answer.answer,
      subst (λ (r : RunOptions). ProgramHas r r.processors before now c.args.plan.now.items (tree_of c.args.program.now) c.in_ok-answer.answer)
          c.run_options.ensures.value c.in_ok-answer.ensures.has,
    ))) c.with_sums.result

-- and where it is in the run, what the run says
pub returns-in_err-answer-clause-wants : goal.returns-in_err-answer-clause-wants
returns-in_err-answer-clause-wants g c =
    let before = map g.W.Watch.told c.args.watch.now.items in
    let now = map g.W.Watch.told c.ran.new.watch.items in
    at_err (wants_by_plan c.args.options before now (tree_of c.args.program.now) c.args.plan.now.items c.requires.plan.1
    (subst (λ (r : RunOptions). runs.ProgramWants r r.processors before now c.args.plan.now.items (tree_of c.args.program.now))
    c.run_options.ensures.value c.in_err-answer.ensures.wants)) _

-- the watchers of no processor are told nothing
pub returns-clause-others : goal.returns-clause-others
returns-clause-others g c =
    let before = map g.W.Watch.told c.args.watch.now.items in
    let now = map g.W.Watch.told c.ran.new.watch.items in
    subst (λ (r : RunOptions). OthersKeep r.processors before now) c.run_options.ensures.value c.in_ok-answer.ensures.others

pub returns-in_err-answer-clause-others : goal.returns-in_err-answer-clause-others
returns-in_err-answer-clause-others g c =
    let before = map g.W.Watch.told c.args.watch.now.items in
    let now = map g.W.Watch.told c.ran.new.watch.items in
    subst (λ (r : RunOptions). OthersKeep r.processors before now) c.run_options.ensures.value c.in_err-answer.ensures.others
