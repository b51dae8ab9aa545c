use Rattle.std.proofs.Common.{◌∙◌, ap, subst, sym}
use Rattle.ppm_tree.specs.Tree.{tree_of}
use Rattle.ppm_driver.specs.Examples.{AreForks, HasRun, first_value, last_value}
use Rattle.ppm_driver.proofs.ExampleLemmas.{by_plan, other_has}
use Rattle.ppm_driver.proofs.example.with_sums.Goals as goal

-- the sums are those of the arrays
pub returns-in_ok-forks-in-Ended : goal.returns-in_ok-forks-in-Ended
returns-in_ok-forks-in-Ended c = λ before now plan is h. record {
  arrays = c.in-Ended.arrays;
  has = subst (HasRun c.args.options before now (tree_of c.args.program.now)) c.in-Ended.is
      (by_plan c.args.options before now (tree_of c.args.program.now) plan.items is.1 c.args.answer h);
  size = c.sums_of-sums.ensures.size;
  forks = subst (AreForks (tree_of c.args.program.now)) (sym c.sums_of-sums.ensures.forks) c.in_ok-forks-in-Ended.ensures;
  sum = c.sums_of-sums.ensures.sum ∙ ap first_value c.as_slice.ensures;
  last = c.sums_of-sums.ensures.last ∙ ap last_value c.as_slice.ensures;
}

-- any other answer is that of the run
pub returns-in_default : goal.returns-in_default
returns-in_default c = λ before now plan is h.
    other_has c.args.options before now (tree_of c.args.program.now) c.args.answer c.in_default.not-Ended
    (by_plan c.args.options before now (tree_of c.args.program.now) plan.items is.1 c.args.answer h)
