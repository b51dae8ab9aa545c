use Rattle.std.proofs.Common.{List, sym, subst}
use Rattle.ppm_words.specs.declared.named_array.NamedArray.{NamedArray}
use Rattle.ppm_code.specs.declared.code.CodeParts.{CodeParts}
use Rattle.ppm_tree.specs.Tree.{tree_of}
use Rattle.ppm_tree.specs.Program.{initial_arrays}
use Rattle.ppm_outcomes.specs.CountedRuns.{CodeHas}
use Rattle.ppm_driver.proofs.counted_run.counted.Goals as goal

-- what the run of its code comes to
pub returns : goal.returns
returns g c =
    subst (λ (k : CodeParts). CodeHas c.args.options c.args.plan.now.items k (initial_arrays (tree_of c.args.program.now)) c.in_ok-answer.answer)
    c.in_ok-code.ensures.code
    (subst (λ (l : List NamedArray). CodeHas c.args.options c.args.plan.now.items c.in_ok-code.code l c.in_ok-answer.answer)
    c.input.ensures.value c.in_ok-answer.ensures)
