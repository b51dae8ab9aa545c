use Rattle.std.proofs.Common.{ap, ◌∙◌, subst}
use Rattle.ppm_tree.specs.Tree.{tree_of}
use Rattle.ppm_tree.specs.Limits.{IsWithin}
use Rattle.ppm_cut_code.specs.Routines.{code_of}
use Rattle.ppm_driver.proofs.ExampleLemmas.{code_tidy, forks_are}
use Rattle.ppm_loading.proofs.LoadingLemmas.{names_arrays}
use Rattle.ppm_driver.proofs.example.forks_of.Goals as goal

-- a program's code is tidy
pub depth_first-requires-clause-tidy : goal.depth_first-requires-clause-tidy
depth_first-requires-clause-tidy c =
    code_tidy (tree_of c.args.program.now) _ (c.in_ok-code.ensures.code ∙ ap (λ p. code_of (tree_of p)) c.program-2.ensures.value)
    c.code_is_sound.ensures.law c.start_with_input.ensures.law
    (subst (λ p. IsWithin (tree_of p)) c.program.ensures.value c.tree.ensures.limits) c.program.ensures.admitted c.requires

-- its root names arrays that the program starts with
pub depth_first-requires-clause-arrays : goal.depth_first-requires-clause-arrays
depth_first-requires-clause-arrays c =
    names_arrays (tree_of c.args.program.now) c.program.ensures.admitted _
    (c.in_ok-code.ensures.code ∙ ap (λ p. code_of (tree_of p)) c.program-2.ensures.value) c.name_arrays.ensures.law
    c.start_with_input.ensures.law (subst (λ p. IsWithin (tree_of p)) c.program.ensures.value c.tree.ensures.limits) _ c.input.ensures.value

-- the forks are those of the program's code on its input
pub returns : goal.returns
returns c =
    forks_are (tree_of c.args.program.now) _ (c.in_ok-code.ensures.code ∙ ap (λ p. code_of (tree_of p)) c.program-2.ensures.value)
    _ c.input.ensures.value _ c.in_ok-run.ensures.run
