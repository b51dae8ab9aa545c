use Rattle.std.proofs.Common.{refl, ap, ◌∙◌, subst}
use Rattle.ppm_tree.specs.Tree.{tree_of}
use Rattle.ppm_tree.specs.Limits.{IsWithin}
use Rattle.ppm_cut_code.specs.Routines.{code_of}
use Rattle.ppm_loading.proofs.LoadingLemmas.{names_arrays}
use Rattle.ppm_loading.proofs.loading.program_code.Goals as goal

-- it is that of the program
pub returns-clause-code : goal.returns-clause-code
returns-clause-code c = c.in_ok-code.ensures.code ∙ ap (λ p. code_of (tree_of p)) c.program-2.ensures.value

-- its root names arrays that the program starts with
pub returns-clause-names : goal.returns-clause-names
returns-clause-names c =
    names_arrays (tree_of c.args.program.now) c.program.ensures.admitted _
    (c.in_ok-code.ensures.code ∙ ap (λ p. code_of (tree_of p)) c.program-2.ensures.value) c.name_arrays.ensures.law
    c.start_with_input.ensures.law (subst (λ p. IsWithin (tree_of p)) c.program.ensures.value c.tree.ensures.limits) _ refl
