use Rattle.std.proofs.Common.{ap, ◌∙◌, subst}
use Rattle.std.specs.Prelude.{OnOk}
use Rattle.ppm_code.specs.declared.code.CodeParts.{CodeParts}
use Rattle.ppm_listing.specs.Correct.{NumbersFit}
use Rattle.ppm_tree.specs.Tree.{tree_of}
use Rattle.ppm_cut_code.specs.Routines.{code_of}
use Rattle.ppm_commands.proofs.case.case_of.Goals as goal

-- the numbers are those of the program's code
pub returns-clause-fits : goal.returns-clause-fits
returns-clause-fits c =
    subst (λ (code : CodeParts). OnOk c.write_case.result (NumbersFit code))
    (c.in_ok-code.ensures.code ∙ ap (λ p. code_of (tree_of p)) c.program.ensures.value) c.write_case.ensures.fits
