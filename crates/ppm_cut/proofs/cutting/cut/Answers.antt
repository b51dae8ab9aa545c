use Rattle.std.proofs.Common.{◌≤◌, ◌+◌, length, ap, sym, subst, ◌∙◌}
use Rattle.std.specs.List.{AllByRecursion}
use Rattle.ppm_tree.specs.Tree.{procedure_of, tree_of}
use Rattle.ppm_code.specs.Code.{IsCode}
use Rattle.ppm_cut_code.specs.Routines.{code_of}
use Rattle.ppm_cut_code.proofs.FitsLemmas.{names_have_slots}
use Rattle.ppm_cut_code.proofs.KeepLemmas.{rules_kept}
use Rattle.ppm_cut.specs.Counts.{own_counts, hidden_counts, IsShortProcedure, IsSmallProcedure}
use Rattle.ppm_cut.proofs.Limits.{short_procedures, small_procedures, few_counts, few_procedures}
use Rattle.ppm_cut.proofs.cutting.cut.Goals as goal

pub parts_of-requires-clause-few : goal.parts_of-requires-clause-few
parts_of-requires-clause-few c =
    subst (λ t. length (tree_of t).procedures ≤ 1024) (sym c.tree.ensures.value) (few_procedures (tree_of c.args.program.now) c.tree.ensures.limits)

pub parts_of-requires-clause-short : goal.parts_of-requires-clause-short
parts_of-requires-clause-short c =
    subst (λ t. AllByRecursion (λ p. IsShortProcedure (procedure_of p)) t.procedures) (sym c.tree.ensures.value) (short_procedures c.args.program.now c.tree.ensures.limits)

pub parts_of-requires-clause-small : goal.parts_of-requires-clause-small
parts_of-requires-clause-small c =
    subst (λ t. AllByRecursion (λ p. IsSmallProcedure (procedure_of p)) t.procedures) (sym c.tree.ensures.value)
    (small_procedures c.args.program.now c.tree.ensures.limits c.requires.bounded)

pub parts_of-requires-clause-counts : goal.parts_of-requires-clause-counts
parts_of-requires-clause-counts c =
    subst (λ t. own_counts (tree_of t).procedures + hidden_counts (tree_of t).procedures ≤ 65535) (sym c.tree.ensures.value)
    (few_counts (tree_of c.args.program.now) c.requires.bounded)

pub from_parts-requires : goal.from_parts-requires
from_parts-requires c =
    subst IsCode (sym (c.in_ok-parts.ensures ∙ ap (λ t. code_of (tree_of t)) c.tree.ensures.value))
    (rules_kept names_have_slots (tree_of c.args.program.now) c.tree.ensures.limits c.requires.admitted c.requires.bounded)
