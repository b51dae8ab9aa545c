use Rattle.std.proofs.Common.{◌≡◌, subst}
use Rattle.ppm_tree.specs.Tree.{tree_of}
use Rattle.ppm_regions.specs.Admission.{IsAdmitted}
use Rattle.ppm_regions.proofs.Faultless.{admitted_where_none}
use Rattle.ppm_regions.proofs.admitting.admit.Goals as goal

-- no fault was found
pub initial_input-requires : goal.initial_input-requires
initial_input-requires c =
    subst (λ t. IsAdmitted (tree_of t)) c.tree.ensures.value
    (admitted_where_none (tree_of c.tree.result.now) c.in_ok-error.field-0 c.in_ok-error.ensures c.in_default.not-Some)

pub from_parts-requires-clause-admitted : goal.from_parts-requires-clause-admitted
from_parts-requires-clause-admitted c =
    subst (λ t. IsAdmitted (tree_of t)) c.tree.ensures.value
    (admitted_where_none (tree_of c.tree.result.now) c.in_ok-error.field-0 c.in_ok-error.ensures c.in_default.not-Some)
