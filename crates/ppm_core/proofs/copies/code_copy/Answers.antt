use Rattle.std.proofs.Common.{◌∙◌}
use Rattle.ppm_core.proofs.CopyLemmas.{copied}
use Rattle.ppm_core.proofs.copies.code_copy.Goals as goal

-- the parts are those of a code
pub from_parts-requires : goal.from_parts-requires
from_parts-requires c =
    copied c.args.code.now c.parts-parts.result.now _ _ _ c.parts-parts.ensures.value
    (c.from_vec.ensures ∙ c.in_ok-arrays.ensures.items ∙ c.as_slice.ensures)
    (c.from_vec-2.ensures ∙ c.in_ok-procedures.ensures.items ∙ c.as_slice-2.ensures)
    (c.from_vec-3.ensures ∙ c.in_ok-capsules.ensures ∙ c.as_slice-3.ensures)
    c.parts-parts.ensures.code
