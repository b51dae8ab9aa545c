use Rattle.std.proofs.Common.{◌∙◌, sym, subst}
use Rattle.ppm_words.specs.Names.{IsName}
use Rattle.ppm_case.proofs.ValueLemmas.{stand_few, stand_name, stand_fit, array_made}
use Rattle.ppm_case.proofs.arrays.make_array.Goals as goal

-- there is room for its values
pub values_of-requires-clause-few : goal.values_of-requires-clause-few
values_of-requires-clause-few c = stand_few c.requires

pub values_of-requires-clause-fit : goal.values_of-requires-clause-fit
values_of-requires-clause-fit c = stand_fit c.requires

-- its name is one
pub from_bytes-requires : goal.from_bytes-requires
from_bytes-requires c = subst IsName (sym c.in_ok-from_slice.ensures.items) (stand_name c.requires)

-- and it is the array
pub returns : goal.returns
returns c = λ a h.
    array_made a h c.from_bytes.result (c.from_bytes.ensures ∙ c.in_ok-from_slice.ensures.items) c.from_vec.result
    (λ l ws cut. c.from_vec.ensures ∙ c.in_ok-values.ensures l ws cut)
