use Rattle.ppm_layout.proofs.SampleLemmas.{sample_is_code}
use Rattle.ppm_test_parts.proofs.layout.small_code.Goals as goal

-- it is the code of the tests
pub from_parts-requires : goal.from_parts-requires
from_parts-requires c =
    rw (
      c.from_vec.ensures,
      c.in_ok-vec.ensures.items,
      c.from_vec-2.ensures,
      c.in_ok-procedures.ensures.items,
      c.from_vec-3.ensures,
      c.in_ok-capsules.ensures.items,
      c.in_ok-ending.ensures,
      c.in_ok-ending-2.ensures,
    ) sample_is_code
