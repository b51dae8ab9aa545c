use Rattle.ppm_test_steps.proofs.SampleLemmas.{sample_is_code}
use Rattle.ppm_test_steps.proofs.small.small_code.Goals as goal

-- it is the code of the tests
pub from_parts-requires : goal.from_parts-requires
from_parts-requires c =
    rw (
      c.from_vec.ensures,
      c.new-arrays.ensures.items,
      c.from_vec-2.ensures,
      c.in_ok-procedures.ensures.items,
      c.from_vec-3.ensures,
      c.in_ok-capsules.ensures.items,
      c.in_ok-over.ensures,
      c.in_ok-call.ensures,
      c.in_ok-call_to.ensures,
      c.in_ok-fork.ensures,
      c.in_ok-fork_to.ensures,
      c.in_ok-trap.ensures,
      c.calling.ensures,
      c.calling-2.ensures,
      c.forking.ensures,
      c.forking-2.ensures,
    ) sample_is_code
