use Rattle.ppm_calls.proofs.CounterLemmas.{counter_is_code}
use Rattle.ppm_calls.proofs.making.counter.Goals as goal

-- it keeps the rules of a code
pub from_parts-code-requires : goal.from_parts-code-requires
from_parts-code-requires c =
    rw (
      c.from_vec.ensures,
      c.in_ok-vec.ensures.items,
      c.from_vec-2.ensures,
      c.in_ok-vec-2.ensures.items,
      c.from_vec-3.ensures,
      c.in_ok-vec-3.ensures.items,
      c.in_ok-reading.ensures,
      c.in_ok-adding.ensures,
    ) counter_is_code
