use Rattle.std.proofs.Common.{sym, ◌∙◌}
use Rattle.ppm_war.proofs.SampleLemmas.{sample_is_code}
use Rattle.ppm_test_parts.proofs.war.calling.Goals as goal

-- it is the code of the tests
pub from_parts-requires : goal.from_parts-requires
from_parts-requires c =
    rw (c.from_vec-2.ensures, c.new.ensures.items, c.from_vec-3.ensures, c.in_ok-vec.ensures.items, c.from_vec-4.ensures, c.in_ok-vec-2.ensures.items, c.from_vec.ensures, c.in_ok-instrs.ensures.items)
    (sample_is_code c.args.from c.args.offset c.requires)
