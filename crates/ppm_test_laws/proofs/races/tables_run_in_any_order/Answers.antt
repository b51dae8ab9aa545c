use Rattle.ppm_test_laws.specs.Sample.{sample}
use Rattle.ppm_test_laws.proofs.races.tables_run_in_any_order.Goals as goal

-- the law, of a code that is local
pub returns : goal.returns
returns c = λ table. c.any_order.ensures.agrees (sample table) (c.samples_are_local.ensures table)
