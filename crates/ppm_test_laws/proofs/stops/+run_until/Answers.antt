use Rattle.ppm_test_laws.proofs.StopsLemmas.{none_left}
use Rattle.ppm_test_laws.specs.Sample.{words_of}
use Rattle.ppm_test_laws.proofs.stops.+run_until.Goals as goal

-- nothing is left
pub returns-in-empty : goal.returns-in-empty
returns-in-empty t c = record { stopped = none_left c.args.rest.now c.args.steps c.args.register (words_of c.args.words) c.in-empty.len_below }
