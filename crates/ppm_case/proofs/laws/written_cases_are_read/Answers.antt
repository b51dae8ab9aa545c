use Rattle.ppm_case.proofs.WrittenLemmas.{written_is_read}
use Rattle.ppm_case.proofs.laws.written_cases_are_read.Goals as goal

-- by its arrays one by one
pub returns : goal.returns
returns c = record { law = written_is_read }
