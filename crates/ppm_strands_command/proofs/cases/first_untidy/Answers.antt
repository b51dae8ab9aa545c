use Rattle.std.proofs.Common.{subst}
use Rattle.ppm_code.specs.Tidy.{IsTidy}
use Rattle.ppm_strands_command.proofs.cases.first_untidy.Goals as goal

-- the plain code, which is tidy, is that with a put in place of each exchange
pub returns : goal.returns
returns c = subst IsTidy c.in_ok-plain.ensures c.in-None.ensures
