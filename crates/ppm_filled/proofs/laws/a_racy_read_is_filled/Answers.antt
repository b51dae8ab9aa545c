-- By its three instructions.
use Rattle.ppm_filled.proofs.SampleLemmas.{racy_read_is_filled}
use Rattle.ppm_filled.proofs.laws.a_racy_read_is_filled.Goals as goal

pub returns : goal.returns
returns c = racy_read_is_filled
