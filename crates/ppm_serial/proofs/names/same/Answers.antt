-- Equal names are the same bytes.
use Rattle.ppm_serial.proofs.NameLemmas.{same_bytes}
use Rattle.ppm_serial.proofs.names.same.Goals as goal

pub returns : goal.returns
returns c = same_bytes c.args.x.now c.args.y.now c.is.result c.is.ensures
