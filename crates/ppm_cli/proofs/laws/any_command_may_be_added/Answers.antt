use Rattle.std.proofs.Common.{refl}
use Rattle.std.specs.Fmt.{digits}
use Rattle.ppm_cli.proofs.TableLemmas.{table_is_free}
use Rattle.ppm_cli.proofs.laws.any_command_may_be_added.Goals as goal

-- of any table by induction, and of the command line by computing
pub returns : goal.returns
unfolding digits
returns c = record { parsed = table_is_free; sound = (refl, refl) }
