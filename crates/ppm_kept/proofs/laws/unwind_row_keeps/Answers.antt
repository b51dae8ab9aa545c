use Rattle.ppm_kept.proofs.UnwindRow.{unwind_row_keeps}
use Rattle.ppm_kept.proofs.laws.unwind_row_keeps.Goals as goal

pub returns : goal.returns
returns c = record { law = unwind_row_keeps }
