-- What a finish word says of a run.
use Rattle.std.specs.Prelude.{ℕ, zero, suc, Option, Some, None}
use Rattle.ppm_cells.specs.Finish.{finish_of}
use Rattle.ppm_cells.specs.declared.finish.Finish.{Finish}
use Rattle.ppm_cells.specs.declared.ending.Ending.{Ending}
use Rattle.ppm_cells.specs.declared.ending.Ending.TheVariants.{NotYet, With, Unknown}

abbrev pub ending_by : Option Finish → Ending
ending_by None = Unknown
ending_by (Some finish) = With finish

abbrev pub ending_of : (word : ℕ) → Ending
ending_of zero = NotYet
ending_of (suc word) = ending_by (finish_of (suc word))
