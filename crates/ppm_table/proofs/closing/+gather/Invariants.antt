use Rattle.std.proofs.Common.{vec_len}
use Rattle.ppm_table.proofs.closing.+gather.Given as goal

abbrev pub decreases-gather : goal.decreases-gather
decreases-gather l = vec_len l.rest
