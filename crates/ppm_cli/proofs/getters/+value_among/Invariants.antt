use Rattle.std.proofs.Common.{length}
use Rattle.ppm_cli.proofs.getters.+value_among.Given as goal

-- a word less is sought each time
abbrev pub decreases-value_among : goal.decreases-value_among
decreases-value_among g l = length l.words.now
