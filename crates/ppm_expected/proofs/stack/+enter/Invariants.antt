use Rattle.ppm_expected.specs.Language.{item_of}
use Rattle.ppm_expected.proofs.ChoiceLemmas.{rank}
use Rattle.ppm_expected.proofs.stack.+enter.Given as goal

abbrev pub decreases-enter : goal.decreases-enter
decreases-enter l = rank (item_of l.item)
