use Rattle.ppm_tree.proofs.Spending.{spends_its_turns}
use Rattle.ppm_tree.proofs.laws.spend_their_turns.Goals as goal

pub returns : goal.returns
returns c = record { law = spends_its_turns }
