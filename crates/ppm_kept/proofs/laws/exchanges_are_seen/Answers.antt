use Rattle.ppm_kept.proofs.ExchangeLemmas.{exchanges_are_seen}
use Rattle.ppm_kept.proofs.laws.exchanges_are_seen.Goals as goal

pub returns : goal.returns
returns c = record { law = exchanges_are_seen }
