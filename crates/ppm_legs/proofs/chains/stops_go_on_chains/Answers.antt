use Rattle.ppm_legs.proofs.ChainLemmas.{stops_begin_chains, stops_go_on_chains}
use Rattle.ppm_legs.proofs.chains.stops_go_on_chains.Goals as goal

-- from the laws of runs in legs and of saved texts
pub returns : goal.returns
returns c = record {
  begin = stops_begin_chains;
  law = stops_go_on_chains c.runs_in_legs_are_as_code.ensures.law c.left_words_come_back.ensures.of_code c.faults_tell_saved_texts.ensures.law;
}
