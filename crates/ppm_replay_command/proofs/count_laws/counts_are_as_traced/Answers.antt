use Rattle.ppm_replay_command.proofs.AsTraced.{as_traced}
use Rattle.ppm_replay_command.proofs.count_laws.counts_are_as_traced.Goals as goal

-- from the laws of traces and of the counts of processors
pub returns : goal.returns
returns c = record { law = as_traced c.counts_are_the_machines.ensures.law c.act_counts_tell_turns.ensures.law }
