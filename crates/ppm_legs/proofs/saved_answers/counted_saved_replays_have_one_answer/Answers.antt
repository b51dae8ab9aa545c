use Rattle.ppm_legs.proofs.CountedLegLemmas.{have_one_answer}
use Rattle.ppm_legs.proofs.saved_answers.counted_saved_replays_have_one_answer.Goals as goal

-- from the laws of saved texts and of schedules
pub returns : goal.returns
returns c = record { law = have_one_answer c.faults_tell_saved_texts.ensures.law c.have_one_answer.ensures.law }
