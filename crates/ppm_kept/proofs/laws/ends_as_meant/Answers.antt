use Rattle.ppm_kept.proofs.AnswerLemmas.{ends_as_meant}
use Rattle.ppm_kept.proofs.laws.ends_as_meant.Goals as goal

pub returns : goal.returns
returns c = record { law = ends_as_meant }
