use Rattle.ppm_top.proofs.SoundCaseLemmas.{sound_cases_run_as_depth}
use Rattle.ppm_top.proofs.laws.sound_cases_run_as_depth.Goals as goal

-- it is one of the runs, the cases and the plans
pub returns : goal.returns
returns c = record {
  law = sound_cases_run_as_depth c.answers_are_as_code.ensures.law c.faults_tell_cases.ensures.law c.have_one_answer.ensures.law;
}
