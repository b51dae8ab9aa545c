use Rattle.ppm_sweep_command.proofs.OneSweep.{have_one_case_answer}
use Rattle.ppm_sweep_command.proofs.one_sweep.case_sweeps_have_one_answer.Goals as goal

-- from the laws of texts, of images, of runs and of schedules
pub returns : goal.returns
returns c = record {
  law = have_one_case_answer c.faults_tell_cases.ensures.law c.images_are_one.ensures.law c.runs_are_there.ensures c.have_one_answer.ensures.law
      (record {
        fair = c.sweeps_are_fair.ensures.law;
        written = c.schedules_are_written.ensures.law;
        texts = c.texts_read_as_written.ensures.law;
      });
}
