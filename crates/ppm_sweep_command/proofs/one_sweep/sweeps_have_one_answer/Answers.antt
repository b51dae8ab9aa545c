use Rattle.ppm_sweep_command.proofs.OneSweep.{have_one_answer}
use Rattle.ppm_sweep_command.proofs.one_sweep.sweeps_have_one_answer.Goals as goal

-- from the laws of texts, of codes, of images, of runs and of schedules
pub returns : goal.returns
returns c = record {
  law = have_one_answer (record {
    texts = c.have_one_answer.ensures.law;
    programs = c.programs_are_as_code.ensures.law;
    images = c.images_are_one.ensures.law;
    runs = c.runs_are_there.ensures;
    plans = c.have_one_answer-2.ensures.law;
    sweeps = record {
      fair = c.sweeps_are_fair.ensures.law;
      written = c.schedules_are_written.ensures.law;
      texts = c.texts_read_as_written.ensures.law;
    };
  });
}
