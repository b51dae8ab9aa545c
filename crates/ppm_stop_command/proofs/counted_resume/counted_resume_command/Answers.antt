use Rattle.ppm_outcomes.specs.CountedResumes.{TextHas}
use Rattle.ppm_answers.proofs.Judged.{judging_delivered}
use Rattle.ppm_saved_reader.specs.Rules.{saved_limit}
use Rattle.ppm_stop_command.proofs.OfCountedResume.{counted_resume_rows}
use Rattle.ppm_stop_command.proofs.counted_resume.counted_resume_command.Goals as goal

-- the answer was delivered, or out of memory in its place, and the rows follow from it
pub returns : goal.returns
returns g c = record {
  delivers = judging_delivered saved_limit (TextHas c.args.options c.args.faults.now) _ _ _ c.read_answer-answer.ensures c.deliver.ensures;
  rows = counted_resume_rows c.resume_laws.ensures.law c.args.options c.args.faults.now _ _
      (judging_delivered saved_limit (TextHas c.args.options c.args.faults.now) _ _ _ c.read_answer-answer.ensures c.deliver.ensures);
}
