use Rattle.ppm_stop_command.proofs.OfResume.{resume_delivered, resume_rows}
use Rattle.ppm_stop_command.proofs.resuming.resume_command.Goals as goal

-- the answer was delivered, or out of memory in its place
pub returns-clause-answers : goal.returns-clause-answers
returns-clause-answers g c = resume_delivered c.args.options c.args.faults.now _ _ _ c.read_answer-answer.ensures.kept
    c.read_answer-answer.ensures.told c.read_answer-answer.ensures.may c.deliver.ensures

-- and the rows follow from it
pub returns-clause-rows : goal.returns-clause-rows
returns-clause-rows g c = resume_rows c.resume_laws.ensures.law c.args.options c.args.faults.now _ _
    (resume_delivered c.args.options c.args.faults.now _ _ _ c.read_answer-answer.ensures.kept c.read_answer-answer.ensures.told
    c.read_answer-answer.ensures.may c.deliver.ensures)
