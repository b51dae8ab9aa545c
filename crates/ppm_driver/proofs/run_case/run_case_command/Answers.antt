use Rattle.ppm_ports.specs.Ports.{port}
use Rattle.ppm_driver.proofs.OfRunCase.{case_delivered, case_rows}
use Rattle.ppm_driver.proofs.run_case.run_case_command.Goals as goal

-- the answer was delivered, or out of memory in its place
pub returns-clause-answers : goal.returns-clause-answers
returns-clause-answers g c = case_delivered c.have_one_answer.ensures.law.plans c.args.options c.args.options.processors c.args.faults.now _ _ _
    c.read_answer-answer.ensures.kept c.read_answer-answer.ensures.told c.read_answer-answer.ensures.may c.deliver.ensures

-- and the rows follow from it
pub returns-clause-rows : goal.returns-clause-rows
returns-clause-rows g c = case_rows (record {
  runs = c.answers_are_as_code.ensures.law;
  texts = c.faults_tell_cases.ensures.law;
  plans = c.have_one_answer.ensures.law;
  one = c.case_answers_are_one.ensures.one;
  fronts = c.case_answers_are_one.ensures.front;
}) c.args.options c.requires.options c.args.options.processors c.args.faults.now _ _
    (case_delivered c.have_one_answer.ensures.law.plans c.args.options c.args.options.processors c.args.faults.now _ _ _
    c.read_answer-answer.ensures.kept c.read_answer-answer.ensures.told c.read_answer-answer.ensures.may c.deliver.ensures)
