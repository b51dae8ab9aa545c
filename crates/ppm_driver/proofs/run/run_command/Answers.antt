use Rattle.ppm_ports.specs.Ports.{port}
use Rattle.ppm_driver.proofs.OfRun.{run_delivered, run_rows}
use Rattle.ppm_driver.proofs.run.run_command.Goals as goal

-- the answer was delivered, or out of memory in its place
pub returns-clause-answers : goal.returns-clause-answers
returns-clause-answers g c = run_delivered c.have_one_answer.ensures.law.plans c.args.options c.args.options.processors c.args.faults.now _ _ _
    c.read_answer-answer.ensures.kept c.read_answer-answer.ensures.told c.read_answer-answer.ensures.may c.deliver.ensures

-- and the rows follow from it
pub returns-clause-rows : goal.returns-clause-rows
returns-clause-rows g c = run_rows c.runs_are_as_programs.ensures.law c.args.options c.requires.options c.args.options.processors c.args.faults.now _ _
    (run_delivered c.have_one_answer.ensures.law.plans c.args.options c.args.options.processors c.args.faults.now _ _ _
    c.read_answer-answer.ensures.kept c.read_answer-answer.ensures.told c.read_answer-answer.ensures.may c.deliver.ensures)
    c.have_one_answer.ensures.law c.answers_are_one.ensures.one c.answers_are_one.ensures.front c.runs_complete.ensures.law
