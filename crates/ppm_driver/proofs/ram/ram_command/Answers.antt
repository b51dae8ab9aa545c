use Rattle.ppm_ports.specs.Ports.{port}
use Rattle.ppm_driver.proofs.OfRam.{ram_delivered, ram_rows}
use Rattle.ppm_driver.proofs.ram.ram_command.Goals as goal

-- the answer was delivered, or out of memory in its place
pub returns-clause-answers : goal.returns-clause-answers
returns-clause-answers g c = ram_delivered c.have_one_answer.ensures.law.plans c.args.options c.args.options.processors c.args.faults.now _ _ _
    c.read_answer-answer.ensures.kept c.read_answer-answer.ensures.told c.read_answer-answer.ensures.may c.deliver.ensures

-- and the rows follow from it
pub returns-clause-rows : goal.returns-clause-rows
returns-clause-rows g c = ram_rows (record {
  runs = c.answers_are_as_rams.ensures.law;
  texts = c.texts_are_of_rams.ensures;
  plans = c.have_one_answer.ensures.law;
  one = c.ram_answers_are_one.ensures.one;
  fronts = c.ram_answers_are_one.ensures.front;
}) c.args.options c.requires.options c.args.options.processors c.args.faults.now _ _
    (ram_delivered c.have_one_answer.ensures.law.plans c.args.options c.args.options.processors c.args.faults.now _ _ _
    c.read_answer-answer.ensures.kept c.read_answer-answer.ensures.told c.read_answer-answer.ensures.may c.deliver.ensures)
