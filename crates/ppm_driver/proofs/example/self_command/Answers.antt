use Rattle.ppm_driver.proofs.OfExample.{example_delivered, example_rows}
use Rattle.ppm_driver.proofs.example.self_command.Goals as goal

-- the answer was delivered, or out of memory in its place
pub returns-clause-answers : goal.returns-clause-answers
returns-clause-answers g c = λ source.
    example_delivered c.args.options _ _ _ c.example_answer-answer.ensures.kept c.example_answer-answer.ensures.told
    c.example_answer-answer.ensures.may c.deliver.ensures

-- and the rows follow from it
pub returns-clause-rows : goal.returns-clause-rows
returns-clause-rows g c = λ source.
    example_rows c.runs_are_as_programs.ensures.law c.examples_sum_up.ensures.law c.args.options c.requires.options _ _
    (example_delivered c.args.options _ _ _ c.example_answer-answer.ensures.kept c.example_answer-answer.ensures.told
    c.example_answer-answer.ensures.may c.deliver.ensures)
