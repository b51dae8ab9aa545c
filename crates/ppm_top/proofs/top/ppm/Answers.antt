use Rattle.ppm_top.proofs.OfAll.{program_rows}
use Rattle.ppm_top.proofs.top.ppm.Goals as goal

-- the rows follow from the answer that was delivered
pub returns-clause-rows : goal.returns-clause-rows
returns-clause-rows g c = program_rows c.program_laws.ensures.law _ _ _ c.answer_words.ensures.answers
