use Rattle.std.proofs.Common.{Some}
use Rattle.ppm_saved_reader.proofs.LoopLemmas.{line_shorter}
use Rattle.ppm_saved_reader.proofs.first_run.first_run.Goals as goal

-- a line is shorter than its text
pub returns-in-Some-clause-shorter : goal.returns-in-Some-clause-shorter
returns-in-Some-clause-shorter c = line_shorter c.args.text.now c.in-Some.rest.now (Some c.in-Some.word, 1) c.in-Some.ensures
