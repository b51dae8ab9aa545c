use Rattle.ppm_commands.proofs.CaseRows.{program_reads}
use Rattle.ppm_commands.proofs.case.text_answer.Goals as goal

-- what is said of the program
pub returns-in-Ok : goal.returns-in-Ok
returns-in-Ok c = program_reads c.args.text.now _ c.program_answer.result c.in-Ok.ensures.program c.program_answer.ensures
