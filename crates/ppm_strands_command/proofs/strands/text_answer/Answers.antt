use Rattle.std.proofs.Common.{subst}
use Rattle.ppm_answers.specs.declared.answer.Answer.TheVariants as answers
use Rattle.ppm_strands_command.specs.Cases.{MayOf, OfTidy}
use Rattle.ppm_strands_command.specs.Strands.{OfSchedule}
use Rattle.ppm_strands_command.proofs.CaseAnswers.{case_has, refused_has}
use Rattle.ppm_strands_command.proofs.OneAnswer.{of_run}
use Rattle.ppm_strands_command.proofs.strands.text_answer.Goals as goal

-- what is said of the case is said of its text
pub returns-in-Ok : goal.returns-in-Ok
returns-in-Ok c =
    let options = c.args.options in
    let items = c.args.items.now in
    case_has (OfTidy (OfSchedule options items)) (λ code input r h. of_run options items code input (answers.InputRefused r) h)
    (λ code input r h. of_run options items code input (answers.ListingRefused r) h) c.args.text.now c.in-Ok.case.code c.in-Ok.case.input
    c.case_answer.result c.in-Ok.ensures.case
    (subst (λ input. MayOf (OfTidy (OfSchedule options items)) c.in-Ok.case.code input c.case_answer.result) c.arrays.ensures.value c.case_answer.ensures)

-- or it is refused
pub returns-in-Err : goal.returns-in-Err
returns-in-Err c = refused_has (OfTidy (OfSchedule c.args.options c.args.items.now)) c.args.text.now c.in-Err.answer c.in-Err.ensures.none
