use Rattle.ppm_commands.specs.Depth.{DepthOf}
use Rattle.ppm_commands.proofs.CaseAnswers.{case_has, refused_has}
use Rattle.ppm_commands.proofs.depth.text_answer.Goals as goal

-- what is said of the case is said of its text
pub returns-in-Ok : goal.returns-in-Ok
returns-in-Ok c =
    case_has (DepthOf c.args.capsules) (λ code input r h. h) (λ code input r h. h) c.args.text.now c.in-Ok.case.code c.in-Ok.case.input
    c.case_answer.result c.in-Ok.ensures.case c.case_answer.ensures

-- or it is refused
pub returns-in-Err : goal.returns-in-Err
returns-in-Err c = refused_has (DepthOf c.args.capsules) c.args.text.now c.in-Err.answer c.in-Err.ensures.none
