use Rattle.std.proofs.Common.{sym, subst}
use Rattle.ppm_case.specs.Rules.{case_limit}
use Rattle.ppm_answers.proofs.Delivered.{left_alone}
use Rattle.ppm_plan.specs.Strands.{strand_form}
use Rattle.ppm_loading.proofs.PlannedLemmas.{refused_may}
use Rattle.ppm_strands_command.specs.Strands.{StrandsMay, TextHas}
use Rattle.ppm_strands_command.proofs.OneAnswer.{by_schedule}
use Rattle.ppm_strands_command.proofs.strands.read_answer.Goals as goal

-- the answer by the schedule's items
pub returns-in-Ok : goal.returns-in-Ok
returns-in-Ok g c =
    by_schedule c.have_one_answer.ensures.law c.args.options c.args.schedule.now c.in-Ok.items.items _ c.in-Ok.ensures.items c.deref.ensures.value _
    c.source_answer.result c.source_answer.ensures

-- or the schedule is refused
pub returns-in-Err : goal.returns-in-Err
returns-in-Err g c =
    subst (StrandsMay c.args.options c.args.schedule.now _) (sym c.refusal_answer.ensures)
    (refused_may strand_form c.args.schedule.now 1 (TextHas c.args.options) case_limit c.in-Err.error c.in-Err.ensures.refused _
    (left_alone g.S.Source.left g.S.Source.fault_count c.args.source.now))
