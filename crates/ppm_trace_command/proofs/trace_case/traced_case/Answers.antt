use Rattle.std.proofs.Common.{subst}
use Rattle.ppm_answers.specs.declared.answer.Answer.TheVariants as answers
use Rattle.ppm_naming.specs.declared.names.Names.{Names}
use Rattle.ppm_trace_command.specs.Traces.{CodeHas}
use Rattle.ppm_trace_command.proofs.trace_case.traced_case.Goals as goal

-- what is told of its code's run, by its own names
pub returns : goal.returns
returns c =
    subst (λ (n : Names). CodeHas c.args.options n c.args.schedule.now.items c.args.case.code c.args.case.input (answers.Traced c.in_ok-text.text.items))
    c.in_ok-names.ensures c.in_ok-text.ensures
