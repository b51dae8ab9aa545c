use Rattle.ppm_answers.proofs.Judged.{judging_delivered}
use Rattle.ppm_text.specs.Limits.{text_limit}
use Rattle.ppm_explained.specs.Trapping.{TrapHas}
use Rattle.ppm_explained.proofs.TrapRows.{trap_rows}
use Rattle.ppm_explained.proofs.trapping.explain_trap_command.Goals as goal

-- the answer was delivered, or out of memory in its place, and the rows follow from it
pub returns : goal.returns
returns g c =
    let d = judging_delivered text_limit (TrapHas c.args.turns) _ _ _ c.read_answer-answer.ensures c.deliver.ensures in
    record { delivers = d; rows = trap_rows c.args.turns _ (c.traps_have_one_answer.ensures.law c.args.turns) _ d }
