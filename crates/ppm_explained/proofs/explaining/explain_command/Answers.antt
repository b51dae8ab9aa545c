use Rattle.ppm_answers.proofs.Judged.{judging_delivered}
use Rattle.ppm_explained.specs.Texts.{limit_of}
use Rattle.ppm_explained.specs.Explaining.{ExplainHas}
use Rattle.ppm_explained.proofs.ExplainRows.{explain_rows}
use Rattle.ppm_explained.proofs.explaining.explain_command.Goals as goal

-- the answer was delivered, or out of memory in its place, and the rows follow from it
pub returns : goal.returns
returns g c =
    let d = judging_delivered (limit_of c.args.kind) (ExplainHas c.args.kind) _ _ _ c.explain_answer-answer.ensures c.deliver.ensures in
    record { delivers = d; rows = explain_rows c.args.kind _ (c.texts_have_one_answer.ensures.law c.args.kind) _ d }
