use Rattle.std.proofs.Common.{sym, subst}
use Rattle.ppm_answers.specs.Reading.{TextMay}
use Rattle.ppm_cli.specs.declared.explain.ExplainedText.TheVariants as texts
use Rattle.ppm_explained.specs.Explaining.{ExplainHas}
use Rattle.ppm_explained.proofs.saved.saved_answer.Goals as goal
use Rattle.ppm_explained.proofs.saved.saved_answer.Goals.{in-Ok, in-Err}

-- the text is that of the state that was read, or of none
pub returns : goal.returns
returns c = elim c.match-read_saved.branch [
  | in-Ok w ↦ subst (TextMay (ExplainHas texts.Saved) c.args.text.now) (sym w.result-is)
      (record { shape = _; arrays = _; code = _; words = _; saved = w.in-Ok.ensures.ok })
  | in-Err w ↦ subst (TextMay (ExplainHas texts.Saved) c.args.text.now) (sym w.result-is) w.error_answer.ensures
]
