use Rattle.std.proofs.Common.{ℕ, List, sym, subst}
use Rattle.ppm_answers.specs.Reading.{TextMay}
use Rattle.ppm_show.specs.Names.{scene_of}
use Rattle.ppm_commands.specs.Show.{SceneMay, ShowHas}
use Rattle.ppm_commands.proofs.ShowAnswers.{refused_may, state_may}
use Rattle.ppm_commands.proofs.show.text_answer.Goals as goal

-- the text is that of a state, whose lengths apart are those of its arrays
pub returns-in-Ok : goal.returns-in-Ok
returns-in-Ok c =
    let z = c.in-Ok.saved in
    state_may c.args.text.now z.shape z.names z.code z.words c.in-Ok.ensures.ok c.state_answer.result
    (subst (λ (lengths : List ℕ). SceneMay (scene_of z.shape z.names lengths z.code z.words) c.state_answer.result) z.whole.lengths_are
    c.state_answer.ensures)

-- or of none
pub returns-in-Err : goal.returns-in-Err
returns-in-Err c =
    subst (TextMay ShowHas c.args.text.now) (sym c.error_answer.ensures) (refused_may c.args.text.now c.in-Err.error c.in-Err.ensures.err)
