use Rattle.ppm_explained.proofs.TrapAnswers.{have_one_answer}
use Rattle.ppm_explained.proofs.laws.traps_have_one_answer.Goals as goal

-- from those of sources, of `serial` and of the points at which runs trap
pub returns : goal.returns
returns c = record {
  law = have_one_answer c.have_one_answer.ensures.law c.texts_have_one_answer.ensures.law c.outcomes_have_one_answer.ensures.law
      c.trap_points_are_one.ensures.law c.traps_have_points.ensures.law c.spend_their_turns.ensures.law c.stand_where_later.ensures.law;
}
