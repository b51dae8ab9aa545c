use Rattle.std.proofs.Common.{sym, ap, subst}
use Rattle.ppm_answers.specs.declared.answer.Answer.TheVariants as answers
use Rattle.ppm_outcomes.specs.Resumes.{state_of}
use Rattle.ppm_legs.specs.SavedTraces.{StateTraces}
use Rattle.ppm_legs.proofs.LegLemmas.{leg_has, leg_wants, no_leg}
use Rattle.ppm_legs.proofs.SavedTraceLemmas.{kinds}
use Rattle.ppm_legs.proofs.trace_saved.read_answer.Goals as goal

-- what is told of the leg
pub returns-in-Ok-traced : goal.returns-in-Ok-traced
returns-in-Ok-traced g c =
    leg_has (StateTraces c.args.options) c.args.schedule.now _ (state_of c.in-Ok.saved) c.in-Ok.schedule.items c.in-Ok.ensures.leg
    (kinds c.args.options) _
    (subst (StateTraces c.args.options c.in-Ok.schedule.items (state_of c.in-Ok.saved)) (ap (λ x. answers.Traced x) (sym c.from_vec.ensures))
    c.in-Ok-traced.ensures)

-- memory was wanting in it
pub returns-in-Ok : goal.returns-in-Ok
returns-in-Ok g c =
    leg_wants (StateTraces c.args.options) c.args.schedule.now _ (state_of c.in-Ok.saved) c.in-Ok.schedule.items c.in-Ok.ensures.leg

-- nothing was run
pub returns : goal.returns
returns g c = no_leg (StateTraces c.args.options) c.args.schedule.now _ c.in-Err.answer c.in-Err.ensures.none
