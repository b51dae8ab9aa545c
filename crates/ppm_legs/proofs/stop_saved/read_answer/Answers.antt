use Rattle.std.proofs.Common.{sym, ap, subst}
use Rattle.ppm_answers.specs.declared.answer.Answer.TheVariants as answers
use Rattle.ppm_outcomes.specs.Resumes.{state_of}
use Rattle.ppm_legs.specs.SavedStops.{StateReads}
use Rattle.ppm_legs.proofs.LegLemmas.{leg_has, leg_wants, no_leg}
use Rattle.ppm_legs.proofs.SavedStopLemmas.{kinds_read}
use Rattle.ppm_legs.proofs.stop_saved.read_answer.Goals as goal

-- the saved text after the leg
pub returns-in-Ok-stopped : goal.returns-in-Ok-stopped
returns-in-Ok-stopped g c =
    leg_has (StateReads c.args.options) c.args.schedule.now _ (state_of c.in-Ok.saved) c.in-Ok.schedule.items c.in-Ok.ensures.leg
    (kinds_read c.args.options) _
    (subst (StateReads c.args.options c.in-Ok.schedule.items (state_of c.in-Ok.saved)) (ap (λ x. answers.Saved x) (sym c.from_vec.ensures))
    c.in-Ok-stopped.ensures)

-- memory was wanting in it
pub returns-in-Ok : goal.returns-in-Ok
returns-in-Ok g c =
    leg_wants (StateReads c.args.options) c.args.schedule.now _ (state_of c.in-Ok.saved) c.in-Ok.schedule.items c.in-Ok.ensures.leg

-- nothing was run
pub returns : goal.returns
returns g c = no_leg (StateReads c.args.options) c.args.schedule.now _ c.in-Err.answer c.in-Err.ensures.none
