use Rattle.std.proofs.Common.{rules}
use Rattle.ppm_outcomes.specs.Resumes.{state_of}
use Rattle.ppm_legs.proofs.LegLemmas.{no_state, of_state}
use Rattle.ppm_legs.proofs.saved_reading.read_leg.Goals as goal

-- what was read is that of no state
pub returns-in_err-saved-clause-none : goal.returns-in_err-saved-clause-none
returns-in_err-saved-clause-none g c =
    let may = no_state c.args.schedule.now _ c.in_err-saved.field-0.0 c.in_err-saved.ensures.none in search rules

-- or of one that has no run by the schedule
pub returns-in_err-schedule-clause-none : goal.returns-in_err-schedule-clause-none
returns-in_err-schedule-clause-none g c =
    let may = of_state c.args.schedule.now _ (state_of c.in_ok-saved.saved) c.in_ok-saved.ensures.state c.in_err-schedule.field-0.0
    c.in_err-schedule.ensures.none in
    search rules

-- or it has one
pub returns-clause-leg : goal.returns-clause-leg
returns-clause-leg g c = record {
  state = c.in_ok-saved.ensures.state;
  accepted = c.in_ok-schedule.ensures.accepted;
  stands = c.in_ok-schedule.ensures.stands;
}
