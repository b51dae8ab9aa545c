use Rattle.ppm_sweep_command.proofs.SweepingLemmas.{both_agree, by_entries, by_places, exit_finds}
use Rattle.ppm_sweep_command.proofs.sweeping.swept_both.Goals as goal

-- one differs by places
pub returns-in_err-places : goal.returns-in_err-places
returns-in_err-places c =
    exit_finds _ _ c.in_err-places.field-0.0 c.from_residual.result c.from_residual.ensures.1
    (by_places c.args.options c.args.schedule.now.items c.args.code.now c.args.input.now c.args.run.now.outcome c.in_err-places.field-0.0
    c.in_err-places.ensures)

-- none does, and one differs by entries
pub returns-in_err-entries : goal.returns-in_err-entries
returns-in_err-entries c =
    exit_finds _ _ c.in_err-entries.field-0.0 c.from_residual-in_err-entries.result c.from_residual-in_err-entries.ensures.1
    (by_entries c.args.options c.args.schedule.now.items c.args.code.now c.args.input.now c.args.run.now.outcome c.in_ok-places.places
    c.in_ok-places.ensures c.in_err-entries.field-0.0 c.in_err-entries.ensures)

-- all agree
pub returns : goal.returns
returns c =
    both_agree c.args.options c.args.schedule.now.items c.args.code.now c.args.input.now c.args.run.now.outcome c.in_ok-places.places
    c.in_ok-entries.entries c.in_ok-places.ensures c.in_ok-entries.ensures c.together.result c.together.ensures
