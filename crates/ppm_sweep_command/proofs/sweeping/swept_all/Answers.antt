use Rattle.std.proofs.Common.{sym, subst}
use Rattle.ppm_cli.specs.declared.takeover.SweptTakeovers.{SweptTakeovers}
use Rattle.ppm_sweep_command.specs.Halts.{Finds}
use Rattle.ppm_sweep_command.specs.Sweeps.{AllOf, FirstOf}
use Rattle.ppm_sweep_command.proofs.sweeping.swept_all.Goals as goal

-- under one takeover
pub returns-in-ByPlaces : goal.returns-in-ByPlaces
returns-in-ByPlaces c =
    subst (λ (t : SweptTakeovers). Finds (AllOf c.args.options c.args.schedule.now.items c.args.code.now c.args.input.now c.args.run.now.outcome t)
    (FirstOf c.args.options c.args.schedule.now.items c.args.code.now c.args.input.now c.args.run.now.outcome t) c.swept_under.result)
    (sym c.in-ByPlaces.is) c.swept_under.ensures

pub returns-in-ByEntries : goal.returns-in-ByEntries
returns-in-ByEntries c =
    subst (λ (t : SweptTakeovers). Finds (AllOf c.args.options c.args.schedule.now.items c.args.code.now c.args.input.now c.args.run.now.outcome t)
    (FirstOf c.args.options c.args.schedule.now.items c.args.code.now c.args.input.now c.args.run.now.outcome t) c.swept_under-in-ByEntries.result)
    (sym c.in-ByEntries.is) c.swept_under-in-ByEntries.ensures

-- or under both
pub returns-in-Both : goal.returns-in-Both
returns-in-Both c =
    subst (λ (t : SweptTakeovers). Finds (AllOf c.args.options c.args.schedule.now.items c.args.code.now c.args.input.now c.args.run.now.outcome t)
    (FirstOf c.args.options c.args.schedule.now.items c.args.code.now c.args.input.now c.args.run.now.outcome t) c.swept_both.result)
    (sym c.in-Both.is) c.swept_both.ensures
