use Rattle.std.proofs.Common.{◌∙◌, ap, subst, sym}
use Rattle.ppm_core.specs.Machine.{seen}
use Rattle.ppm_choice.specs.Schedules.{dues_of}
use Rattle.ppm_sweep.specs.Found.{Finds}
use Rattle.ppm_sweep.proofs.BeginLemmas.{begins_well, came_first, window_is}
use Rattle.ppm_sweep.proofs.sweeping.sweep_window.Goals as goal

-- the sweep begins before the first act
pub further-requires-clause-spot : goal.further-requires-clause-spot
further-requires-clause-spot c =
    let s = c.in_ok-spot.ensures in
    begins_well c.args.sweeping c.in_ok-spot.spot c.args.machine.now c.args.schedule.now.items s.machine s.begins c.args.wanted.now c.requires.start.fresh
    c.requires.start.turns s.processors c.requires.start.arrays

pub further-requires-clause-dues : goal.further-requires-clause-dues
further-requires-clause-dues c =
    let s = c.in_ok-spot.ensures in
    s.dues ∙ ap (λ n. dues_of (seen n).shape.processors c.in_ok-spot.spot.ahead.rest c.args.sweeping.turns) (sym s.machine)

-- what goes on from there is of the sweep
pub returns : goal.returns
returns c =
    let s = c.in_ok-spot.ensures in
    let m = seen c.args.machine.now in
    subst (λ l. Finds m c.args.sweeping.turns c.args.wanted.now l c.args.tally.now c.further.new.tally c.further.result)
    (window_is c.args.sweeping c.in_ok-spot.spot c.args.machine.now c.args.schedule.now.items s.machine s.begins)
    (c.further.ensures m c.requires.start.fresh (came_first c.args.sweeping c.in_ok-spot.spot c.args.machine.now c.args.schedule.now.items s.machine s.begins))
