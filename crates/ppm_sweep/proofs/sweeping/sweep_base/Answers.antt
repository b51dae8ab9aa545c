use Rattle.std.proofs.Common.{ap, subst, [], ◌∷◌}
use Rattle.ppm_core.specs.Machine.{seen}
use Rattle.ppm_sweep.specs.Found.{Finds}
use Rattle.ppm_sweep.proofs.BeginLemmas.{base_is, begins_well, came_first}
use Rattle.ppm_sweep.proofs.sweeping.sweep_base.Goals as goal

-- the run begins before the first act
pub alone-requires : goal.alone-requires
alone-requires c =
    let s = c.in_ok-spot.ensures in
    record {
      spot =
          begins_well c.args.sweeping c.in_ok-spot.spot c.args.machine.now c.args.schedule.now.items s.machine s.begins c.args.wanted.now
          c.requires.start.fresh c.requires.start.turns s.processors c.requires.start.arrays;
    }

-- and it is that of the base schedule
pub returns : goal.returns
returns c =
    let s = c.in_ok-spot.ensures in
    let m = seen c.args.machine.now in
    subst (λ l. Finds m c.args.sweeping.turns c.args.wanted.now l c.args.tally.now c.alone.new.tally c.alone.result)
    (ap (λ v. v ∷ []) (base_is c.args.sweeping c.in_ok-spot.spot c.args.machine.now c.args.schedule.now.items s.machine s.begins))
    (c.alone.ensures m c.requires.start.fresh (came_first c.args.sweeping c.in_ok-spot.spot c.args.machine.now c.args.schedule.now.items s.machine s.begins))
