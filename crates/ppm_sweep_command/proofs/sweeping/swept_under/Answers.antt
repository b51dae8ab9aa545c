use Rattle.std.proofs.Common.{sym, ap, ◌∙◌, subst, arith}
use Rattle.ppm_core.specs.Machine.{seen}
use Rattle.ppm_sweep.specs.declared.options.Sweeping.{Sweeping}
use Rattle.ppm_loading.proofs.LoadingLemmas.{opens_lengths, opens_processors, opens_turns}
use Rattle.ppm_sweep_command.specs.Sweeps.{AllAgree}
use Rattle.ppm_sweep_command.proofs.ComeLemmas.{has_arrays, within_named}
use Rattle.ppm_sweep_command.proofs.SweepingLemmas.{stopped_lengths}
use Rattle.ppm_sweep_command.proofs.SweepLemmas.{all_of, stop_of}
use Rattle.ppm_sweep_command.proofs.sweeping.swept_under.Goals as goal

-- the keeper of the schedule is one of the machine's processors
pub opened-requires-clause-keeper : goal.opened-requires-clause-keeper
opened-requires-clause-keeper c = omega (arith, c.keeper-keeper.ensures.below, c.requires.processors)

-- the machine has as many processors as the schedule
pub sweep-requires-clause-processors : goal.sweep-requires-clause-processors
sweep-requires-clause-processors c = c.requires.processors ∙ sym (opens_processors _ _ _ _ _ c.in-Ok.ensures)

-- its runs are not too long
pub sweep-requires-clause-turns : goal.sweep-requires-clause-turns
sweep-requires-clause-turns c =
    let turns = ap (λ (s : Sweeping). s.turns) c.sweeping_by-sweeping.ensures in
    let most = c.requires.options.1.1 in
    omega (arith, turns, most)

-- it has made no turn, and has the arrays of the outcome
pub sweep-requires-clause-fresh : goal.sweep-requires-clause-fresh
sweep-requires-clause-fresh c = opens_turns _ _ _ _ _ c.in-Ok.ensures

pub sweep-requires-clause-arrays : goal.sweep-requires-clause-arrays
sweep-requires-clause-arrays c =
    has_arrays (seen c.in-Ok.machine) c.args.input.now c.args.run.now.outcome (opens_lengths _ _ _ _ _ c.in-Ok.ensures) c.arrays.ensures.limits
    (within_named c.args.code.now c.args.input.now c.args.options.capsules c.args.run.now c.requires.within)

-- all agree
pub returns-in-Ok-sweep : goal.returns-in-Ok-sweep
returns-in-Ok-sweep c =
    subst (AllAgree c.args.options c.args.schedule.now.items c.args.code.now c.args.input.now c.args.run.now.outcome c.args.takeover)
    (sym c.counts_of.ensures)
    (all_of c.args.options c.args.schedule.now.items c.args.code.now c.args.input.now c.args.run.now.outcome c.args.takeover c.parts.ensures.code
    (within_named c.args.code.now c.args.input.now c.args.options.capsules c.args.run.now c.requires.within) c.keeper-keeper.result
    (seen c.in-Ok.machine) c.keeper-keeper.ensures.keeper c.in-Ok.ensures c.sweeping_by-sweeping.result c.sweeping_by-sweeping.ensures
    c.sweeps_are_fair.ensures.law c.args.schedule.now.processors c.requires.processors _ c.items.ensures.items c.items.ensures.among
    c.in-Ok-sweep.tally c.in-Ok-sweep.ensures.all)

-- the machine after a replay has the arrays of the input
pub halted-requires : goal.halted-requires
halted-requires c = record {
  lengths = stopped_lengths (seen c.in-Ok.machine) c.sweeping_by-sweeping.result.turns c.args.run.now.outcome _ c.args.input.now c.in-Err.stop
      (opens_lengths _ _ _ _ _ c.in-Ok.ensures) c.in-Err.ensures.differs;
}

-- or it stops
pub returns : goal.returns
returns c =
    stop_of c.args.options c.args.schedule.now.items c.args.code.now c.args.input.now c.args.run.now.outcome c.args.takeover c.parts.ensures.code
    (within_named c.args.code.now c.args.input.now c.args.options.capsules c.args.run.now c.requires.within) c.keeper-keeper.result
    (seen c.in-Ok.machine) c.keeper-keeper.ensures.keeper c.in-Ok.ensures c.sweeping_by-sweeping.result c.sweeping_by-sweeping.ensures
    c.sweeps_are_fair.ensures.law c.args.schedule.now.processors c.requires.processors _ c.items.ensures.items c.items.ensures.among
    c.schedules_are_written.ensures.law c.texts_read_as_written.ensures.law c.keeper-keeper.ensures.below c.in-Err.stop c.halted.result
    c.in-Err.ensures.differs c.halted.ensures
