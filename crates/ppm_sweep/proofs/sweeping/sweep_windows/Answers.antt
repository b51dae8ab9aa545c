use Rattle.std.proofs.Common.{sym, subst, Ok, Err}
use Rattle.ppm_core.specs.Machine.{seen}
use Rattle.ppm_sweep.specs.declared.options.Sweeping.{Sweeping}
use Rattle.ppm_sweep.specs.Visits.{IsStart}
use Rattle.ppm_sweep.proofs.BeginLemmas.{no_window, one_window, over_is, swept_all, window_stops}
use Rattle.ppm_sweep.proofs.WalkLemmas.{exit_finds}
use Rattle.ppm_sweep.proofs.sweeping.sweep_windows.Goals as goal

-- nothing was gone through yet
pub loop-left-init : goal.loop-left-init
loop-left-init c = λ v found h. h

-- the sweep over the next window
pub sweep_window-requires : goal.sweep_window-requires
sweep_window-requires c =
    let r = c.requires.start in
    record {
      start =
          subst (λ (o : Sweeping). IsStart c.args.schedule.now c.args.machine.now o c.args.wanted.now) (sym c.over-over.ensures)
          (record { processors = r.processors; turns = r.turns; fresh = r.fresh; arrays = r.arrays });
    }

-- one window more
pub loop-left-preserved : goal.loop-left-preserved
loop-left-preserved c =
    let m = seen c.args.machine.now in
    let o = c.args.sweeping in
    let items = c.args.schedule.now.items in
    one_window m o c.args.wanted.now items c.args.windows.now c.loop-left.left.now _ c.args.tally.now c.loop-left.tally c.sweep_window.new.tally
    c.in-len1-up.len_at_least c.loop-left.invariant
    (over_is m o c.args.wanted.now items c.over-over.result _ c.loop-left.tally c.sweep_window.new.tally (Ok tt) c.over-over.ensures
    c.in_ok-sweep_window.ensures)

-- a run differs, or memory was wanting
pub returns-in_err-sweep_window : goal.returns-in_err-sweep_window
returns-in_err-sweep_window c =
    let m = seen c.args.machine.now in
    let o = c.args.sweeping in
    let items = c.args.schedule.now.items in
    let stop = c.in_err-sweep_window.field-0.0 in
    exit_finds m o.turns c.args.wanted.now (swept_all m o c.args.wanted.now items c.args.windows.now) c.args.tally.now c.sweep_window.new.tally stop
    c.from_residual.result c.from_residual.ensures.1
    (window_stops m o c.args.wanted.now items c.args.windows.now c.loop-left.left.now _ c.args.tally.now c.loop-left.tally c.sweep_window.new.tally stop
    c.in-len1-up.len_at_least c.loop-left.invariant
    (over_is m o c.args.wanted.now items c.over-over.result _ c.loop-left.tally c.sweep_window.new.tally (Err stop) c.over-over.ensures
    c.in_err-sweep_window.ensures))

-- no window is left
pub returns : goal.returns
returns c = no_window (seen c.args.machine.now) c.args.sweeping c.args.wanted.now c.args.schedule.now.items c.args.windows.now c.loop-left.left.now
    c.args.tally.now c.loop-left.tally c.in_default.len_below c.loop-left.invariant
