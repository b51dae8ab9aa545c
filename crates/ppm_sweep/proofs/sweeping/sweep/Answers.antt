use Rattle.std.proofs.Common.{◌∙◌, subst, [], ◌∷◌, flat_map}
use Rattle.ppm_core.specs.Machine.{seen}
use Rattle.ppm_sweep.specs.declared.found.Stop.TheVariants.{NoMemory}
use Rattle.ppm_sweep.specs.declared.found.Tally.{Tally}
use Rattle.ppm_sweep.specs.Found.{swept_by, AllCome, Stops}
use Rattle.ppm_sweep.specs.Visits.{base_of, swept_in}
use Rattle.ppm_sweep.specs.Windows.{windows_for}
use Rattle.ppm_sweep.proofs.BeginLemmas.{exit_all, exit_stops}
use Rattle.ppm_sweep.proofs.FoundLemmas.{all_both, stops_after, stops_in}
use Rattle.ppm_sweep.proofs.sweeping.sweep.Goals as goal

-- the base run differs
pub returns-in_err-sweep_base-clause-all : goal.returns-in_err-sweep_base-clause-all
returns-in_err-sweep_base-clause-all c = exit_all _ _ c.from_residual.result c.from_residual.ensures.1

pub returns-in_err-sweep_base-clause-differs : goal.returns-in_err-sweep_base-clause-differs
returns-in_err-sweep_base-clause-differs c =
    let m = seen c.args.machine.now in
    let o = c.args.sweeping in
    let items = c.args.schedule.now.items in
    let stop = c.in_err-sweep_base.field-0.0 in
    exit_stops m o.turns c.args.wanted.now (swept_by m items o) stop c.from_residual.result c.from_residual.ensures.1
    (stops_in m o.turns c.args.wanted.now (base_of m items o ∷ []) (flat_map (swept_in m items o) (windows_for m items o)) stop
    c.in_err-sweep_base.ensures)

-- memory was wanting for the windows
pub returns-in_err-windows-clause-all : goal.returns-in_err-windows-clause-all
returns-in_err-windows-clause-all c = exit_all _ _ c.from_residual-in_err-windows.result c.from_residual-in_err-windows.ensures.1

pub returns-in_err-windows-clause-differs : goal.returns-in_err-windows-clause-differs
returns-in_err-windows-clause-differs c =
    exit_stops (seen c.args.machine.now) c.args.sweeping.turns c.args.wanted.now (swept_by (seen c.args.machine.now) c.args.schedule.now.items c.args.sweeping)
    NoMemory c.from_residual-in_err-windows.result c.from_residual-in_err-windows.ensures.1 tt

-- a run with faults differs
pub returns-in_err-sweep_windows-clause-all : goal.returns-in_err-sweep_windows-clause-all
returns-in_err-sweep_windows-clause-all c = exit_all _ _ c.from_residual-in_err-sweep_windows.result c.from_residual-in_err-sweep_windows.ensures.1

pub returns-in_err-sweep_windows-clause-differs : goal.returns-in_err-sweep_windows-clause-differs
returns-in_err-sweep_windows-clause-differs c =
    let m = seen c.args.machine.now in
    let o = c.args.sweeping in
    let items = c.args.schedule.now.items in
    let stop = c.in_err-sweep_windows.field-0.0 in
    let windows = c.as_slice.ensures.value ∙ c.in_ok-windows.ensures in
    exit_stops m o.turns c.args.wanted.now (swept_by m items o) stop c.from_residual-in_err-sweep_windows.result
    c.from_residual-in_err-sweep_windows.ensures.1
    (stops_after m o.turns c.args.wanted.now (base_of m items o ∷ []) (flat_map (swept_in m items o) (windows_for m items o)) c.zero-tally.result
    c.sweep_base.new.tally stop c.in_ok-sweep_base.ensures
    (subst (λ l. Stops m o.turns c.args.wanted.now (flat_map (swept_in m items o) l) stop) windows c.in_err-sweep_windows.ensures))

-- all come to the outcome
pub returns-clause-all : goal.returns-clause-all
returns-clause-all c =
    let m = seen c.args.machine.now in
    let o = c.args.sweeping in
    let items = c.args.schedule.now.items in
    let windows = c.as_slice.ensures.value ∙ c.in_ok-windows.ensures in
    subst (λ (t : Tally). AllCome m o.turns c.args.wanted.now (swept_by m items o) t c.sweep_windows.new.tally) c.zero-tally.ensures
    (all_both m o.turns c.args.wanted.now (base_of m items o ∷ []) (flat_map (swept_in m items o) (windows_for m items o)) c.zero-tally.result
    c.sweep_base.new.tally c.sweep_windows.new.tally c.in_ok-sweep_base.ensures
    (subst (λ l. AllCome m o.turns c.args.wanted.now (flat_map (swept_in m items o) l) c.sweep_base.new.tally c.sweep_windows.new.tally) windows
    c.in_ok-sweep_windows.ensures))
