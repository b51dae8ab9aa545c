use Rattle.std.proofs.Common.{◌*◌, ◌≤◌, arith, subst, sym}
use Rattle.ppm_choice.specs.Schedules.{schedule_turns}
use Rattle.ppm_core.specs.Machine.{seen}
use Rattle.ppm_trace.proofs.TellingLemmas.{counts_are}
use Rattle.ppm_trace.specs.Counts.{total}
use Rattle.ppm_trace.proofs.counting.count_run.Goals as goal

-- nothing is counted yet
pub follow_heard-requires-clause-listens : goal.follow_heard-requires-clause-listens
follow_heard-requires-clause-listens c =
    subst (λ counts. total counts ≤ 3 * (seen c.args.machine.now).turns) (sym c.none.ensures) (omega arith)

-- what was counted along the run
pub returns-clause-counts : goal.returns-clause-counts
returns-clause-counts c =
    let m = seen c.args.machine.now in
    counts_are _ m (record { text = c.new-3.result; strokes = c.new-4.result; counts = c.none.result }) c.follow_heard.new.notes
    (schedule_turns m.shape m.code m.state c.args.schedule.now.items c.args.turns) c.none.ensures c.in_ok-follow_heard.ensures.heard
