use Rattle.std.proofs.Common.{◌∙◌, ◌+◌, ◌*◌, ◌≤◌, ◌++◌, ap, arith, subst, sym}
use Rattle.ppm_choice.specs.Schedules.{schedule_turns}
use Rattle.ppm_core.specs.Machine.{seen}
use Rattle.ppm_lines.specs.Events.{json_head}
use Rattle.ppm_trace.proofs.TellingLemmas.{events_are}
use Rattle.ppm_trace.specs.Counts.{total}
use Rattle.ppm_trace.proofs.tracing.trace_json.Goals as goal

-- nothing is counted yet
pub follow_heard-requires-clause-listens : goal.follow_heard-requires-clause-listens
follow_heard-requires-clause-listens c =
    subst (λ counts. total counts ≤ 3 * (seen c.args.machine.now).turns) (sym c.none.ensures) (omega arith)

-- a head, the run, and a tail
pub returns-clause-text : goal.returns-clause-text
returns-clause-text c =
    let m = seen c.args.machine.now in
    events_are c.args.names.now c.args.from m
    (record { text = c.push_json_head.new.text; strokes = c.new-2.result; counts = c.none.result }) c.follow_heard.new.notes
    (schedule_turns m.shape m.code m.state c.args.schedule.now.items (c.args.from + c.args.acts)) c.push_json_tail.new.text.items
    (c.in_ok-push_json_head.ensures
    ∙ ap (λ front. front ++ json_head c.processors.result) c.new.ensures.items
    ∙ ap json_head c.processors.ensures.value)
    c.in_ok-follow_heard.ensures.heard c.in_ok-push_json_tail.ensures
