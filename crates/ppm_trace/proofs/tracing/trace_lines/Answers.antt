use Rattle.std.proofs.Common.{◌∙◌, ◌+◌, ◌*◌, ◌≤◌, ◌++◌, ap, arith, subst, sym}
use Rattle.ppm_choice.specs.Schedules.{schedule_turns}
use Rattle.ppm_core.specs.Machine.{seen}
use Rattle.ppm_trace.proofs.TellingLemmas.{trace_is}
use Rattle.ppm_trace.specs.Counts.{total}
use Rattle.ppm_trace.specs.Trace.{head_text, tail_text}
use Rattle.ppm_trace.proofs.tracing.trace_lines.Goals as goal

-- nothing is counted yet
pub follow_heard-requires-clause-listens : goal.follow_heard-requires-clause-listens
follow_heard-requires-clause-listens c =
    subst (λ counts. total counts ≤ 3 * (seen c.args.machine.now).turns) (sym c.none.ensures) (omega arith)

-- a head, the run, and a tail
pub returns-clause-text : goal.returns-clause-text
returns-clause-text c =
    let m = seen c.args.machine.now in
    let tale = c.follow_heard.new.notes in
    trace_is c.args.names.now c.args.only c.args.from m (seen c.follow_heard.new.machine)
    (record { text = c.push_head.new.text; strokes = c.new-2.result; counts = c.none.result }) tale
    (schedule_turns m.shape m.code m.state c.args.schedule.now.items (c.args.from + c.args.acts)) c.push_tail.new.text.items
    (c.in_ok-push_head.ensures
    ∙ ap (λ front. front ++ head_text c.shape.result c.args.from) c.new.ensures.items
    ∙ ap (λ s. head_text s c.args.from) c.shape.ensures)
    c.none.ensures c.in_ok-follow_heard.ensures.made c.in_ok-follow_heard.ensures.heard
    (c.in_ok-push_tail.ensures ∙ ap (λ word. tale.text.items ++ tail_text tale.counts word) c.finish_word.ensures)
