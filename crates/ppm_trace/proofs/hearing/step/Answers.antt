use Rattle.std.proofs.Common.{[], ◌∷◌, ◌∙◌, sym}
use Rattle.ppm_choice.proofs.IdleLemmas.{is_over, no_dues, none_left, not_open, one_more, is_shut}
use Rattle.ppm_choice.specs.Course.{InRound}
use Rattle.ppm_core.specs.Machine.{seen}
use Rattle.ppm_following.specs.Following.{course}
use Rattle.ppm_trace.proofs.HearingLemmas.{idles}
use Rattle.ppm_trace.proofs.OneLemmas.{in_round}
use Rattle.ppm_trace.specs.Hearing.{hearing}
use Rattle.ppm_trace.proofs.hearing.step.Goals as goal

-- no act is left
pub returns-then-way-eq0-clause-hears : goal.returns-then-way-eq0-clause-hears
returns-then-way-eq0-clause-hears g c =
    let m = seen c.args.machine.now in
    let w = course m c.args.way.now in
    let due = InRound c.args.processor in
    idles (g.L.Listener.heard c.args.listener.now) (g.met.L.Listener.rest c.args.listener.now) (due ∷ []) (hearing m c.args.way.now c.args.notes.now)
    (one_more m.shape m.code w due [] (none_left m.shape m.code w due c.if-way-eq0.true) (no_dues m.shape m.code w))

-- the finish word says how the run ended
pub returns-then-finish_word-ne0-clause-hears : goal.returns-then-finish_word-ne0-clause-hears
returns-then-finish_word-ne0-clause-hears g c =
    let m = seen c.args.machine.now in
    let w = course m c.args.way.now in
    let due = InRound c.args.processor in
    idles (g.L.Listener.heard c.args.listener.now) (g.met.L.Listener.rest c.args.listener.now) (due ∷ []) (hearing m c.args.way.now c.args.notes.now)
    (one_more m.shape m.code w due [] (not_open m.shape m.code w due (is_shut _ _ c.finish_word.ensures c.if-finish_word-ne0.true)) (no_dues m.shape m.code w))

-- its processor is done
pub returns-then-is_done-clause-hears : goal.returns-then-is_done-clause-hears
returns-then-is_done-clause-hears g c =
    let m = seen c.args.machine.now in
    let w = course m c.args.way.now in
    let due = InRound c.args.processor in
    idles (g.L.Listener.heard c.args.listener.now) (g.met.L.Listener.rest c.args.listener.now) (due ∷ []) (hearing m c.args.way.now c.args.notes.now)
    (one_more m.shape m.code w due [] (is_over m.shape m.code w due (sym c.is_done.ensures ∙ c.if-is_done.true)) (no_dues m.shape m.code w))

-- it is made and heard
pub returns-clause-hears : goal.returns-clause-hears
returns-clause-hears g c =
    in_round c.args.processor (seen c.args.machine.now) c.args.way.now (sym c.finish_word.ensures ∙ c.if-finish_word-ne0.false)
    (g.L.Listener.heard c.args.listener.now) c.args.notes.now
    (hearing (seen c.hear_and_make.new.machine) c.hear_and_make.new.way c.hear_and_make.new.notes) c.in_ok-hear_and_make.ensures.hears
