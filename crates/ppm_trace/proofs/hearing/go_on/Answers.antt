use Rattle.std.proofs.Common.{◌≡◌, ◌-◌, suc, subst, ap, ◌∙◌, arith}
use Rattle.ppm_choice.proofs.IdleLemmas.{all_rounds, none_left, not_open, is_shut}
use Rattle.ppm_choice.specs.Course.{InRound}
use Rattle.ppm_choice.specs.Schedules.{round, rounds}
use Rattle.ppm_core.specs.Machine.{seen}
use Rattle.ppm_following.specs.Following.{course}
use Rattle.ppm_trace.proofs.HearingLemmas.{goes_on, ends, ends_by, shape_stays}
use Rattle.ppm_trace.specs.Hearing.{hearing, Hears}
use Rattle.ppm_trace.proofs.hearing.go_on.Goals as goal

-- no act is left
pub returns-then-way-eq0 : goal.returns-then-way-eq0
returns-then-way-eq0 g c =
    let m = seen c.loop-left.machine in
    let w = course m c.loop-left.way in
    let p = (seen c.args.machine.now).shape.processors in
    record {
      hears = ends (g.L.Listener.heard c.args.listener.now) (g.met.L.Listener.rest c.args.listener.now) (rounds p c.args.count) (rounds p c.loop-left.left)
          (hearing (seen c.args.machine.now) c.args.way.now c.args.notes.now) (hearing m c.loop-left.way c.loop-left.notes)
          c.loop-left.invariant.0
          (all_rounds m.shape m.code w (λ k. none_left m.shape m.code w (InRound k) c.if-way-eq0.true) p c.loop-left.left);
    }

-- the finish word says how the run ended
pub returns-then-finish_word-ne0 : goal.returns-then-finish_word-ne0
returns-then-finish_word-ne0 g c =
    let m = seen c.loop-left.machine in
    let w = course m c.loop-left.way in
    let p = (seen c.args.machine.now).shape.processors in
    record {
      hears = ends (g.L.Listener.heard c.args.listener.now) (g.met.L.Listener.rest c.args.listener.now) (rounds p c.args.count) (rounds p c.loop-left.left)
          (hearing (seen c.args.machine.now) c.args.way.now c.args.notes.now) (hearing m c.loop-left.way c.loop-left.notes)
          c.loop-left.invariant.0
          (all_rounds m.shape m.code w
          (λ k. not_open m.shape m.code w (InRound k) (is_shut _ _ c.finish_word.ensures c.if-finish_word-ne0.true)) p c.loop-left.left);
    }

-- one round more
pub loop-left-preserved : goal.loop-left-preserved
loop-left-preserved g c =
    let p = (seen c.args.machine.now).shape.processors in
    let left = c.loop-left.left in
    let more : left ≡ suc (left - 1) = omega (arith, c.loop-left-test.true) in
    let now = hearing (seen c.loop-left.machine) c.loop-left.way c.loop-left.notes in
    let new = hearing (seen c.go_round.new.machine) c.go_round.new.way c.go_round.new.notes in
    let told = subst (λ s. Hears (g.L.Listener.heard c.args.listener.now) (round s.processors) now new) c.loop-left.invariant.2
    c.in_ok-go_round.ensures.hears in (
      goes_on (g.L.Listener.heard c.args.listener.now) (g.met.L.Listener.on c.args.listener.now) (rounds p c.args.count) (rounds p left) (round p) (rounds p (left - 1))
          (hearing (seen c.args.machine.now) c.args.way.now c.args.notes.now) now new (ap (rounds p) more) c.loop-left.invariant.0 told,
      c.in_ok-go_round.ensures.is,
      shape_stays (g.L.Listener.heard c.args.listener.now) c.in_ok-go_round.ensures.hears ∙ c.loop-left.invariant.2,
    )

-- all rounds
pub returns : goal.returns
returns g c =
    let p = (seen c.args.machine.now).shape.processors in
    let none : c.loop-left.left ≡ 0 = omega (arith, c.loop-left-test.false) in
    record {
      hears = ends_by (g.L.Listener.heard c.args.listener.now) (g.met.L.Listener.rest c.args.listener.now) (rounds p c.args.count) (rounds p c.loop-left.left)
          (hearing (seen c.args.machine.now) c.args.way.now c.args.notes.now) (hearing (seen c.loop-left.machine) c.loop-left.way c.loop-left.notes)
          (ap (rounds p) none) c.loop-left.invariant.0;
    }
