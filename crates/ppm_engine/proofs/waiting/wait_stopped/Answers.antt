use Rattle.std.proofs.Common.{ℕ, ◌<◌, ◌∙◌, ap, sym, subst}
use Rattle.ppm_step.specs.declared.running.Running.{Running}
use Rattle.ppm_step.specs.declared.running.Stage.{Stage}
use Rattle.ppm_engine.proofs.WaitingLemmas.{stage_fits, under_way}
use Rattle.ppm_engine.proofs.waiting.wait_stopped.Goals as goal

pub what_is_there-there-requires-clause-stage : goal.what_is_there-there-requires-clause-stage
what_is_there-there-requires-clause-stage c =
    let r = c.requires.is in
    stage_fits c.args.shape.now c.args.code.now c.parts.ensures.code c.args.number c.args.next c.args.what c.args.local.now.registers r.0 r.1 r.2

pub returns-then-there-clause-holds : goal.returns-then-there-clause-holds
returns-then-there-clause-holds c =
    let r = c.requires.is in
    let is = c.running_at-running.ensures.is
    ∙ ap (λ (stage : Stage). record { seat = c.args.seat; home = c.args.home; capsule = c.args.number; next = c.args.next; stage = stage }) c.stage_of.ensures in
    record {
      own = subst (λ (n : ℕ). n < c.args.shape.now.processors) c.requires.own c.requires.seat.own;
      stand = (
        under_way c.args.shape.now c.args.code.now c.running_at-running.result c.args.seat c.args.home c.args.number c.args.next c.args.what c.args.local.now.registers is c.requires.seat c.requires.home
            c.running_at-running.ensures.within (stage_fits c.args.shape.now c.args.code.now c.parts.ensures.code c.args.number c.args.next c.args.what c.args.local.now.registers r.0 r.1 r.2)
            (sym c.what_is_there-there.ensures ∙ c.if-there.true),
        ap (λ (x : Running). x.seat.own) is ∙ c.requires.own,
      );
    }
