use Rattle.std.proofs.Common.{◌≡◌, ◌-◌, ◌+◌, suc, [], ◌∷◌, map, ap, ◌∙◌, arith}
use Rattle.std.specs.List.{range_with_len}
use Rattle.ppm_choice.specs.Course.{InRound}
use Rattle.ppm_choice.specs.Schedules.{round}
use Rattle.ppm_core.specs.Machine.{seen}
use Rattle.ppm_trace.proofs.HearingLemmas.{goes_on, ends_by, shape_stays}
use Rattle.ppm_trace.specs.Hearing.{hearing}
use Rattle.ppm_trace.proofs.hearing.go_round.Goals as goal

-- one processor more
pub loop-processor-preserved : goal.loop-processor-preserved
loop-processor-preserved g c =
    let at = c.loop-processor.processor in
    let left = c.processors-processors.result in
    let more : left - at ≡ suc (left - (at + 1)) = omega (arith, c.loop-processor-test.true) in (
      goes_on (g.L.Listener.heard c.args.listener.now) (g.met.L.Listener.on c.args.listener.now) (round (seen c.args.machine.now).shape.processors) (map InRound (range_with_len at (left - at)))
          (InRound at ∷ []) (map InRound (range_with_len (at + 1) (left - (at + 1))))
          (hearing (seen c.args.machine.now) c.args.way.now c.args.notes.now)
          (hearing (seen c.loop-processor.machine) c.loop-processor.way c.loop-processor.notes)
          (hearing (seen c.step.new.machine) c.step.new.way c.step.new.notes)
          (ap (λ n. map InRound (range_with_len at n)) more) c.loop-processor.invariant.0 c.in_ok-step.ensures.hears,
      c.in_ok-step.ensures.is,
      shape_stays (g.L.Listener.heard c.args.listener.now) c.in_ok-step.ensures.hears ∙ c.loop-processor.invariant.2,
      c.loop-processor.invariant.3,
    )

-- all processors
pub returns-clause-hears : goal.returns-clause-hears
returns-clause-hears g c =
    let at = c.loop-processor.processor in
    let left = c.processors-processors.result in
    let none : left - at ≡ 0 = omega (arith, c.loop-processor-test.false) in
    ends_by (g.L.Listener.heard c.args.listener.now) (g.met.L.Listener.rest c.args.listener.now) (round (seen c.args.machine.now).shape.processors) (map InRound (range_with_len at (left - at)))
    (hearing (seen c.args.machine.now) c.args.way.now c.args.notes.now)
    (hearing (seen c.loop-processor.machine) c.loop-processor.way c.loop-processor.notes)
    (ap (λ n. map InRound (range_with_len at n)) none) c.loop-processor.invariant.0
