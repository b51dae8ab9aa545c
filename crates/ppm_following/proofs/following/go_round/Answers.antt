use Rattle.std.proofs.Common.{◌≡◌, ◌-◌, ◌+◌, suc, [], ◌∷◌, map, ap, ◌∙◌, arith}
use Rattle.std.specs.List.{range_with_len}
use Rattle.ppm_core.specs.Machine.{seen}
use Rattle.ppm_choice.specs.Course.{InRound}
use Rattle.ppm_choice.specs.Schedules.{round}
use Rattle.ppm_following.proofs.DoesLemmas.{goes_on_by, ends_by, shape_stays}
use Rattle.ppm_following.proofs.following.go_round.Goals as goal

-- one processor more
pub loop-processor-preserved : goal.loop-processor-preserved
loop-processor-preserved c =
    let all = round (seen c.args.machine.now).shape.processors in
    let at = c.loop-processor.processor in
    let left = c.processors-processors.result in
    let more : left - at ≡ suc (left - (at + 1)) = omega (arith, c.loop-processor-test.true) in (
      goes_on_by all (map InRound (range_with_len at (left - at))) (InRound at ∷ []) (map InRound (range_with_len (at + 1) (left - (at + 1))))
          (ap (λ n. map InRound (range_with_len at n)) more) c.loop-processor.invariant.0 c.step.ensures.does,
      c.step.ensures.ready,
      shape_stays c.step.ensures.does ∙ c.loop-processor.invariant.2,
      c.loop-processor.invariant.3,
    )

-- all processors
pub returns-clause-does : goal.returns-clause-does
returns-clause-does c =
    let all = round (seen c.args.machine.now).shape.processors in
    let at = c.loop-processor.processor in
    let left = c.processors-processors.result in
    let none : left - at ≡ 0 = omega (arith, c.loop-processor-test.false) in
    ends_by all (map InRound (range_with_len at (left - at))) (ap (λ n. map InRound (range_with_len at n)) none) c.loop-processor.invariant.0
