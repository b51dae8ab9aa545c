use Rattle.std.proofs.Common.{◌≡◌, ◌-◌, suc, subst, ap, ◌∙◌, arith}
use Rattle.ppm_core.specs.Machine.{seen}
use Rattle.ppm_choice.specs.Course.{InRound}
use Rattle.ppm_choice.specs.Schedules.{round, rounds}
use Rattle.ppm_following.specs.Following.{course, Does}
use Rattle.ppm_following.proofs.AheadLemmas.{rounds_lead}
use Rattle.ppm_following.proofs.DoesLemmas.{goes_on_by, ends, ends_by, shape_stays}
use Rattle.ppm_choice.proofs.IdleLemmas.{all_rounds, none_left, not_open, is_shut}
use Rattle.ppm_following.proofs.following.go_on.Goals as goal

-- all were made at once
pub returns-then-left-eq0-clause-does : goal.returns-then-left-eq0-clause-does
returns-then-left-eq0-clause-does c =
    let p = (seen c.args.machine.now).shape.processors in
    let ahead = c.go_ahead-left in
    let left = c.loop-left.left - ahead.result in
    ends_by (rounds p c.args.count) (rounds p left) (ap (rounds p) c.if-left-eq0.true)
    (rounds_lead c.args.count ahead.result c.loop-left.left ahead.ensures.few c.loop-left.invariant.2 c.loop-left.invariant.0
    ahead.ensures.does)

-- no act is left
pub returns-then-way-eq0-clause-does : goal.returns-then-way-eq0-clause-does
returns-then-way-eq0-clause-does c =
    let ahead = c.go_ahead-left in
    let m = seen ahead.new.machine in
    let w = course m ahead.new.way in
    let p = (seen c.args.machine.now).shape.processors in
    let left = c.loop-left.left - ahead.result in
    ends (rounds p c.args.count) (rounds p left)
    (rounds_lead c.args.count ahead.result c.loop-left.left ahead.ensures.few c.loop-left.invariant.2 c.loop-left.invariant.0
    ahead.ensures.does)
    (all_rounds m.shape m.code w (λ k. none_left m.shape m.code w (InRound k) c.if-way-eq0.true) p left)

-- the finish word says how the run ended
pub returns-then-finish_word-ne0-clause-does : goal.returns-then-finish_word-ne0-clause-does
returns-then-finish_word-ne0-clause-does c =
    let ahead = c.go_ahead-left in
    let m = seen ahead.new.machine in
    let w = course m ahead.new.way in
    let p = (seen c.args.machine.now).shape.processors in
    let left = c.loop-left.left - ahead.result in
    ends (rounds p c.args.count) (rounds p left)
    (rounds_lead c.args.count ahead.result c.loop-left.left ahead.ensures.few c.loop-left.invariant.2 c.loop-left.invariant.0
    ahead.ensures.does)
    (all_rounds m.shape m.code w
    (λ k. not_open m.shape m.code w (InRound k) (is_shut _ _ c.finish_word.ensures c.if-finish_word-ne0.true)) p left)

-- some at once, and one round more
pub loop-left-preserved : goal.loop-left-preserved
loop-left-preserved c =
    let ahead = c.go_ahead-left in
    let p = (seen c.args.machine.now).shape.processors in
    let left = c.loop-left.left - ahead.result in
    let more : left ≡ suc (left - 1) = omega (arith, c.if-left-eq0.false) in
    let same = shape_stays ahead.ensures.does ∙ c.loop-left.invariant.2 in
    let does = subst (λ s. Does (round s.processors) (seen ahead.new.machine) ahead.new.way (seen c.go_round.new.machine) c.go_round.new.way)
    same c.go_round.ensures.does in (
      goes_on_by (rounds p c.args.count) (rounds p left) (round p) (rounds p (left - 1)) (ap (rounds p) more)
          (rounds_lead c.args.count ahead.result c.loop-left.left ahead.ensures.few c.loop-left.invariant.2 c.loop-left.invariant.0
          ahead.ensures.does)
          does,
      c.go_round.ensures.ready,
      shape_stays c.go_round.ensures.does ∙ same,
    )

-- all rounds
pub returns-clause-does : goal.returns-clause-does
returns-clause-does c =
    let p = (seen c.args.machine.now).shape.processors in
    let none : c.loop-left.left ≡ 0 = omega (arith, c.loop-left-test.false) in
    ends_by (rounds p c.args.count) (rounds p c.loop-left.left) (ap (rounds p) none) c.loop-left.invariant.0
