use Rattle.std.proofs.Common.{◌≡◌, ◌-◌, suc, [], ◌∷◌, replicate, ap, sym, ◌∙◌, arith}
use Rattle.ppm_step.specs.State.{stand_of}
use Rattle.ppm_core.specs.Acts.{is_done_at}
use Rattle.ppm_core.specs.Machine.{seen}
use Rattle.ppm_choice.specs.Course.{Listed}
use Rattle.ppm_following.specs.Following.{course}
use Rattle.ppm_following.proofs.AheadLemmas.{acts_ahead}
use Rattle.ppm_following.proofs.DoesLemmas.{goes_on_by, ends, ends_by, shape_stays}
use Rattle.ppm_choice.proofs.IdleLemmas.{all_same, none_left, is_over}
use Rattle.ppm_following.proofs.following.repeat.Goals as goal

-- all were made at once
pub returns-then-left-eq0-clause-does : goal.returns-then-left-eq0-clause-does
returns-then-left-eq0-clause-does c =
    let due = Listed c.args.act in
    let ahead = c.act_ahead-left in
    let left = c.loop-left.left - ahead.result in
    ends_by (replicate c.args.times due) (replicate left due) (ap (λ n. replicate n due) c.if-left-eq0.true)
    (acts_ahead due c.args.times ahead.result c.loop-left.left ahead.ensures.few c.loop-left.invariant.0 ahead.ensures.does)

-- no act is left: none of these is made
pub returns-then-way-eq0-clause-does : goal.returns-then-way-eq0-clause-does
returns-then-way-eq0-clause-does c =
    let ahead = c.act_ahead-left in
    let m = seen ahead.new.machine in
    let w = course m ahead.new.way in
    let due = Listed c.args.act in
    let left = c.loop-left.left - ahead.result in
    ends (replicate c.args.times due) (replicate left due)
    (acts_ahead due c.args.times ahead.result c.loop-left.left ahead.ensures.few c.loop-left.invariant.0 ahead.ensures.does)
    (all_same m.shape m.code w due left (none_left m.shape m.code w due c.if-way-eq0.true))

-- its processor is done
pub returns-then-is_done-clause-does : goal.returns-then-is_done-clause-does
returns-then-is_done-clause-does c =
    let ahead = c.act_ahead-left in
    let m = seen ahead.new.machine in
    let w = course m ahead.new.way in
    let due = Listed c.args.act in
    let left = c.loop-left.left - ahead.result in
    let same = ap (λ p. is_done_at (stand_of m.state p)) c.processor_of-processor.ensures in
    let over = sym same ∙ sym c.is_done.ensures ∙ c.if-is_done.true in
    ends (replicate c.args.times due) (replicate left due)
    (acts_ahead due c.args.times ahead.result c.loop-left.left ahead.ensures.few c.loop-left.invariant.0 ahead.ensures.does)
    (all_same m.shape m.code w due left (is_over m.shape m.code w due over))

-- some at once, and one more
pub loop-left-preserved : goal.loop-left-preserved
loop-left-preserved c =
    let due = Listed c.args.act in
    let ahead = c.act_ahead-left in
    let left = c.loop-left.left - ahead.result in
    let more : left ≡ suc (left - 1) = omega (arith, c.if-left-eq0.false) in (
      goes_on_by (replicate c.args.times due) (replicate left due) (due ∷ []) (replicate (left - 1) due) (ap (λ n. replicate n due) more)
          (acts_ahead due c.args.times ahead.result c.loop-left.left ahead.ensures.few c.loop-left.invariant.0 ahead.ensures.does)
          c.make.ensures.does,
      c.make.ensures.ready,
      shape_stays c.make.ensures.does ∙ shape_stays ahead.ensures.does ∙ c.loop-left.invariant.2,
    )

-- all of them
pub returns-clause-does : goal.returns-clause-does
returns-clause-does c =
    let due = Listed c.args.act in
    let none : c.loop-left.left ≡ 0 = omega (arith, c.loop-left-test.false) in
    ends_by (replicate c.args.times due) (replicate c.loop-left.left due) (ap (λ n. replicate n due) none) c.loop-left.invariant.0
