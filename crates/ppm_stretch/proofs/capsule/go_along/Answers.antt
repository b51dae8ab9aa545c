use Rattle.std.proofs.Common.{◌∙◌, ◌+◌, arith, refl, true}
use Rattle.ppm_stretch.proofs.SteadyLemmas.{moves_then, moves_same, refuses_then}
use Rattle.ppm_stretch.proofs.capsule.go_along.Goals as goal

pub loop-made-preserved : goal.loop-made-preserved
loop-made-preserved g c =
    let i = c.loop-made.invariant in
    let came = c.in-Made.ensures.came in (
      omega (arith, c.loop-made-test.true),
      c.in-Made.ensures.table ∙ i.1,
      moves_then g.W.Watch.told c.args.words.now.shared.key c.args.place.now.own c.args.mine.now.me c.loop-made.mine.me c.step_at.new.mine.me c.args.watch.now c.loop-made.watch c.step_at.new.watch
          c.loop-made.made 1 c.loop-made.made 1 0 0 (c.loop-made.made + 1) (c.loop-made.made + 1) 0 refl refl refl i.2 came.0,
      came.1,
    )

pub returns-in-Stops-clause-led : goal.returns-in-Stops-clause-led
returns-in-Stops-clause-led g c =
    let came = c.in-Stops.ensures.came in (
      moves_same g.W.Watch.told c.args.words.now.shared.key c.args.place.now.own c.args.mine.now.me c.loop-made.mine.me c.step_at.new.mine.me c.args.watch.now c.loop-made.watch c.step_at.new.watch
          c.loop-made.made c.loop-made.made 0 c.loop-made.invariant.2 came.0 came.1,
      came.2,
    )

pub returns-in-Breaks-clause-led : goal.returns-in-Breaks-clause-led
returns-in-Breaks-clause-led g c =
    let came = c.in-Breaks.ensures.came in (
      moves_same g.W.Watch.told c.args.words.now.shared.key c.args.place.now.own c.args.mine.now.me c.loop-made.mine.me c.step_at.new.mine.me c.args.watch.now c.loop-made.watch c.step_at.new.watch
          c.loop-made.made c.loop-made.made 0 c.loop-made.invariant.2 came.0 came.1,
      came.2,
    )

pub returns-in-Refused-clause-led : goal.returns-in-Refused-clause-led
returns-in-Refused-clause-led g c =
    refuses_then g.W.Watch.told c.args.words.now.shared.key c.args.place.now.own c.args.mine.now.me c.loop-made.mine.me c.step_at.new.mine.me c.args.watch.now c.loop-made.watch c.step_at.new.watch
    c.loop-made.made c.loop-made.made 0 true 1 c.args.most (omega (arith, c.loop-made-test.true)) c.loop-made.invariant.2 c.in-Refused.ensures.came
