use Rattle.std.proofs.Common.{arith}
use Rattle.ppm_core.proofs.CapsuleLemmas.{led_on}
use Rattle.ppm_core.proofs.capsule.go_along.Goals as goal

-- a step more
pub loop-made-preserved : goal.loop-made-preserved
loop-made-preserved c =
    let i = c.loop-made.invariant in (
      omega (arith, c.loop-made-test.true),
      led_on c.args.shape.now c.args.code.now c.args.seat.now c.args.home.now c.args.instrs.now c.args.from c.loop-made.at c.loop-made.made 1
          c.args.registers.now c.loop-made.registers c.step_at.new.registers c.args.words.now.items c.loop-made.words.items c.step_at.new.words.items _ i.1 c.in-Made.ensures.led,
      c.in-Made.ensures.count,
    )
