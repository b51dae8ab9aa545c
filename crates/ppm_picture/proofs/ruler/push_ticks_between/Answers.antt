use Rattle.std.proofs.Common.{◌≡◌, ◌+◌, ◌-◌, ◌/◌, ◌<◌, arith}
use Rattle.ppm_picture.proofs.RulerLemmas.{tick_within}
use Rattle.ppm_picture.proofs.TextLemmas.{number_more, number_last}
use Rattle.ppm_picture.specs.Ruler.{tick_text}
use Rattle.ppm_picture.proofs.ruler.push_ticks_between.Goals as goal

-- it lies among the acts
pub push_tick-requires-clause-within : goal.push_tick-requires-clause-within
push_tick-requires-clause-within c =
    let acts = c.args.canvas.from + c.args.canvas.acts in
    let below : c.loop-number.number < acts / c.args.distance + 1 = omega (arith, c.loop-number-test.true, c.requires.within) in
    tick_within c.loop-number.number c.args.distance acts below

-- a tick more
pub loop-number-preserved : goal.loop-number-preserved
loop-number-preserved c =
    number_more (tick_text c.args.canvas c.args.distance) c.loop-number.text.items c.loop-number.number c.args.end c.loop-number-test.true
    c.loop-number.invariant c.in_ok-push_tick.ensures

-- all of them
pub returns : goal.returns
returns c =
    let none : c.args.end - c.loop-number.number ≡ 0 = omega (arith, c.loop-number-test.false) in
    number_last (tick_text c.args.canvas c.args.distance) c.loop-number.text.items c.loop-number.number c.args.end none c.loop-number.invariant
