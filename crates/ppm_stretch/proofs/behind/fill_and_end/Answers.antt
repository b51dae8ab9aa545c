use Rattle.std.proofs.Common.{false, ◌+◌, ◌-◌, ℕ, subst, arith}
use Rattle.ppm_stretch.specs.declared.way.RoundEnd.{RoundEnd}
use Rattle.ppm_stretch.specs.Asking.{HasFilled}
use Rattle.ppm_stretch.specs.Framing.{HasFramed}
use Rattle.ppm_stretch.specs.Steady.{Moves}
use Rattle.ppm_stretch.proofs.FramingLemmas.{framed_as, framed_then, framed_works}
use Rattle.ppm_stretch.proofs.SteadyLemmas.{from_none}
use Rattle.ppm_stretch.proofs.behind.fill_and_end.Goals as goal

pub returns-in-Halts-clause-framed : goal.returns-in-Halts-clause-framed
returns-in-Halts-clause-framed g c =
    let told = g.W.Watch.told in
    let k = c.args.words.now.shared.key in
    let seat = c.args.seat in
    let own = c.args.local.now.own in
    let went = c.fill_along-circuit in
    let made = went.result.made in
    let behind = c.end_or_wait-behind in
    let filled = subst (λ (end : RoundEnd). HasFilled told c.args.words.now.shared.key c.args.shape.now c.args.code.now seat went.new.home went.new.registers
    c.args.mine.now.me went.new.mine.me c.args.watch.now went.new.watch c.args.most made end) c.in-Halts.is went.ensures.filled in
    let before = subst (λ (n : ℕ). Moves told k n c.args.mine.now.me went.new.mine.me c.args.watch.now went.new.watch made made 0 false) c.requires.own filled.0 in
    let then_there = framed_works told c.args.words.now.shared.key c.args.shape.now c.args.code.now own seat.place went.new.mine.me behind.new.mine.me went.new.watch behind.new.watch behind.new.local
    (c.args.most - made) behind.result behind.ensures.few.1 behind.ensures.few.2 behind.ensures.framed in
    framed_as told c.args.words.now.shared.key c.args.shape.now c.args.code.now own seat.place c.args.mine.now.me behind.new.mine.me c.args.watch.now behind.new.watch behind.new.local c.args.most
    c.filled_behind.result _ c.filled_behind.ensures
    (subst (λ (n : ℕ). HasFramed told c.args.words.now.shared.key c.args.shape.now c.args.code.now own seat.place c.args.mine.now.me behind.new.mine.me c.args.watch.now behind.new.watch behind.new.local c.args.most
    (made + behind.result.made) (made + behind.result.made) n behind.result.end) (from_none behind.result.made 0)
    (framed_then told c.args.words.now.shared.key c.args.shape.now c.args.code.now own seat.place c.args.mine.now.me went.new.mine.me behind.new.mine.me c.args.watch.now went.new.watch behind.new.watch
    behind.new.local (c.args.most - made) c.args.most made made 0 behind.result.made behind.result.end (omega (arith, went.ensures.few)) before then_there))
