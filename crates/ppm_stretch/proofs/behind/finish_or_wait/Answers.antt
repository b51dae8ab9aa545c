use Rattle.std.proofs.Common.{true, ◌∙◌, ℕ, sym, ap, subst, arith}
use Rattle.ppm_step.specs.Frames.{Full}
use Rattle.ppm_table.specs.Run.{stands_by, deeds_in}
use Rattle.ppm_stretch.specs.declared.way.FrameEnd.TheVariants.{Installed, Refused}
use Rattle.ppm_stretch.specs.Framing.{HasFramed}
use Rattle.ppm_stretch.proofs.FramingLemmas.{framed_as}
use Rattle.ppm_stretch.proofs.SteadyLemmas.{moves_none, moves_same, refuses_within}
use Rattle.ppm_stretch.proofs.behind.finish_or_wait.Goals as goal

pub returns-in-Installed-clause-framed : goal.returns-in-Installed-clause-framed
returns-in-Installed-clause-framed g c =
    let told = g.W.Watch.told in
    let seat = c.args.seat in
    let went = c.finish_along.new in
    framed_as told c.args.words.now.shared.key c.args.shape.now c.args.code.now c.args.local.now.own seat.place c.args.mine.now.me went.mine.me c.args.watch.now went.watch
    c.args.local.now c.args.most c.framed.result _ c.framed.ensures
    (subst (λ (n : ℕ). HasFramed told c.args.words.now.shared.key c.args.shape.now c.args.code.now n seat.place c.args.mine.now.me went.mine.me c.args.watch.now went.watch
    c.args.local.now c.args.most 1 1 0 (Installed c.in-Installed.restart)) c.requires.own (c.in-Installed.ensures.ended Full))

pub returns-in-Gone-clause-framed : goal.returns-in-Gone-clause-framed
returns-in-Gone-clause-framed g c =
    let told = g.W.Watch.told in
    let k = c.args.words.now.shared.key in
    let seat = c.args.seat in
    let own = c.args.local.now.own in
    let went = c.finish_along.new in
    let ended = c.in-Gone.ensures.ended Full in
    framed_as told c.args.words.now.shared.key c.args.shape.now c.args.code.now own seat.place c.args.mine.now.me went.mine.me c.args.watch.now went.watch
    c.wait_broken.new.local c.args.most c.framed-in-Gone.result _ c.framed-in-Gone.ensures (
      moves_same told k own c.args.mine.now.me c.args.mine.now.me went.mine.me c.args.watch.now c.args.watch.now went.watch 0 0 0
          (moves_none told k own c.args.mine.now.me c.args.watch.now c.requires.sits) ended.0 ended.1,
      c.wait_broken.ensures.stands ∙ sym (ap (λ (n : ℕ). stands_by k n (deeds_in went.mine.me.0)) (sym c.requires.own) ∙ ended.2),
      c.wait_broken.ensures.holds,
    )

pub returns-in-Refused-clause-framed : goal.returns-in-Refused-clause-framed
returns-in-Refused-clause-framed g c =
    let told = g.W.Watch.told in
    let k = c.args.words.now.shared.key in
    let seat = c.args.seat in
    let went = c.finish_along.new in
    framed_as told c.args.words.now.shared.key c.args.shape.now c.args.code.now c.args.local.now.own seat.place c.args.mine.now.me went.mine.me c.args.watch.now went.watch
    c.args.local.now c.args.most c.framed-in-Refused.result _ c.framed-in-Refused.ensures
    (refuses_within told k c.args.local.now.own c.args.mine.now.me went.mine.me c.args.watch.now went.watch true 1 c.args.most
    (omega (arith, c.if-most-gt0.true))
    (subst (λ (n : ℕ). HasFramed told c.args.words.now.shared.key c.args.shape.now c.args.code.now n seat.place c.args.mine.now.me went.mine.me c.args.watch.now went.watch
    c.args.local.now 1 0 0 0 (Refused true)) c.requires.own (c.in-Refused.ensures.ended Full)))
