use Rattle.std.proofs.Common.{true, false, ◌∙◌, ◌+◌, ℕ, sym, ap, subst, arith}
use Rattle.ppm_cells.specs.declared.shape.Shape.{Shape}
use Rattle.ppm_step.specs.Frames.{ending}
use Rattle.ppm_step.specs.Standings.{running}
use Rattle.ppm_table.specs.Run.{stands_by, deeds_in}
use Rattle.ppm_stretch.specs.declared.way.EndStep.{EndStep}
use Rattle.ppm_stretch.specs.declared.way.FrameEnd.TheVariants.{Installed, Refused}
use Rattle.ppm_stretch.specs.Ending.{HasMadeEnds}
use Rattle.ppm_stretch.specs.Framing.{HasFramed}
use Rattle.ppm_stretch.specs.Steady.{Moves}
use Rattle.ppm_stretch.proofs.FramingLemmas.{ends_at, framed_as}
use Rattle.ppm_stretch.proofs.SteadyLemmas.{refuses_within}
use Rattle.ppm_stretch.proofs.behind.end_or_wait.Goals as goal

pub end_along-ended-requires-clause-end : goal.end_along-ended-requires-clause-end
end_along-ended-requires-clause-end g c κs within =
    (ends_at c.args.shape.now c.args.code.now c.parts.ensures.code c.args.seat.now c.args.home.now c.args.local.now.registers c.args.halt c.in-Some.end _
    c.in-Some.ensures c.requires.halts).0

pub end_along-ended-requires-clause-stands : goal.end_along-ended-requires-clause-stands
end_along-ended-requires-clause-stands g c κs within =
    let k = c.args.words.now.shared.key in
    let seat = c.args.seat.now in
    ap (λ (n : ℕ). stands_by k n (deeds_in c.args.mine.now.me.0)) c.requires.own
    ∙ (ends_at c.args.shape.now c.args.code.now c.parts.ensures.code c.args.seat.now c.args.home.now c.args.local.now.registers c.args.halt c.in-Some.end _
    c.in-Some.ensures c.requires.halts).1
    ∙ ap (λ (s : Shape). running s seat (ending c.args.code.now c.args.home.now c.in-Some.end 0)) (sym c.requires.sizes)

pub returns-in-Installed-clause-framed : goal.returns-in-Installed-clause-framed
returns-in-Installed-clause-framed g c =
    let told = g.W.Watch.told in
    let seat = c.args.seat.now in
    let went = c.end_along-ended.new in
    let made = c.end_along-ended.result.made in
    let ended = subst (λ (e : EndStep). HasMadeEnds told c.args.words.now.shared.key c.args.sizes.now seat (ending c.args.code.now c.args.home.now c.in-Some.end (0 + made)) c.args.mine.now.me went.mine.me
    c.args.watch.now went.watch 16 made e) c.in-Installed.is (c.end_along-ended.ensures.ended) in
    framed_as told c.args.words.now.shared.key c.args.shape.now c.args.code.now c.args.local.now.own seat.place c.args.mine.now.me went.mine.me c.args.watch.now went.watch
    c.args.local.now c.args.most c.framed.result _ c.framed.ensures
    (subst (λ (n : ℕ). HasFramed told c.args.words.now.shared.key c.args.shape.now c.args.code.now n seat.place c.args.mine.now.me went.mine.me c.args.watch.now went.watch
    c.args.local.now c.args.most made made 0 (Installed c.in-Installed.restart)) c.requires.own ended)

pub returns-in-Gone-clause-framed : goal.returns-in-Gone-clause-framed
returns-in-Gone-clause-framed g c =
    let told = g.W.Watch.told in
    let k = c.args.words.now.shared.key in
    let seat = c.args.seat.now in
    let own = c.args.local.now.own in
    let went = c.end_along-ended.new in
    let made = c.end_along-ended.result.made in
    let ended = subst (λ (e : EndStep). HasMadeEnds told k c.args.sizes.now seat (ending c.args.code.now c.args.home.now c.in-Some.end (0 + made)) c.args.mine.now.me went.mine.me
    c.args.watch.now went.watch 16 made e) c.in-Gone.is (c.end_along-ended.ensures.ended) in
    framed_as told c.args.words.now.shared.key c.args.shape.now c.args.code.now own seat.place c.args.mine.now.me went.mine.me c.args.watch.now went.watch
    c.wait_broken.new.local c.args.most c.framed-in-Gone.result _ c.framed-in-Gone.ensures (
      subst (λ (n : ℕ). Moves told k n c.args.mine.now.me went.mine.me c.args.watch.now went.watch made made 0 false) c.requires.own ended.0,
      c.wait_broken.ensures.stands ∙ sym (ap (λ (n : ℕ). stands_by k n (deeds_in went.mine.me.0)) (sym c.requires.own) ∙ ended.1),
      c.wait_broken.ensures.holds,
    )

pub returns-in-Refused-clause-framed : goal.returns-in-Refused-clause-framed
returns-in-Refused-clause-framed g c =
    let told = g.W.Watch.told in
    let k = c.args.words.now.shared.key in
    let seat = c.args.seat.now in
    let went = c.end_along-ended.new in
    let made = c.end_along-ended.result.made in
    let ended = subst (λ (e : EndStep). HasMadeEnds told k c.args.sizes.now seat (ending c.args.code.now c.args.home.now c.in-Some.end (0 + made)) c.args.mine.now.me went.mine.me
    c.args.watch.now went.watch 16 made e) c.in-Refused.is (c.end_along-ended.ensures.ended) in
    framed_as told c.args.words.now.shared.key c.args.shape.now c.args.code.now c.args.local.now.own seat.place c.args.mine.now.me went.mine.me c.args.watch.now went.watch
    c.args.local.now c.args.most c.framed-in-Refused.result _ c.framed-in-Refused.ensures
    (refuses_within told k c.args.local.now.own c.args.mine.now.me went.mine.me c.args.watch.now went.watch true 16 c.args.most
    (omega (arith, c.if-most-ge-MOST_OF_AN_END.true))
    (subst (λ (n : ℕ). HasFramed told c.args.words.now.shared.key c.args.shape.now c.args.code.now n seat.place c.args.mine.now.me went.mine.me c.args.watch.now went.watch
    c.args.local.now 16 0 0 0 (Refused true)) c.requires.own ended))

pub unreachable-requires : goal.unreachable-requires
unreachable-requires g c = (let few = (c.end_along-ended.ensures.last c.in-Stored.is).1 (omega arith) in omega (arith, few))
