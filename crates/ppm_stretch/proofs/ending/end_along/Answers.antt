use Rattle.std.proofs.Common.{◌∙◌, ◌+◌, ◌<◌, ℕ, refl, sym, ap, subst, arith}
use Rattle.ppm_step.specs.Frames.{ending}
use Rattle.ppm_step.specs.Standings.{running}
use Rattle.ppm_stretch.specs.Ending.{HasEnded, HasMadeEnds}
use Rattle.ppm_stretch.specs.declared.way.EndStep.{EndStep}
use Rattle.ppm_stretch.specs.declared.way.EndStep.TheVariants.{Stored}
use Rattle.ppm_stretch.proofs.EndingLemmas.{ended_one, ended_so, ended_then, made_few, not_stored, stored_is}
use Rattle.ppm_stretch.proofs.SteadyLemmas.{moves_none, moves_then}
use Rattle.ppm_stretch.proofs.ending.end_along.Goals as goal

pub loop-made-init : goal.loop-made-init
loop-made-init g c = (
  omega arith,
  omega arith,
  λ some. omega (arith, some),
  refl,
  moves_none g.W.Watch.told c.args.words.now.shared.key c.args.place.now.own c.args.mine.now.me c.args.watch.now c.requires.sits,
  c.requires.stands,
)

-- the next store was made
pub loop-made-preserved : goal.loop-made-preserved
loop-made-preserved g c =
    let told = g.W.Watch.told in
    let k = c.args.words.now.shared.key in
    let s = c.args.shape.now in
    let seat = c.args.place.now in
    let i = c.loop-made.invariant in
    let made = c.loop-made.made in
    let step = c.end_at-step in
    let stored = stored_is step.result c.if-not-is_stored.ensures in
    let few : c.loop-made.n < 11 = step.ensures.few stored in
    let ended = subst (λ (e : EndStep). HasEnded told k s seat (ending c.args.code.now c.args.home.now c.args.end (c.loop-made.n + 1))
    c.loop-made.mine.me step.new.mine.me c.loop-made.watch step.new.watch e) stored step.ensures.ended in (
      omega (arith, c.loop-made-test.true),
      omega (arith, i.1),
      λ _. omega (arith, i.1, few),
      step.ensures.table ∙ i.3,
      moves_then told k seat.own c.args.mine.now.me c.loop-made.mine.me step.new.mine.me c.args.watch.now c.loop-made.watch step.new.watch
          made 1 made 1 0 0 (made + 1) (made + 1) 0 refl refl refl i.4 ended.0,
      ended.1,
    )

pub returns-then-not-is_stored-clause-few : goal.returns-then-not-is_stored-clause-few
returns-then-not-is_stored-clause-few g c =
    omega (arith, c.loop-made-test.true, c.made_by-more.ensures, made_few c.end_at-step.result)

pub returns-then-not-is_stored-clause-last : goal.returns-then-not-is_stored-clause-last
returns-then-not-is_stored-clause-last g c = λ stored. absurd (not_stored c.end_at-step.result c.if-not-is_stored.ensures stored)

-- the stores before it, and what came of it
pub returns-then-not-is_stored-clause-ended : goal.returns-then-not-is_stored-clause-ended
returns-then-not-is_stored-clause-ended g c =
    let told = g.W.Watch.told in
    let k = c.args.words.now.shared.key in
    let s = c.args.shape.now in
    let seat = c.args.place.now in
    let i = c.loop-made.invariant in
    let made = c.loop-made.made in
    let more = c.made_by-more.result in
    let step = c.end_at-step in
    let before = c.loop-made.mine.me in
    let mid = c.loop-made.watch in
    let here = ending c.args.code.now c.args.home.now c.args.end c.loop-made.n in
    let left = ending c.args.code.now c.args.home.now c.args.end (c.loop-made.n + 1) in
    let one = subst (λ (x : ℕ). HasMadeEnds told k s seat left before step.new.mine.me mid step.new.watch 1 x step.result) (sym c.made_by-more.ensures)
    (ended_one told k s seat left before step.new.mine.me mid step.new.watch step.result i.4.goes.sits step.ensures.ended) in
    ended_so told k s seat left (ending c.args.code.now c.args.home.now c.args.end (c.args.from + (made + more)))
    c.args.mine.now.me step.new.mine.me c.args.watch.now step.new.watch c.args.most c.args.most (made + more) step.result
    c.if-not-is_stored.ensures (omega arith)
    (ended_then told k s seat here left c.args.mine.now.me before step.new.mine.me c.args.watch.now mid step.new.watch made 1 c.args.most
    made more Stored step.result refl (omega arith) (omega (arith, c.loop-made-test.true)) (i.4, i.5) one)

pub returns-clause-last : goal.returns-clause-last
returns-clause-last g c = λ _.
    let i = c.loop-made.invariant in (
      omega (arith, i.0, c.loop-made-test.false),
      λ some. (
          let made : 0 < c.loop-made.made = omega (arith, some, i.0, c.loop-made-test.false) in
          let few = i.2 made in
          omega (arith, i.0, c.loop-made-test.false, few)
          ),
    )

pub returns-clause-ended : goal.returns-clause-ended
returns-clause-ended g c =
    let i = c.loop-made.invariant in (
      i.4,
      i.5 ∙ ap (λ (n : ℕ). running c.args.shape.now c.args.place.now (ending c.args.code.now c.args.home.now c.args.end n)) i.1,
    )
