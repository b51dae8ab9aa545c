use Rattle.std.proofs.Common.{ap, false, subst, true, ◌<◌, ◌∙◌}
use Rattle.ppm_cells.specs.Cells.{address, word_count}
use Rattle.ppm_cells.specs.declared.shape.Shape.{Shape}
use Rattle.ppm_step.specs.declared.row.Row.TheVariants.{Store}
use Rattle.ppm_step.specs.There.{is_there}
use Rattle.ppm_engine.proofs.EndLemmas.{store_next, stores_if}
use Rattle.ppm_engine.proofs.MakingLemmas.{moved}
use Rattle.ppm_engine.proofs.ends.store.Goals as goal

pub make-requires-clause-step : goal.make-requires-clause-step
make-requires-clause-step g c κs within =
    (tt, subst (λ (x : Shape). c.address-at.result < word_count x) c.shape-shape.ensures c.address-at.ensures.within)

pub make-requires-clause-stands : goal.make-requires-clause-stands
make-requires-clause-stands g c κs within =
    let m = c.args.memory.now in
    let s = g.M.Memory.shape m in
    let code = g.M.Memory.code m in
    let place = c.args.seat.now in
    let led = g.M.Memory.led m place.own in
    let put = c.args.put in
    let there = c.if-not-cell_is_there.ensures ∙ ap (λ (x : Shape). is_there x put.cell) c.shape-shape.ensures in
    let at = c.address-at.ensures.value ∙ ap (λ (x : Shape). address x put.cell) c.shape-shape.ensures in (
      c.requires.stands.0,
      Store put.cell put.content c.requires.stands.1,
      store_next s code place put.cell put.content c.requires.stands.1
          c.address-at.result c.word.result c.requires.put.1 at c.word.ensures,
      moved led c.requires.stands.0
          (stores_if s code place put.cell put.content c.requires.stands.1 true there) (c.requires.stands.2),
    )

pub returns-then-not-cell_is_there-clause-came : goal.returns-then-not-cell_is_there-clause-came
returns-then-not-cell_is_there-clause-came g c = λ first next l.
    let m = c.args.memory.now in
    let s = g.M.Memory.shape m in
    let code = g.M.Memory.code m in
    let place = c.args.seat.now in
    let led = g.M.Memory.led m place.own in
    let put = c.args.put in
    let there = c.if-not-cell_is_there.ensures ∙ ap (λ (x : Shape). is_there x put.cell) c.shape-shape.ensures in
    moved led first (stores_if s code place put.cell put.content next false there) (l)

pub returns-in-Err-clause-came : goal.returns-in-Err-clause-came
returns-in-Err-clause-came g c = λ first next l.
    let m = c.args.memory.now in
    let s = g.M.Memory.shape m in
    let code = g.M.Memory.code m in
    let place = c.args.seat.now in
    let led = g.M.Memory.led m place.own in
    let put = c.args.put in
    let there = c.if-not-cell_is_there.ensures ∙ ap (λ (x : Shape). is_there x put.cell) c.shape-shape.ensures in
    let at = c.address-at.ensures.value ∙ ap (λ (x : Shape). address x put.cell) c.shape-shape.ensures in
    c.in-Err.ensures.came first (Store put.cell put.content next) (store_next s code place put.cell put.content next c.address-at.result
    c.word.result c.requires.put.1 at c.word.ensures) (moved led first (stores_if s code place put.cell put.content next true there) (l))

pub returns-clause-came : goal.returns-clause-came
returns-clause-came g c = λ first next l.
    let m = c.args.memory.now in
    let s = g.M.Memory.shape m in
    let code = g.M.Memory.code m in
    let place = c.args.seat.now in
    let led = g.M.Memory.led m place.own in
    let put = c.args.put in
    let there = c.if-not-cell_is_there.ensures ∙ ap (λ (x : Shape). is_there x put.cell) c.shape-shape.ensures in
    let at = c.address-at.ensures.value ∙ ap (λ (x : Shape). address x put.cell) c.shape-shape.ensures in (
      tt,
      (c.in_default.ensures.came first (Store put.cell put.content next) (store_next s code place put.cell put.content next c.address-at.result
          c.word.result c.requires.put.1 at c.word.ensures) (moved led first (stores_if s code place put.cell put.content next true there) (l))).1,
    )
