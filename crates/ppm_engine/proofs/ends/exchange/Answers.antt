use Rattle.std.proofs.Common.{ap, false, subst, true, ◌<◌, ◌∙◌}
use Rattle.ppm_cells.specs.Cells.{address, word_count}
use Rattle.ppm_cells.specs.declared.shape.Shape.{Shape}
use Rattle.ppm_step.specs.declared.row.Row.TheVariants.{Exchange}
use Rattle.ppm_step.specs.There.{is_there}
use Rattle.ppm_engine.proofs.EndLemmas.{exchange_next, exchanges_if}
use Rattle.ppm_engine.proofs.MakingLemmas.{moved}
use Rattle.ppm_engine.proofs.ends.exchange.Goals as goal

pub make-requires-clause-step : goal.make-requires-clause-step
make-requires-clause-step g c κs within =
    (tt, subst (λ (x : Shape). c.address-at.result < word_count x) c.shape-shape.ensures c.address-at.ensures.within)

pub make-requires-clause-stands : goal.make-requires-clause-stands
make-requires-clause-stands g c κs within =
    let m = c.args.memory.now in
    let s = g.M.Memory.shape m in
    let code = g.M.Memory.code m in
    let place = c.args.seat.now in
    let led = g.M.Memory.led m place.own in
    let change = c.args.change in
    let there = c.if-not-cell_is_there.ensures ∙ ap (λ (x : Shape). is_there x change.cell) c.shape-shape.ensures in
    let at = c.address-at.ensures.value ∙ ap (λ (x : Shape). address x change.cell) c.shape-shape.ensures in (
      c.requires.stands.0,
      Exchange change.cell change.old change.new c.requires.stands.1,
      exchange_next s code place change.cell change.old change.new
          c.requires.stands.1 c.address-at.result c.word.result c.word-2.result c.requires.stands.2 at c.word.ensures c.word-2.ensures,
      moved led c.requires.stands.0
          (exchanges_if s code place change.cell change.old change.new c.requires.stands.1 true there) (c.requires.stands.3),
    )

pub returns-then-not-cell_is_there-clause-came : goal.returns-then-not-cell_is_there-clause-came
returns-then-not-cell_is_there-clause-came g c = λ first next is l.
    let m = c.args.memory.now in
    let s = g.M.Memory.shape m in
    let code = g.M.Memory.code m in
    let place = c.args.seat.now in
    let led = g.M.Memory.led m place.own in
    let change = c.args.change in
    let there = c.if-not-cell_is_there.ensures ∙ ap (λ (x : Shape). is_there x change.cell) c.shape-shape.ensures in
    moved led first (exchanges_if s code place change.cell change.old change.new next false there) (l)

pub returns-in-Err-clause-came : goal.returns-in-Err-clause-came
returns-in-Err-clause-came g c = λ first next is l.
    let m = c.args.memory.now in
    let s = g.M.Memory.shape m in
    let code = g.M.Memory.code m in
    let place = c.args.seat.now in
    let led = g.M.Memory.led m place.own in
    let change = c.args.change in
    let there = c.if-not-cell_is_there.ensures ∙ ap (λ (x : Shape). is_there x change.cell) c.shape-shape.ensures in
    let at = c.address-at.ensures.value ∙ ap (λ (x : Shape). address x change.cell) c.shape-shape.ensures in
    c.in-Err.ensures.came first (Exchange change.cell change.old change.new next) (exchange_next s code place change.cell change.old change.new next
    c.address-at.result c.word.result c.word-2.result is at c.word.ensures c.word-2.ensures)
    (moved led first (exchanges_if s code place change.cell change.old change.new next true there) (l))

pub returns-clause-came : goal.returns-clause-came
returns-clause-came g c = λ first next is l.
    let m = c.args.memory.now in
    let s = g.M.Memory.shape m in
    let code = g.M.Memory.code m in
    let place = c.args.seat.now in
    let led = g.M.Memory.led m place.own in
    let change = c.args.change in
    let there = c.if-not-cell_is_there.ensures ∙ ap (λ (x : Shape). is_there x change.cell) c.shape-shape.ensures in
    let at = c.address-at.ensures.value ∙ ap (λ (x : Shape). address x change.cell) c.shape-shape.ensures in (
      tt,
      (c.in_default.ensures.came first (Exchange change.cell change.old change.new next) (exchange_next s code place change.cell change.old
          change.new next c.address-at.result c.word.result c.word-2.result is at c.word.ensures c.word-2.ensures)
          (moved led first (exchanges_if s code place change.cell change.old change.new next true there) (l))).1,
    )
