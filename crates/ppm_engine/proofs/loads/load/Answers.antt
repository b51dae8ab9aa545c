use Rattle.std.proofs.Common.{ap, arith, false, subst, true, ◌<◌, ◌∙◌}
use Rattle.ppm_cells.specs.Cells.{address, word_count}
use Rattle.ppm_cells.specs.declared.shape.Shape.{Shape}
use Rattle.ppm_cells.specs.declared.cell.Cell.{Cell}
use Rattle.ppm_step.specs.declared.row.Row.TheVariants.{Now}
use Rattle.ppm_step.specs.declared.row.Then.TheVariants.{Load}
use Rattle.ppm_step.specs.There.{is_there}
use Rattle.ppm_engine.proofs.LoadLemmas.{bottom_above, bottom_below, load_next, stands_if}
use Rattle.ppm_engine.proofs.MakingLemmas.{moved}
use Rattle.ppm_engine.proofs.loads.load.Goals as goal

pub cell_of-cell-requires-clause-bottom : goal.cell_of-cell-requires-clause-bottom
cell_of-cell-requires-clause-bottom g c =
    bottom_above (g.M.Memory.shape c.args.memory.now) c.args.seat.now c.requires.seat.0

pub cell_of-cell-requires-clause-slot : goal.cell_of-cell-requires-clause-slot
cell_of-cell-requires-clause-slot g c =
    let s = g.M.Memory.shape c.args.memory.now in omega (arith, bottom_below s c.args.seat.now c.requires.seat.0, s.within.slots_most)

pub make-requires-clause-step : goal.make-requires-clause-step
make-requires-clause-step g c κs within =
    (tt, subst (λ (x : Shape). c.address-at.result < word_count x) c.shape-shape.ensures c.address-at.ensures.within)

pub make-requires-clause-stands : goal.make-requires-clause-stands
make-requires-clause-stands g c κs within =
    let m = c.args.memory.now in
    let s = g.M.Memory.shape m in
    let code = g.M.Memory.code m in
    let place = c.args.seat.now in
    let led = g.M.Memory.led m place.own in
    let there = c.if-not-cell_is_there.ensures ∙ ap (λ (x : Shape). is_there x c.cell_of-cell.result) c.shape-shape.ensures ∙ ap
    (λ (x : Cell). is_there s x) c.cell_of-cell.ensures in
    let at = c.address-at.ensures.value ∙ ap (λ (x : Shape). address x c.cell_of-cell.result) c.shape-shape.ensures ∙ ap (λ (x : Cell). address s x)
    c.cell_of-cell.ensures in (
      c.requires.stands.0,
      Now (Load c.args.point),
      load_next s place c.args.point c.address-at.result c.requires.point.1 at,
      moved led c.requires.stands.0
          (stands_if s code place c.args.point true c.requires.point.1 there) (c.requires.stands.1),
    )

pub returns-then-not-cell_is_there-clause-came : goal.returns-then-not-cell_is_there-clause-came
returns-then-not-cell_is_there-clause-came g c = λ first l.
    let m = c.args.memory.now in
    let s = g.M.Memory.shape m in
    let code = g.M.Memory.code m in
    let place = c.args.seat.now in
    let led = g.M.Memory.led m place.own in
    let there = c.if-not-cell_is_there.ensures ∙ ap (λ (x : Shape). is_there x c.cell_of-cell.result) c.shape-shape.ensures ∙ ap
    (λ (x : Cell). is_there s x) c.cell_of-cell.ensures in
    moved led first (stands_if s code place c.args.point false c.requires.point.1 there) (l)

pub returns-clause-came : goal.returns-clause-came
returns-clause-came g c = λ first l.
    let m = c.args.memory.now in
    let s = g.M.Memory.shape m in
    let code = g.M.Memory.code m in
    let place = c.args.seat.now in
    let led = g.M.Memory.led m place.own in
    let there = c.if-not-cell_is_there.ensures ∙ ap (λ (x : Shape). is_there x c.cell_of-cell.result) c.shape-shape.ensures ∙ ap
    (λ (x : Cell). is_there s x) c.cell_of-cell.ensures in
    let at = c.address-at.ensures.value ∙ ap (λ (x : Shape). address x c.cell_of-cell.result) c.shape-shape.ensures ∙ ap (λ (x : Cell). address s x)
    c.cell_of-cell.ensures in
    c.make.ensures.came first (Now (Load c.args.point)) (load_next s place c.args.point c.address-at.result c.requires.point.1 at)
    (moved led first (stands_if s code place c.args.point true c.requires.point.1 there) (l))
