use Rattle.std.proofs.Common.{ap, arith, false, subst, sym, true, ◌<◌, ◌∙◌, ◌≤◌}
use Rattle.ppm_cells.specs.Cells.{address, word_count}
use Rattle.ppm_cells.specs.declared.shape.Shape.{Shape}
use Rattle.ppm_cells.specs.declared.cell.Cell.TheVariants.{RestartWord}
use Rattle.ppm_step.proofs.ThereLemmas.{restart_fits}
use Rattle.ppm_step.specs.declared.row.Row.TheVariants.{Now}
use Rattle.ppm_step.specs.There.{restart_is_there}
use Rattle.ppm_engine.proofs.EndLemmas.{ended, end_next, ends_if}
use Rattle.ppm_cells.specs.declared.restart.Restart.{Restart}
use Rattle.ppm_engine.proofs.MakingLemmas.{moved}
use Rattle.ppm_engine.proofs.ends.install.Goals as goal

pub pack-requires : goal.pack-requires
pack-requires g c =
    let small : word_count c.shape-shape.result ≤ 75497921 = omega (arith, c.word_count.ensures.value, c.word_count.ensures.bound) in restart_fits
    c.shape-shape.result small c.restart_of-restart.result (sym c.if-not-restart_there.ensures)

pub make-requires-clause-step : goal.make-requires-clause-step
make-requires-clause-step g c κs within =
    (tt, subst (λ (x : Shape). c.address-at.result < word_count x) c.shape-shape.ensures c.address-at.ensures.within)

pub make-requires-clause-stands : goal.make-requires-clause-stands
make-requires-clause-stands g c κs within =
    let m = c.args.memory.now in
    let s = g.M.Memory.shape m in
    let code = g.M.Memory.code m in
    let place = c.args.seat.now in
    let led = g.M.Memory.led m place.own in
    let next = c.args.next in
    let restart = c.restart_of-restart.result in
    let there = c.if-not-restart_there.ensures ∙ ap (λ (x : Shape). restart_is_there x restart) c.shape-shape.ensures ∙ ap
    (λ (x : Restart). restart_is_there s x) c.restart_of-restart.ensures in
    let at = c.address-at.ensures.value ∙ ap (λ (x : Shape). address x (RestartWord place.place)) c.shape-shape.ensures in (
      c.requires.stands.0,
      Now next,
      end_next s code place next c.address-at.result c.pack.result restart c.mark_of-mark.result c.requires.next c.restart_of-restart.ensures at
          c.pack.ensures c.mark_of-mark.ensures,
      moved led c.requires.stands.0 (ends_if s code place next true c.requires.next there) (c.requires.stands.1),
    )

pub returns-then-not-restart_there-clause-came : goal.returns-then-not-restart_there-clause-came
returns-then-not-restart_there-clause-came g c = λ first l.
    let m = c.args.memory.now in
    let s = g.M.Memory.shape m in
    let code = g.M.Memory.code m in
    let place = c.args.seat.now in
    let led = g.M.Memory.led m place.own in
    let next = c.args.next in
    let restart = c.restart_of-restart.result in
    let there = c.if-not-restart_there.ensures ∙ ap (λ (x : Shape). restart_is_there x restart) c.shape-shape.ensures ∙ ap
    (λ (x : Restart). restart_is_there s x) c.restart_of-restart.ensures in
    moved led first (ends_if s code place next false c.requires.next there) (l)

pub returns-in-Err-clause-came : goal.returns-in-Err-clause-came
returns-in-Err-clause-came g c = λ first l.
    let m = c.args.memory.now in
    let s = g.M.Memory.shape m in
    let code = g.M.Memory.code m in
    let place = c.args.seat.now in
    let led = g.M.Memory.led m place.own in
    let next = c.args.next in
    let restart = c.restart_of-restart.result in
    let there = c.if-not-restart_there.ensures ∙ ap (λ (x : Shape). restart_is_there x restart) c.shape-shape.ensures ∙ ap
    (λ (x : Restart). restart_is_there s x) c.restart_of-restart.ensures in
    let at = c.address-at.ensures.value ∙ ap (λ (x : Shape). address x (RestartWord place.place)) c.shape-shape.ensures in
    c.in-Err.ensures.came first (Now next) (end_next s code place next c.address-at.result c.pack.result restart c.mark_of-mark.result c.requires.next
    c.restart_of-restart.ensures at c.pack.ensures c.mark_of-mark.ensures) (moved led first (ends_if s code place next true c.requires.next there) (l))

pub returns-clause-came : goal.returns-clause-came
returns-clause-came g c = λ first l.
    let m = c.args.memory.now in
    let s = g.M.Memory.shape m in
    let code = g.M.Memory.code m in
    let place = c.args.seat.now in
    let led = g.M.Memory.led m place.own in
    let next = c.args.next in
    let restart = c.restart_of-restart.result in
    let there = c.if-not-restart_there.ensures ∙ ap (λ (x : Shape). restart_is_there x restart) c.shape-shape.ensures ∙ ap
    (λ (x : Restart). restart_is_there s x) c.restart_of-restart.ensures in
    let at = c.address-at.ensures.value ∙ ap (λ (x : Shape). address x (RestartWord place.place)) c.shape-shape.ensures in
    let small : word_count c.shape-shape.result ≤ 75497921 = omega (arith, c.word_count.ensures.value, c.word_count.ensures.bound) in (
      restart_fits c.shape-shape.result small c.restart_of-restart.result (sym c.if-not-restart_there.ensures),
      moved led first
          (ended s code place next c.in_default.field-0 restart c.requires.next c.restart_of-restart.ensures)
          ((c.in_default.ensures.came first (Now next) (end_next s code place next c.address-at.result c.pack.result restart c.mark_of-mark.result c.requires.next
          c.restart_of-restart.ensures at c.pack.ensures c.mark_of-mark.ensures) (moved led first (ends_if s code place next true c.requires.next there) (l))).1),
    )
