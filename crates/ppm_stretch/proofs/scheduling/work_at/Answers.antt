use Rattle.std.proofs.Common.{◌∙◌, sym, ap, subst}
use Rattle.ppm_code.specs.declared.code.CodeParts.{CodeParts}
use Rattle.ppm_engine.specs.Memory.{spot}
use Rattle.ppm_stretch.specs.SeatedLaws.{led_none}
use Rattle.ppm_step.specs.Rows.{row_of}
use Rattle.ppm_step.specs.Standings.{stands}
use Rattle.ppm_stretch.specs.declared.way.RowEnd.{RowEnd}
use Rattle.ppm_stretch.specs.Scheduling.{HasWorked}
use Rattle.ppm_stretch.proofs.SchedulingLemmas.{made_at, made_so}
use Rattle.ppm_engine.proofs.KindLemmas.{row_works}
use Rattle.ppm_stretch.proofs.scheduling.work_at.Goals as goal

pub make_row-made-requires-clause-seat : goal.make_row-made-requires-clause-seat
make_row-made-requires-clause-seat g c κs within = (c.requires.seat.0, row_works c.args.place.now.restart.kind c.requires.seat.1)

pub make_row-made-requires-clause-stands : goal.make_row-made-requires-clause-stands
make_row-made-requires-clause-stands g c κs within =
    let words = c.args.memory.now.words.now.shared in
    let place = c.args.place.now in
    let s = c.args.memory.now.shape in
    let x = stands s words.key.code place (row_of s place place.restart.kind) in
    let t = g.W.Watch.told c.args.watch.now in (
      spot c.args.mine.now x t,
      led_none words.table_id words.key place.own c.args.mine.now.table_id c.args.mine.now.me x t (record {
        of_table = c.requires.table.0;
        sits = c.requires.sits;
        stands = c.requires.stands ∙ ap (λ (code : CodeParts). stands s code place (row_of s place place.restart.kind)) (sym c.requires.table.2);
      }),
    )

pub returns-clause-table : goal.returns-clause-table
returns-clause-table g c =
    let words = c.args.memory.now.words.now.shared in
    let place = c.args.place.now in
    let s = c.args.memory.now.shape in
    let x = stands s words.key.code place (row_of s place place.restart.kind) in
    let t = g.W.Watch.told in
    let w = c.args.watch.now in
    let mine = c.args.mine.now in
    let made = c.make_row-made in
    let new = made.new in
    let here = led_none words.table_id words.key place.own mine.table_id mine.me x (t w) (record {
      of_table = c.requires.table.0;
      sits = c.requires.sits;
      stands = c.requires.stands ∙ ap (λ (code : CodeParts). stands s code place (row_of s place place.restart.kind)) (sym c.requires.table.2);
    }) in (
      made_at t words.table_id words.key place x mine new.own (λ o. o.table_id) (λ o. o.me) w new.watch new.tally made.result
          (made.ensures.came (spot mine x (t w)) here)
          ∙ sym c.requires.table.0,
      made.ensures.few,
    )

pub returns-clause-worked : goal.returns-clause-worked
returns-clause-worked g c =
    let words = c.args.memory.now.words.now.shared in
    let place = c.args.place.now in
    let s = c.args.memory.now.shape in
    let x = stands s words.key.code place (row_of s place place.restart.kind) in
    let t = g.W.Watch.told in
    let w = c.args.watch.now in
    let mine = c.args.mine.now in
    let made = c.make_row-made in
    let new = made.new in
    let here = led_none words.table_id words.key place.own mine.table_id mine.me x (t w) (record {
      of_table = c.requires.table.0;
      sits = c.requires.sits;
      stands = c.requires.stands ∙ ap (λ (code : CodeParts). stands s code place (row_of s place place.restart.kind)) (sym c.requires.table.2);
    }) in
    subst (λ (end : RowEnd). HasWorked t words.key place mine.me new.own.me w new.watch new.tally.made new.tally.exchanged end) (sym c.end_by.ensures)
    (made_so t words.table_id words.key place x mine new.own (λ o. o.table_id) (λ o. o.me) w new.watch new.tally made.result made.ensures.few
    (made.ensures.came (spot mine x (t w)) here))
