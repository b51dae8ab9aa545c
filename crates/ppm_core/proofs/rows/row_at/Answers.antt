use Rattle.std.proofs.Common.{◌∙◌, ℕ, None, sym, arith}
use Rattle.ppm_engine.specs.Memory.{spot}
use Rattle.ppm_engine.proofs.KindLemmas.{row_works}
use Rattle.ppm_step.specs.Rows.{row_of}
use Rattle.ppm_step.specs.Standings.{stands}
use Rattle.ppm_core.specs.AloneLaws.{led_none}
use Rattle.ppm_core.proofs.RowLemmas.{count_so, ended_so, none_so, positive}
use Rattle.ppm_core.proofs.rows.row_at.Goals as goal

pub make_row-end-requires-clause-seat : goal.make_row-end-requires-clause-seat
make_row-end-requires-clause-seat c κs = (
  record { own = c.requires.own; place = c.requires.place; restart = c.requires.restart.0; is_there = sym c.if-not-restart_there.ensures },
  row_works c.args.seat.now.restart.kind c.requires.restart.1,
)

pub make_row-end-requires-clause-stands : goal.make_row-end-requires-clause-stands
make_row-end-requires-clause-stands c κs =
    let s = c.args.shape.now in
    let code = c.args.code.now in
    let seat = c.args.seat.now in
    let x = stands s code seat (row_of s seat seat.restart.kind) in (
      spot c.args.words.now x None,
      led_none s code seat.own c.args.words.now.items x (record { count = c.requires.words; finish = λ _. sym c.finish_word.ensures ∙ c.if-finish_word-ne0.false }),
    )

pub returns-then-tally-eq0-clause-rowed : goal.returns-then-tally-eq0-clause-rowed
returns-then-tally-eq0-clause-rowed c =
    let s = c.args.shape.now in
    let code = c.args.code.now in
    let seat = c.args.seat.now in
    let x = stands s code seat (row_of s seat seat.restart.kind) in
    let end = c.make_row-end in
    none_so s code seat.own seat.place x c.args.words.now end.new.own (λ o. o.items) None None end.new.tally end.result c.if-tally-eq0.true
    (end.ensures.came (spot c.args.words.now x None)
    (led_none s code seat.own c.args.words.now.items x (record { count = c.requires.words; finish = λ _. sym c.finish_word.ensures ∙ c.if-finish_word-ne0.false })))

pub returns-then-tally-eq0-clause-count : goal.returns-then-tally-eq0-clause-count
returns-then-tally-eq0-clause-count c =
    let s = c.args.shape.now in
    let code = c.args.code.now in
    let seat = c.args.seat.now in
    let x = stands s code seat (row_of s seat seat.restart.kind) in
    let end = c.make_row-end in
    count_so s code seat.own seat.place x c.args.words.now end.new.own (λ o. o.items) None None end.new.tally end.result
    (end.ensures.came (spot c.args.words.now x None)
    (led_none s code seat.own c.args.words.now.items x (record { count = c.requires.words; finish = λ _. sym c.finish_word.ensures ∙ c.if-finish_word-ne0.false })))

pub returns-clause-rowed : goal.returns-clause-rowed
returns-clause-rowed c =
    let s = c.args.shape.now in
    let code = c.args.code.now in
    let seat = c.args.seat.now in
    let x = stands s code seat (row_of s seat seat.restart.kind) in
    let end = c.make_row-end in
    let some = positive end.new.tally.made c.if-tally-eq0.false in (
      some,
      end.ensures.few,
      omega (arith, c.if-left-lt-MOST_OF_A_ROW.false),
      ended_so s code seat c.args.words.now end.new.own (λ o. o.items) None None end.new.tally end.result c.requires.restart.1 (sym c.finish_word.ensures ∙ c.if-finish_word-ne0.false)
          c.if-not-restart_there.ensures some
          (end.ensures.came (spot c.args.words.now x None)
          (led_none s code seat.own c.args.words.now.items x (record { count = c.requires.words; finish = λ _. sym c.finish_word.ensures ∙ c.if-finish_word-ne0.false }))),
    )

pub returns-clause-count : goal.returns-clause-count
returns-clause-count c =
    let s = c.args.shape.now in
    let code = c.args.code.now in
    let seat = c.args.seat.now in
    let x = stands s code seat (row_of s seat seat.restart.kind) in
    let end = c.make_row-end in
    count_so s code seat.own seat.place x c.args.words.now end.new.own (λ o. o.items) None None end.new.tally end.result
    (end.ensures.came (spot c.args.words.now x None)
    (led_none s code seat.own c.args.words.now.items x (record { count = c.requires.words; finish = λ _. sym c.finish_word.ensures ∙ c.if-finish_word-ne0.false })))
