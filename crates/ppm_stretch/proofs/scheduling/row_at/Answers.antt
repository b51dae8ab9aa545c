use Rattle.std.proofs.Common.{◌≡◌, ◌∙◌, Bool, true, false, not, Some, sym, refl, arith}
use Rattle.ppm_stretch.proofs.EnteringLemmas.{finish_is_over}
use Rattle.ppm_stretch.proofs.SteadyLemmas.{refuses_one}
use Rattle.ppm_stretch.proofs.SchedulingLemmas.{begins_lives, finish_goes_on, row_after}
use Rattle.ppm_engine.proofs.KindLemmas.{row_looks}
use Rattle.ppm_stretch.proofs.scheduling.row_at.Goals as goal

fine_is : (b : Bool) → not b ≡ false → b ≡ true
fine_is true e = refl
fine_is false e = cc

fine_not : (b : Bool) → not b ≡ true → b ≡ false
fine_not true e = cc
fine_not false e = refl

pub load_finish-finish-requires-clause-looks : goal.load_finish-finish-requires-clause-looks
load_finish-finish-requires-clause-looks g c κs within = row_looks c.args.place.now.restart.kind c.requires.seat.3

pub returns-then-finish-ne0-clause-rowed : goal.returns-then-finish-ne0-clause-rowed
returns-then-finish-ne0-clause-rowed g c =
    let place = c.args.place.now in
    refuses_one g.W.Watch.told c.args.memory.now.words.now.shared.key place.own c.args.mine.now.me c.load_finish-finish.new.mine.me c.args.watch.now
    c.load_finish-finish.new.watch 0 1 false false 16 (omega arith)
    c.requires.sits c.load_finish-finish.ensures.goes (c.load_finish-finish.ensures.refused c.if-finish.false) (
      c.load_finish-finish.ensures.sits_on,
      c.load_finish-finish.ensures.stands ∙ finish_is_over c.args.memory.now.shape c.args.code.now place.own place.place (Some place.restart)
          c.load_finish-finish.result.word c.if-finish-ne0.true,
    )

pub returns-then-not-finish-clause-rowed : goal.returns-then-not-finish-clause-rowed
returns-then-not-finish-clause-rowed g c =
    let place = c.args.place.now in
    let s = c.args.memory.now.shape in
    let code = c.args.code.now in
    refuses_one g.W.Watch.told c.args.memory.now.words.now.shared.key place.own c.args.mine.now.me c.load_finish-finish.new.mine.me c.args.watch.now
    c.load_finish-finish.new.watch 0 1 false true 16 (omega arith)
    c.requires.sits c.load_finish-finish.ensures.goes (c.load_finish-finish.ensures.refused (fine_not _ c.if-not-finish.true)) (
      c.load_finish-finish.ensures.sits_on,
      λ done. begins_lives s code place _ (sym (finish_goes_on s code place c.load_finish-finish.result.word _ c.if-finish-ne0.false refl) ∙ sym
          c.load_finish-finish.ensures.stands ∙ done),
    )

pub returns-then-not-restart_there-clause-rowed : goal.returns-then-not-restart_there-clause-rowed
returns-then-not-restart_there-clause-rowed g c =
    let place = c.args.place.now in (
      c.load_finish-finish.ensures.moves (fine_is _ c.if-not-finish.false),
      c.load_finish-finish.ensures.stands ∙ finish_goes_on c.args.memory.now.shape c.args.code.now place c.load_finish-finish.result.word false
          c.if-finish-ne0.false c.if-not-restart_there.ensures,
    )

pub work_at-requires-clause-seat : goal.work_at-requires-clause-seat
work_at-requires-clause-seat g c κs within = (
  record { own = c.requires.seat.0; place = c.requires.seat.1; restart = c.requires.seat.2; is_there = sym c.if-not-restart_there.ensures },
  c.requires.seat.3,
)

pub work_at-requires-clause-stands : goal.work_at-requires-clause-stands
work_at-requires-clause-stands g c κs within =
    c.load_finish-finish.ensures.stands ∙ finish_goes_on c.args.memory.now.shape c.args.code.now c.args.place.now c.load_finish-finish.result.word true
    c.if-finish-ne0.false c.if-not-restart_there.ensures

pub returns-clause-rowed : goal.returns-clause-rowed
returns-clause-rowed g c =
    row_after g.W.Watch.told c.args.memory.now.words.now.shared.key c.args.place.now c.args.mine.now.me c.load_finish-finish.new.mine.me
    c.work_at.new.mine.me c.args.watch.now c.load_finish-finish.new.watch c.work_at.new.watch
    c.work_at.result.work c.work_at.result.exchanged c.work_at.result.end (c.load_finish-finish.ensures.moves (fine_is _ c.if-not-finish.false))
    c.work_at.ensures.worked
