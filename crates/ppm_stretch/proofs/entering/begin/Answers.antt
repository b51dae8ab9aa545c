use Rattle.std.proofs.Common.{◌≡◌, Bool, true, false, not, ap, sym, ◌∙◌, refl, arith}
use Rattle.std.specs.Prelude.{Some, slice_get}
use Rattle.ppm_cells.specs.declared.restart.RestartKind.{RestartKind}
use Rattle.ppm_step.specs.Standings.{enters}
use Rattle.ppm_step.specs.State.{before_kind}
use Rattle.ppm_stretch.proofs.EnteringLemmas.{enters_lives, finish_is_over, header_lives}
use Rattle.ppm_stretch.proofs.SteadyLemmas.{moves_then, refuses_one, refuses_then}
use Rattle.ppm_stretch.proofs.entering.begin.Goals as goal

fine_is : (b : Bool) → not b ≡ false → b ≡ true
fine_is true e = refl
fine_is false e = cc

fine_not : (b : Bool) → not b ≡ true → b ≡ false
fine_not true e = cc
fine_not false e = refl

pub load_finish-finish-requires-clause-looks : goal.load_finish-finish-requires-clause-looks
load_finish-finish-requires-clause-looks g c κs within = ap before_kind c.requires.kind

pub returns-then-number-clause-begun : goal.returns-then-number-clause-begun
returns-then-number-clause-begun g c = (
  moves_then g.W.Watch.told c.args.words.now.shared.key c.args.place.now.own c.args.mine.now.me c.load_finish-finish.new.mine.me c.load_header-number.new.mine.me
      c.args.watch.now c.load_finish-finish.new.watch c.load_header-number.new.watch 1 1 0 1 1 0 2 1 0 refl refl refl
      (c.load_finish-finish.ensures.moves (fine_is _ c.if-not-finish.false)) (c.load_header-number.ensures.moves c.if-number.true),
  c.load_header-number.ensures.stands
      ∙ ap (λ (kind : RestartKind). enters c.args.shape.now c.args.code.now c.args.place.now kind (slice_get c.args.code.now.capsules c.load_header-number.result.word)) c.requires.kind,
)

pub returns-else-finish-clause-begun : goal.returns-else-finish-clause-begun
returns-else-finish-clause-begun g c =
    let place = c.args.place.now in
    refuses_one g.W.Watch.told c.args.words.now.shared.key place.own c.args.mine.now.me c.load_finish-finish.new.mine.me c.args.watch.now c.load_finish-finish.new.watch 0 1 false false 2 (omega arith)
    c.requires.sits c.load_finish-finish.ensures.goes (c.load_finish-finish.ensures.refused c.if-finish.false) (
      c.load_finish-finish.ensures.sits_on,
      c.load_finish-finish.ensures.stands ∙ finish_is_over c.args.shape.now c.args.code.now place.own place.place (Some place.restart) c.load_finish-finish.result.word c.if-finish-ne0.true,
    )

pub returns-then-not-finish-clause-begun : goal.returns-then-not-finish-clause-begun
returns-then-not-finish-clause-begun g c =
    let place = c.args.place.now in
    refuses_one g.W.Watch.told c.args.words.now.shared.key place.own c.args.mine.now.me c.load_finish-finish.new.mine.me c.args.watch.now c.load_finish-finish.new.watch 0 1 false true 2 (omega arith)
    c.requires.sits c.load_finish-finish.ensures.goes (c.load_finish-finish.ensures.refused (fine_not _ c.if-not-finish.true)) (
      c.load_finish-finish.ensures.sits_on,
      λ done. header_lives c.args.shape.now c.args.code.now place c.args.header c.load_finish-finish.result.word c.requires.header c.if-finish-ne0.false (sym c.load_finish-finish.ensures.stands ∙ done),
    )

pub returns-else-number-clause-begun : goal.returns-else-number-clause-begun
returns-else-number-clause-begun g c =
    let k = c.args.words.now.shared.key in
    let place = c.args.place.now in
    let first = c.load_finish-finish.new in
    let second = c.load_header-number.new in
    refuses_then g.W.Watch.told k place.own c.args.mine.now.me first.mine.me second.mine.me c.args.watch.now first.watch second.watch 1 0 1 true 1 2 (omega arith)
    (c.load_finish-finish.ensures.moves (fine_is _ c.if-not-finish.false))
    (refuses_one g.W.Watch.told k place.own first.mine.me second.mine.me first.watch second.watch 1 0 false true 1 (omega arith) c.load_finish-finish.ensures.sits_on c.load_header-number.ensures.goes
    (c.load_header-number.ensures.refused c.if-number.false) (
      c.load_header-number.ensures.sits_on,
      λ done. enters_lives c.args.shape.now c.args.code.now place place.restart.kind c.args.frame c.args.copy (slice_get c.args.code.now.capsules c.load_header-number.result.word) c.requires.kind
          (sym c.load_header-number.ensures.stands ∙ done),
    ))
