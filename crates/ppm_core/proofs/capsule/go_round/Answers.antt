use Rattle.std.proofs.Common.{◌≡◌, ◌∙◌, sym, ap, arith}
use Rattle.ppm_cells.specs.Restart.{restart_word}
use Rattle.ppm_cells.specs.declared.restart.Restart.{Restart}
use Rattle.ppm_engine.specs.Waiting.{goes_round}
use Rattle.ppm_core.specs.Moments.{moment}
use Rattle.ppm_core.proofs.CapsuleLemmas.{block_same, none, turned_back, turned_once, turned_twice, finish_stays}
use Rattle.ppm_core.proofs.MomentLemmas.{both}
use Rattle.ppm_core.proofs.capsule.go_round.Goals as goal

pub returns-then-not-next_is_there-clause-turned : goal.returns-then-not-next_is_there-clause-turned
returns-then-not-next_is_there-clause-turned c =
    let s = c.args.shape.now in
    let code = c.args.code.now in
    let words = c.args.words.now.items in (
      omega arith,
      none s code c.args.seat.now (ap (moment words) (turned_back s code c.args.seat.now c.args.home.now c.args.capsule 0 (c.if-not-next_is_there.ensures code c.args.capsule))),
    )

pub store-requires-clause-within : goal.store-requires-clause-within
store-requires-clause-within c =
    let e = block_same _ _ c.header.ensures.value in
    let t = c.if-not-next_is_there.ensures c.args.code.now c.args.capsule in
    grind (arith, e, t)

pub returns-then-not-next_is_there-2-clause-turned : goal.returns-then-not-next_is_there-2-clause-turned
returns-then-not-next_is_there-2-clause-turned c =
    let s = c.args.shape.now in
    let code = c.args.code.now in
    let seat = c.args.seat.now in
    let home = c.args.home.now in
    let capsule = c.args.capsule in
    let words = c.args.words.now.items in
    let words' = c.store.new.words.items in (
      omega arith,
      both s code seat.own
          (turned_once s code seat home capsule words words' c.header.result c.from.result c.requires.finish (c.if-not-next_is_there.ensures code capsule)
          c.header.ensures.value c.from.ensures c.store.ensures.words)
          (none s code seat (ap (moment words') (turned_back s code seat home capsule 1 (c.if-not-next_is_there-2.ensures code capsule)))),
    )

pub returns-clause-turned : goal.returns-clause-turned
returns-clause-turned c =
    let s = c.args.shape.now in
    let code = c.args.code.now in
    let seat = c.args.seat.now in
    let home = c.args.home.now in
    let capsule = c.args.capsule in
    let words = c.args.words.now.items in
    let words' = c.store.new.words.items in
    let is : goes_round seat home ≡ c.restart-restart.result =
    sym (c.restart-restart.ensures ∙ (λ i. record { kind = c.goes_round.ensures i; bottom = seat.restart.bottom })) in
    both s code seat.own
    (turned_once s code seat home capsule words words' c.header.result c.from.result c.requires.finish (c.if-not-next_is_there.ensures code capsule)
    c.header.ensures.value c.from.ensures c.store.ensures.words)
    (turned_twice s code seat home capsule words' c.store-2.new.words.items c.address-at.result c.pack.result
    (finish_stays s code seat home capsule words words' c.header.result c.from.result c.requires.finish c.header.ensures.value c.store.ensures.words)
    (c.if-not-next_is_there-2.ensures code capsule) c.address-at.ensures.value (c.pack.ensures ∙ ap (λ (r : Restart). restart_word r) (sym is)) c.store-2.ensures.words)
