use Rattle.std.proofs.Common.{false, ℕ, true, ◌≡◌, ◌∙◌, sym, ap, arith, refl}
use Rattle.ppm_cells.specs.Restart.{restart_word}
use Rattle.ppm_cells.specs.declared.cell.Cell.TheVariants.{BlockWord}
use Rattle.ppm_cells.specs.declared.restart.Restart.{Restart}
use Rattle.ppm_code.specs.declared.act.End.TheVariants.{Next}
use Rattle.ppm_step.specs.Frames.{ending}
use Rattle.ppm_engine.specs.Waiting.{goes_round}
use Rattle.ppm_stretch.proofs.SteadyLemmas.{moves_then, moves_none, refuses_one, refuses_then, went_lives, stands_there, stands_broken, stores_same}
use Rattle.ppm_stretch.proofs.entering.go_round.Goals as goal

block_same : (a b : ℕ) → BlockWord a ≡ BlockWord b → a ≡ b
block_same a b e = cc

pub returns-then-not-next_is_there-clause-turned : goal.returns-then-not-next_is_there-clause-turned
returns-then-not-next_is_there-clause-turned g c = (
  omega arith,
  moves_none g.W.Watch.told c.args.words.now.shared.key c.args.place.now.own c.args.mine.now.me c.args.watch.now c.requires.sits,
  stands_broken c.args.shape.now c.args.place.now _ (ending c.args.code.now c.args.home.now (Next c.args.capsule) 0) c.requires.stands
      (c.if-not-next_is_there.ensures c.args.code.now c.args.capsule),
)

pub store_next-requires-clause-within : goal.store_next-requires-clause-within
store_next-requires-clause-within g c κs within =
    let e = block_same _ _ c.header.ensures.value in
    let t = c.if-not-next_is_there.ensures c.args.code.now c.args.capsule in
    grind (arith, e, t)

pub store_next-requires-clause-stores : goal.store_next-requires-clause-stores
store_next-requires-clause-stores g c κs within =
    let rest = ending c.args.code.now c.args.home.now (Next c.args.capsule) 0 in
    let e = block_same _ _ c.header.ensures.value in
    let at = stands_there c.args.shape.now c.args.place.now _ rest c.requires.stands (c.if-not-next_is_there.ensures c.args.code.now c.args.capsule) in
    let wants = stores_same _ _ _ _ e c.from-number.ensures in
    record { rest = rest; stands = at; wants = wants }

pub returns-then-not-store_next-clause-turned : goal.returns-then-not-store_next-clause-turned
returns-then-not-store_next-clause-turned g c =
    let rest = ending c.args.code.now c.args.home.now (Next c.args.capsule) 0 in
    let e = block_same _ _ c.header.ensures.value in
    let at = stands_there c.args.shape.now c.args.place.now _ rest c.requires.stands (c.if-not-next_is_there.ensures c.args.code.now c.args.capsule) in
    let wants = stores_same _ _ _ _ e c.from-number.ensures in
    let made = c.store_next.ensures.made rest at wants in
    refuses_one g.W.Watch.told c.args.words.now.shared.key c.args.place.now.own c.args.mine.now.me c.store_next.new.mine.me c.args.watch.now c.store_next.new.watch 1 0 false true 2 (omega arith) c.requires.sits made.1
    (c.store_next.ensures.refused c.if-not-store_next.true) (made.1.sits, λ done. went_lives c.args.shape.now c.args.place.now 0 rest (sym made.0 ∙ done))

pub returns-then-not-next_is_there-2-clause-turned : goal.returns-then-not-next_is_there-2-clause-turned
returns-then-not-next_is_there-2-clause-turned g c =
    let rest = ending c.args.code.now c.args.home.now (Next c.args.capsule) 0 in
    let e = block_same _ _ c.header.ensures.value in
    let at = stands_there c.args.shape.now c.args.place.now _ rest c.requires.stands (c.if-not-next_is_there.ensures c.args.code.now c.args.capsule) in
    let wants = stores_same _ _ _ _ e c.from-number.ensures in
    let made = c.store_next.ensures.made rest at wants in
    let more = ending c.args.code.now c.args.home.now (Next c.args.capsule) 1 in
    let at_more = stands_broken c.args.shape.now c.args.place.now _ more made.0 (c.if-not-next_is_there-2.ensures c.args.code.now c.args.capsule) in
    (omega arith, made.2 c.if-not-store_next.false, at_more)

pub store_next-requires-2-clause-sits : goal.store_next-requires-2-clause-sits
store_next-requires-2-clause-sits g c κs within =
    let rest = ending c.args.code.now c.args.home.now (Next c.args.capsule) 0 in
    let e = block_same _ _ c.header.ensures.value in
    let at = stands_there c.args.shape.now c.args.place.now _ rest c.requires.stands (c.if-not-next_is_there.ensures c.args.code.now c.args.capsule) in
    let wants = stores_same _ _ _ _ e c.from-number.ensures in
    let made = c.store_next.ensures.made rest at wants in
    made.1.sits

pub store_next-requires-2-clause-stores : goal.store_next-requires-2-clause-stores
store_next-requires-2-clause-stores g c κs within =
    let rest = ending c.args.code.now c.args.home.now (Next c.args.capsule) 0 in
    let e = block_same _ _ c.header.ensures.value in
    let at = stands_there c.args.shape.now c.args.place.now _ rest c.requires.stands (c.if-not-next_is_there.ensures c.args.code.now c.args.capsule) in
    let wants = stores_same _ _ _ _ e c.from-number.ensures in
    let made = c.store_next.ensures.made rest at wants in
    let more = ending c.args.code.now c.args.home.now (Next c.args.capsule) 1 in
    let at_more = stands_there c.args.shape.now c.args.place.now _ more made.0 (c.if-not-next_is_there-2.ensures c.args.code.now c.args.capsule) in
    let is : goes_round c.args.place.now c.args.home.now ≡ c.restart-restart.result =
    sym (c.restart-restart.ensures ∙ (λ i. record { kind = c.goes_round.ensures i; bottom = c.args.place.now.restart.bottom })) in
    let wants_more = stores_same _ _ _ _ c.address-at.ensures.value (c.pack.ensures ∙ ap (λ (r : Restart). restart_word r) (sym is)) in
    record { rest = more; stands = at_more; wants = wants_more }

pub returns-then-store_next-clause-turned : goal.returns-then-store_next-clause-turned
returns-then-store_next-clause-turned g c =
    let rest = ending c.args.code.now c.args.home.now (Next c.args.capsule) 0 in
    let e = block_same _ _ c.header.ensures.value in
    let at = stands_there c.args.shape.now c.args.place.now _ rest c.requires.stands (c.if-not-next_is_there.ensures c.args.code.now c.args.capsule) in
    let wants = stores_same _ _ _ _ e c.from-number.ensures in
    let made = c.store_next.ensures.made rest at wants in
    let more = ending c.args.code.now c.args.home.now (Next c.args.capsule) 1 in
    let at_more = stands_there c.args.shape.now c.args.place.now _ more made.0 (c.if-not-next_is_there-2.ensures c.args.code.now c.args.capsule) in
    let is : goes_round c.args.place.now c.args.home.now ≡ c.restart-restart.result =
    sym (c.restart-restart.ensures ∙ (λ i. record { kind = c.goes_round.ensures i; bottom = c.args.place.now.restart.bottom })) in
    let wants_more = stores_same _ _ _ _ c.address-at.ensures.value (c.pack.ensures ∙ ap (λ (r : Restart). restart_word r) (sym is)) in
    let made_more = c.store_next-2.ensures.made more at_more wants_more in (
      moves_then g.W.Watch.told c.args.words.now.shared.key c.args.place.now.own c.args.mine.now.me c.store_next.new.mine.me c.store_next-2.new.mine.me
          c.args.watch.now c.store_next.new.watch c.store_next-2.new.watch 1 1 1 1 0 0 2 2 0 refl refl refl (made.2 c.if-not-store_next.false) (made_more.2 c.if-store_next.true),
      made_more.0,
    )

pub returns-else-store_next-clause-turned : goal.returns-else-store_next-clause-turned
returns-else-store_next-clause-turned g c =
    let rest = ending c.args.code.now c.args.home.now (Next c.args.capsule) 0 in
    let e = block_same _ _ c.header.ensures.value in
    let at = stands_there c.args.shape.now c.args.place.now _ rest c.requires.stands (c.if-not-next_is_there.ensures c.args.code.now c.args.capsule) in
    let wants = stores_same _ _ _ _ e c.from-number.ensures in
    let made = c.store_next.ensures.made rest at wants in
    let more = ending c.args.code.now c.args.home.now (Next c.args.capsule) 1 in
    let at_more = stands_there c.args.shape.now c.args.place.now _ more made.0 (c.if-not-next_is_there-2.ensures c.args.code.now c.args.capsule) in
    let is : goes_round c.args.place.now c.args.home.now ≡ c.restart-restart.result =
    sym (c.restart-restart.ensures ∙ (λ i. record { kind = c.goes_round.ensures i; bottom = c.args.place.now.restart.bottom })) in
    let wants_more = stores_same _ _ _ _ c.address-at.ensures.value (c.pack.ensures ∙ ap (λ (r : Restart). restart_word r) (sym is)) in
    let made_more = c.store_next-2.ensures.made more at_more wants_more in
    refuses_then g.W.Watch.told c.args.words.now.shared.key c.args.place.now.own c.args.mine.now.me c.store_next.new.mine.me c.store_next-2.new.mine.me
    c.args.watch.now c.store_next.new.watch c.store_next-2.new.watch 1 1 0 true 1 2 (omega arith) (made.2 c.if-not-store_next.false)
    (refuses_one g.W.Watch.told c.args.words.now.shared.key c.args.place.now.own c.store_next.new.mine.me c.store_next-2.new.mine.me c.store_next.new.watch c.store_next-2.new.watch 1 0 false true 1 (omega arith) made.1.sits made_more.1
    (c.store_next-2.ensures.refused c.if-store_next.false) (made_more.1.sits, λ done. went_lives c.args.shape.now c.args.place.now 0 more (sym made_more.0 ∙ done)))
