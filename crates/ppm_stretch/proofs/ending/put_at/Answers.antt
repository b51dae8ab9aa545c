use Rattle.std.proofs.Common.{false, true, ◌∙◌, sym, refl, arith}
use Rattle.ppm_step.specs.Frames.{Stores}
use Rattle.ppm_stretch.proofs.SteadyLemmas.{refuses_one, went_lives, stands_there, stands_broken, stores_same}
use Rattle.ppm_stretch.proofs.ending.put_at.Goals as goal

pub returns-then-not-cell_is_there-clause-ended : goal.returns-then-not-cell_is_there-clause-ended
returns-then-not-cell_is_there-clause-ended g c = λ left stands. (
  refl,
  refl,
  stands_broken c.args.shape.now c.args.place.now _ (Stores c.args.put.cell c.args.put.content left) stands c.if-not-cell_is_there.ensures,
)

pub store_next-requires-clause-stores : goal.store_next-requires-clause-stores
store_next-requires-clause-stores g c κs within =
    let r = c.requires.stands in
    let rest = Stores c.args.put.cell c.args.put.content r.rest in
    record {
      rest = rest;
      stands = stands_there c.args.shape.now c.args.place.now _ rest r.stands c.if-not-cell_is_there.ensures;
      wants = stores_same _ _ _ _ c.address-at.ensures.value c.word.ensures;
    }

pub returns-then-store_next-clause-ended : goal.returns-then-store_next-clause-ended
returns-then-store_next-clause-ended g c = λ left stands.
    let rest = Stores c.args.put.cell c.args.put.content left in
    let at = stands_there c.args.shape.now c.args.place.now _ rest stands c.if-not-cell_is_there.ensures in
    let wants = stores_same _ _ _ _ c.address-at.ensures.value c.word.ensures in
    let made = c.store_next.ensures.made rest at wants in
    (made.2 c.if-store_next.true, made.0)

pub returns-else-store_next-clause-ended : goal.returns-else-store_next-clause-ended
returns-else-store_next-clause-ended g c = λ left stands.
    let rest = Stores c.args.put.cell c.args.put.content left in
    let at = stands_there c.args.shape.now c.args.place.now _ rest stands c.if-not-cell_is_there.ensures in
    let wants = stores_same _ _ _ _ c.address-at.ensures.value c.word.ensures in
    let made = c.store_next.ensures.made rest at wants in
    refuses_one g.W.Watch.told c.args.words.now.shared.key c.args.place.now.own c.args.mine.now.me c.store_next.new.mine.me c.args.watch.now c.store_next.new.watch 1 0 false true 1 (omega arith) c.requires.sits made.1
    (c.store_next.ensures.refused c.if-store_next.false) (made.1.sits, λ done. went_lives c.args.shape.now c.args.place.now 0 rest (sym made.0 ∙ done))
