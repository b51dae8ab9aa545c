use Rattle.std.proofs.Common.{false, true, ◌∙◌, ◌≤◌, sym, refl, arith}
use Rattle.ppm_cells.specs.Cells.{word_count}
use Rattle.ppm_step.specs.Frames.{Installs}
use Rattle.ppm_step.proofs.ThereLemmas.{restart_fits}
use Rattle.ppm_stretch.proofs.SteadyLemmas.{refuses_one, went_lives, stands_there, stands_broken, stores_same}
use Rattle.ppm_stretch.proofs.ending.install_at.Goals as goal

pub returns-then-not-restart_there-clause-ended : goal.returns-then-not-restart_there-clause-ended
returns-then-not-restart_there-clause-ended g c = λ left. (
  refl,
  refl,
  stands_broken c.args.shape.now c.args.place.now _ (Installs c.args.kind) c.requires.stands c.if-not-restart_there.ensures,
)

pub store_next-requires-clause-stores : goal.store_next-requires-clause-stores
store_next-requires-clause-stores g c κs within =
    let rest = Installs c.args.kind in
    let at = stands_there c.args.shape.now c.args.place.now _ rest c.requires.stands c.if-not-restart_there.ensures in
    let wants = stores_same _ _ _ _ c.address-at.ensures.value c.restart_word-word.ensures in
    record { rest = rest; stands = at; wants = wants }

pub returns-then-store_next-clause-ended : goal.returns-then-store_next-clause-ended
returns-then-store_next-clause-ended g c = λ left.
    let rest = Installs c.args.kind in
    let at = stands_there c.args.shape.now c.args.place.now _ rest c.requires.stands c.if-not-restart_there.ensures in
    let wants = stores_same _ _ _ _ c.address-at.ensures.value c.restart_word-word.ensures in
    let made = c.store_next.ensures.made rest at wants in
    let few : word_count c.args.shape.now ≤ 75497921 = omega (arith, c.word_count.ensures.value, c.word_count.ensures.bound) in
    (made.2 c.if-store_next.true, made.0, restart_fits c.args.shape.now few _ (sym c.if-not-restart_there.ensures))

pub returns-else-store_next-clause-ended : goal.returns-else-store_next-clause-ended
returns-else-store_next-clause-ended g c = λ left.
    let rest = Installs c.args.kind in
    let at = stands_there c.args.shape.now c.args.place.now _ rest c.requires.stands c.if-not-restart_there.ensures in
    let wants = stores_same _ _ _ _ c.address-at.ensures.value c.restart_word-word.ensures in
    let made = c.store_next.ensures.made rest at wants in
    refuses_one g.W.Watch.told c.args.words.now.shared.key c.args.place.now.own c.args.mine.now.me c.store_next.new.mine.me c.args.watch.now c.store_next.new.watch 1 0 false true 1 (omega arith) c.requires.sits made.1
    (c.store_next.ensures.refused c.if-store_next.false) (made.1.sits, λ done. went_lives c.args.shape.now c.args.place.now 0 rest (sym made.0 ∙ done))
