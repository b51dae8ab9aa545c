use Rattle.std.proofs.Common.{ℕ, refl, subst, arith}
use Rattle.ppm_stretch.specs.Rows.{GivesUp}
use Rattle.ppm_stretch.specs.Steady.{Moves}
use Rattle.ppm_stretch.proofs.SteadyLemmas.{moves_behind, gives_up_behind}
use Rattle.ppm_stretch.proofs.rows.some_steps.Goals as goal

pub returns-then-is_any-clause-on : goal.returns-then-is_any-clause-on
returns-then-is_any-clause-on g c = λ fine none.
    let some = c.if-is_any.ensures.some refl fine in
    absurd (omega (arith, some, none))

pub returns-clause-makes : goal.returns-clause-makes
returns-clause-makes g c = λ fine.
    let k = c.args.words.now.shared.key in
    let own = c.args.local.now.own in
    let first = c.frame_steps-framed in
    let other = c.other_step in
    let none = c.if-is_any.ensures.none refl in
    moves_behind g.W.Watch.told k own c.args.mine.now.me first.new.mine.me other.new.mine.me c.args.watch.now first.new.watch other.new.watch
    first.result.made other.result.made first.result.work other.result.work first.result.looks other.result.looks first.result.exchanged other.result.exchanged
    (omega (arith, none.1)) first.ensures.few.1 first.ensures.few.2 (first.ensures.makes none.0)
    (subst (λ (n : ℕ). Moves g.W.Watch.told k n first.new.mine.me other.new.mine.me first.new.watch other.new.watch other.result.made other.result.work other.result.looks other.result.exchanged)
    first.ensures.own_stays (other.ensures.makes fine))

pub returns-clause-stops : goal.returns-clause-stops
returns-clause-stops g c = λ refused.
    let k = c.args.words.now.shared.key in
    let own = c.args.local.now.own in
    let first = c.frame_steps-framed in
    let other = c.other_step in
    let none = c.if-is_any.ensures.none refl in
    gives_up_behind g.W.Watch.told k own c.args.mine.now.me first.new.mine.me other.new.mine.me c.args.watch.now first.new.watch other.new.watch
    first.result.made first.result.work first.result.looks first.result.exchanged 1 c.args.most (omega (arith, none.1, c.requires.most)) (first.ensures.makes none.0)
    (subst (λ (n : ℕ). GivesUp g.W.Watch.told k n first.new.mine.me other.new.mine.me first.new.watch other.new.watch 1) first.ensures.own_stays (other.ensures.stops refused))
