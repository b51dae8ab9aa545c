use Rattle.std.proofs.Common.{◌∙◌, ℕ, ◌+◌, ◌-◌, ◌==◌, ◌≤◌, Bool, true, false, if◌then◌else◌, sym, refl, ap, subst, arith}
use Rattle.ppm_table.specs.Run.{stands_by, deeds_in, IsSeat}
use Rattle.ppm_stretch.specs.declared.way.Steps.{Steps}
use Rattle.ppm_stretch.specs.Rows.{GivesUp}
use Rattle.ppm_stretch.specs.Steady.{Moves, looks_behind}
use Rattle.ppm_stretch.proofs.SteadyLemmas.{moves_both, moves_idle, gives_up_behind}
use Rattle.ppm_stretch.proofs.rows.steps_along.Goals as goal

looks_few : (a work b m n : ℕ) → a ≤ m → b ≤ n → looks_behind a work b ≤ m + n
looks_few a work b m n f g = by (work == 0)
  where
    by : (z : Bool) → (if z then a + b else b) ≤ m + n
    by true = omega (arith, f, g)
    by false = omega (arith, g)

pub loop-made-preserved : goal.loop-made-preserved
loop-made-preserved g c =
    let k = c.args.words.now.shared.key in
    let i = c.loop-made.invariant in
    let own = c.args.local.now.own in
    let new = c.some_steps-more.new in
    let more = c.some_steps-more.result in
    let few = c.some_steps-more.ensures.few in
    let moves = subst (λ (n : ℕ). Moves g.W.Watch.told k n c.loop-made.mine.me new.mine.me c.loop-made.watch new.watch more.made more.work more.looks more.exchanged) i.8 (c.some_steps-more.ensures.makes c.if-more.false) in
    let looks = looks_few c.loop-made.looks more.work more.looks c.loop-made.made more.made i.2 few.2 in (
      omega (arith, i.0, few.0),
      omega (arith, i.1, few.1),
      omega (arith, c.looks_behind-looks.ensures, looks),
      c.some_steps-more.ensures.table ∙ i.3,
      subst (λ (b : Bool). Moves g.W.Watch.told k own c.args.mine.now.me new.mine.me c.args.watch.now new.watch (c.loop-made.made + more.made) (c.loop-made.work + more.work) c.looks_behind-looks.result b)
          (sym c.one_of-exchanged.ensures)
          (moves_both g.W.Watch.told k own c.args.mine.now.me c.loop-made.mine.me new.mine.me c.args.watch.now c.loop-made.watch new.watch
          c.loop-made.made more.made c.loop-made.work more.work c.loop-made.looks more.looks (c.loop-made.made + more.made) (c.loop-made.work + more.work) c.looks_behind-looks.result c.loop-made.exchanged more.exchanged refl refl
          (sym c.looks_behind-looks.ensures) i.4 moves),
      subst (λ (n : ℕ). IsSeat n new.mine.me) i.8 c.some_steps-more.ensures.sits_on,
      c.some_steps-more.ensures.stands_on ∙ ap (λ (n : ℕ). stands_by k n (deeds_in new.mine.me.0)) i.8,
      c.some_steps-more.ensures.holds,
      c.some_steps-more.ensures.own_stays ∙ i.8,
    )

pub returns-then-more-clause-stops : goal.returns-then-more-clause-stops
returns-then-more-clause-stops g c = λ refused.
    let k = c.args.words.now.shared.key in
    let i = c.loop-made.invariant in
    let new = c.some_steps-more.new in
    gives_up_behind g.W.Watch.told k c.args.local.now.own c.args.mine.now.me c.loop-made.mine.me new.mine.me c.args.watch.now c.loop-made.watch new.watch c.loop-made.made c.loop-made.work c.loop-made.looks c.loop-made.exchanged
    (c.args.most - c.loop-made.made) c.args.most (omega (arith, i.0)) i.4
    (subst (λ (n : ℕ). GivesUp g.W.Watch.told k n c.loop-made.mine.me new.mine.me c.loop-made.watch new.watch (c.args.most - c.loop-made.made)) i.8 (c.some_steps-more.ensures.stops c.if-more.true))

pub returns-then-more-eq0-clause-makes : goal.returns-then-more-eq0-clause-makes
returns-then-more-eq0-clause-makes g c = λ fine.
    let k = c.args.words.now.shared.key in
    let i = c.loop-made.invariant in
    let own = c.args.local.now.own in
    let new = c.some_steps-more.new in
    let more = c.some_steps-more.result in
    let few = c.some_steps-more.ensures.few in
    let moves = subst (λ (n : ℕ). Moves g.W.Watch.told k n c.loop-made.mine.me new.mine.me c.loop-made.watch new.watch more.made more.work more.looks more.exchanged) i.8 (c.some_steps-more.ensures.makes c.if-more.false) in
    subst (λ (steps : Steps). Moves g.W.Watch.told k own c.args.mine.now.me new.mine.me c.args.watch.now new.watch steps.made steps.work steps.looks steps.exchanged) (sym c.row.ensures)
    (moves_idle g.W.Watch.told k own c.args.mine.now.me c.loop-made.mine.me new.mine.me c.args.watch.now c.loop-made.watch new.watch
    c.loop-made.made more.made c.loop-made.work more.work c.loop-made.looks more.looks c.loop-made.exchanged more.exchanged c.if-more-eq0.true few.1 few.2 i.4 moves)

pub returns-then-more-eq0-clause-on : goal.returns-then-more-eq0-clause-on
returns-then-more-eq0-clause-on g c = λ fine few. c.some_steps-more.ensures.on c.if-more.false c.if-more-eq0.true
