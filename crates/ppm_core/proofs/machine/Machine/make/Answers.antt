use Rattle.std.proofs.Common.{◌∙◌, ◌<◌, length, if◌then◌else◌, refl, sym, ap, arith}
use Rattle.std.proofs.lemmas.Option.{slice_get_read}
use Rattle.ppm_core.specs.Machine.{Holding}
use Rattle.ppm_core.proofs.LocalLemmas.{one_changed}
use Rattle.ppm_core.proofs.TurnLemmas.{has_acted, turned_is, told_is}
use Rattle.ppm_core.proofs.machine.Machine.make.Goals as goal

-- the words and the processors are as they should be, and counts are turns
pub invariant_of-self : goal.invariant_of-self
invariant_of-self c =
    let same = ap (λ (m : Holding). m.shape.processors) c.self.view_is in
    let less : c.args.turn.processor < length c.self.inside.locals.items =
    omega (arith, c.requires.among.processor, c.self.invariant.1.count, same) in
    let at = slice_get_read c.self.inside.locals.items _ c.args.turn.processor c.index_mut-local.result.now refl less c.index_mut-local.ensures.value in
    let own = (c.self.invariant.1.each c.args.turn.processor c.index_mut-local.result.now at).own in (
      record { words_are = c.act_on-event.ensures.count; arrays_are = c.self.invariant.0.arrays_are },
      one_changed c.self.inside.shape c.self.inside.code c.self.inside.locals.items c.args.turn.processor c.act_on-event.new.local c.self.invariant.1
          c.act_on-event.ensures.holds (c.act_on-event.ensures.own ∙ own),
      record {
        forks_at_most = omega (arith, c.self.invariant.2.forks_at_most, c.forks_by-forks.ensures.bound);
        takes_at_most = omega (arith, c.self.invariant.2.takes_at_most, c.takes_by-takes.ensures.bound);
        work_at_most = omega (arith, c.self.invariant.2.work_at_most, c.count_of-works.ensures.bound);
      },
      c.self.invariant.3,
    )

-- the machine is that after the turn
pub returns-clause-machine : goal.returns-clause-machine
returns-clause-machine c =
    let same = ap (λ (m : Holding). m.shape.processors) c.self.view_is in
    let less : c.args.turn.processor < length c.self.inside.locals.items =
    omega (arith, c.requires.among.processor, c.self.invariant.1.count, same) in
    let at = slice_get_read c.self.inside.locals.items _ c.args.turn.processor c.index_mut-local.result.now refl less c.index_mut-local.ensures.value in
    let own = (c.self.invariant.1.each c.args.turn.processor c.index_mut-local.result.now at).own in
    rw (sym c.self.view_is) (
    turned_is _ c.args.turn c.index_mut-local.result.now c.act_on-event.new.local c.act_on-event.new.words.items
    c.forks_by-forks.result c.takes_by-takes.result c.count_of-works.result
    (has_acted _ c.args.turn _ _ _ at own c.act_on-event.ensures.words c.act_on-event.ensures.stands)
    (c.forks_by-forks.ensures.value c.self.inside.shape c.self.inside.code)
    (c.takes_by-takes.ensures.value c.self.inside.shape c.self.inside.code)
    (c.count_of-works.ensures.value
    ∙ ap (λ b. if b then 1 else 0) (c.is_work_by-work.ensures c.self.inside.shape c.self.inside.code))
    )

-- and what is told is the turn's
pub returns-clause-told : goal.returns-clause-told
returns-clause-told c =
    let same = ap (λ (m : Holding). m.shape.processors) c.self.view_is in
    let less : c.args.turn.processor < length c.self.inside.locals.items =
    omega (arith, c.requires.among.processor, c.self.invariant.1.count, same) in
    let at = slice_get_read c.self.inside.locals.items _ c.args.turn.processor c.index_mut-local.result.now refl less c.index_mut-local.ensures.value in
    let own = (c.self.invariant.1.each c.args.turn.processor c.index_mut-local.result.now at).own in
    let m : Holding = record {
      shape = c.self.inside.shape;
      code = c.self.inside.code;
      array_lengths = c.self.inside.array_lengths.items;
      words = c.self.inside.words.items;
      locals = c.self.inside.locals.items;
      forks = c.self.inside.forks;
      takes = c.self.inside.takes;
      work = c.self.inside.work;
      turns = c.self.inside.turns;
    } in
    rw (sym c.self.view_is) (
    told_is m c.args.turn c.index_mut-local.result.now c.act_on-event.new.local c.act_on-event.new.words.items
    c.act_on-event.result c.is_work_by-work.result c.next-next.result
    (has_acted m c.args.turn _ _ _ at own c.act_on-event.ensures.words c.act_on-event.ensures.stands)
    own
    c.act_on-event.ensures.event
    (c.is_work_by-work.ensures c.self.inside.shape c.self.inside.code)
    (c.next-next.ensures c.self.inside.shape c.self.inside.code)
    )
