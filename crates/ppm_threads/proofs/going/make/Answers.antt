use Rattle.std.proofs.Common.{ℕ, ◌∙◌, sym, subst}
use Rattle.ppm_table.specs.Shown.{deeds_of_processor, opening_of}
use Rattle.ppm_threads.specs.Going.{GaveUp}
use Rattle.ppm_threads.proofs.ActLemmas.{acts_obey, acts_grow, acts_more, acts_refused, some_told}
use Rattle.ppm_threads.proofs.going.make.Goals as goal

-- a processor that isn't done tells an event
pub unreachable-requires : goal.unreachable-requires
unreachable-requires g c = some_told _ (sym (c.turn-told.ensures.acted c.requires.lives).event ∙ c.in_default.is)

-- the watcher was told of the act, which is the next one
pub returns-then-hear-clause-obeys : goal.returns-then-hear-clause-obeys
returns-then-hear-clause-obeys g c = λ taken plan past victims a.
    let shared = c.args.crew.now.shared in
    let p = c.args.processor.now in
    let q = c.turn-told.new.processor in
    let acted = c.turn-told.ensures.acted c.requires.lives in (
      acts_obey shared p q c.args.act c.turn-told.result c.requires.of c.turn-told.ensures.of c.turn-told.ensures.own acted c.requires.lives c.requires.may
          plan c.args.crew.now.limits past c.args.pace.now c.count.new.self victims c.is_due-due.result a c.count.ensures.number
          (c.is_due-due.ensures shared.shape shared.code) c.count.ensures.pace,
      acts_grow shared p q c.args.act c.turn-told.result c.requires.of c.turn-told.ensures.of c.turn-told.ensures.own acted c.requires.lives c.requires.may
          plan c.args.crew.now.limits past c.args.pace.now victims (g.W.Watch.told c.args.watch.now) (g.W.Watch.told c.hear.new.watch)
          c.in-Some.event a c.in-Some.is (c.hear.ensures.heard c.if-hear.true),
      acts_more shared p q c.args.act c.turn-told.result c.requires.of c.turn-told.ensures.of c.turn-told.ensures.own acted c.requires.lives c.requires.may,
    )

-- or it refused, and the processor has quit
pub returns-clause-quits : goal.returns-clause-quits
returns-clause-quits g c = λ refused plan past victims a.
    let shared = c.args.crew.now.shared in
    let p = c.args.processor.now in
    let q = c.turn-told.new.processor in
    let acted = c.turn-told.ensures.acted c.requires.lives in
    acts_refused shared p q c.args.act c.turn-told.result c.requires.of c.turn-told.ensures.of c.turn-told.ensures.own acted c.requires.lives c.requires.may
    plan c.args.crew.now.limits past c.args.pace.now c.count.new.self victims c.is_due-due.result (g.W.Watch.told c.args.watch.now) (g.W.Watch.told c.hear.new.watch)
    (deeds_of_processor c.give_way.new.processor) a c.count.ensures.number (c.is_due-due.ensures shared.shape shared.code) c.count.ensures.pace
    (c.hear.ensures.refused c.if-hear.false)
    (subst (λ (n : ℕ). GaveUp (opening_of shared) n (deeds_of_processor q) (deeds_of_processor c.give_way.new.processor)) c.turn-told.ensures.own
    c.give_way.ensures.gave_up)
