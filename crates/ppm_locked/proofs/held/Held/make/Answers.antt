use Rattle.std.proofs.Common.{◌≡◌, ◌∙◌, ◌+◌, ◌^◌, ◌<◌, ◌++◌, ◌∷◌, [], if◌then◌else◌, Bool, get_or, length, set, sym, ap, subst, arith}
use Rattle.std.proofs.lemmas.Bool.Decides.{nat_tests}
use Rattle.std.proofs.lemmas.Grind.{get_or_default_zero}
use Rattle.ppm_core.specs.Machine.{seen}
use Rattle.ppm_core.specs.Situation.{turned}
use Rattle.ppm_step.specs.declared.turn.Turn.{Turn}
use Rattle.ppm_locked.specs.Held.{IsTold}
use Rattle.ppm_locked.proofs.RunLemmas.{turn_is, books, keeps, told_so, turns_within}
use Rattle.ppm_locked.proofs.EndLemmas.{ended_on, ends_where_done}
use Rattle.ppm_locked.proofs.held.Held.make.Goals as goal
use Rattle.ppm_locked.proofs.held.Held.make.Goals.{then-told, else-told, then-turns-ge-TURN_LIMIT, else-turns-ge-TURN_LIMIT}

pub invariant_of-self : goal.invariant_of-self
invariant_of-self g c =
    let old = c.self.inside in
    let m = seen old.machine in
    let own = c.processor-processor.result in
    let read = c.index-made.result.now in
    let turn : Turn = record { processor = own; act = c.act_done-act.result } in
    let work_is = ap (λ t. t.work) c.turn-told.ensures.told in
    let own_is = c.processor-processor.ensures.value in
    let inside : own < length old.spent.items = subst (λ k. own < k) (sym c.self.invariant.0.1.count) c.processor-processor.ensures.range in
    let read_is = c.index-made.ensures ∙ get_or_default_zero old.spent.items own read inside ∙ ap (λ k. get_or old.spent.items k 0) own_is in
    let is = turn_is g.L.Keeping.most m (get_or old.spent.items c.args.seat.now.processor 0) c.args.seat.now.processor c.args.act own read old.most c.next-next.result c.act_done-act.result
    own_is read_is c.self.invariant.1 c.next-next.ensures c.act_done-act.ensures in
    let within = subst (λ k. k < g.L.Keeping.first.shape.processors) own_is c.processor-processor.ensures.range in
    elim c.if-told.branch [
      | then-told w ↦
          let k = w.self-inside-is in
          let comes = ap (λ i. seen i.machine) k ∙ c.turn-told.ensures.machine in (
            keeps g.L.Keeping.first g.L.Keeping.most m old.history old.spent.items c.args.seat.now.processor c.args.act (seen c.if-told.self-inside.machine) c.if-told.self-inside.history
                c.if-told.self-inside.spent.items turn c.turn-told.result.work own read within c.requires c.self.invariant.0 is comes (ap (λ i. i.history) k ∙ c.see.ensures.added) work_is own_is read_is
                (ap (λ i. i.spent.items) k ∙ ap (λ (b : Bool). if b then set old.spent.items own (read + 1) else old.spent.items) (sym w.if-told.true)),
            ap (λ i. i.most) k ∙ c.self.invariant.1,
            books m (seen c.if-told.self-inside.machine) turn c.turn-told.result.work old.book.total c.if-told.self-inside.book.total c.book.new.book.total comes work_is c.self.invariant.2 (ap (λ i. i.book.total) k) c.book.ensures.total,
            ap (λ i. i.rest.parts + g.L.Keeping.first.shape.processors) k ∙ c.self.invariant.3,
            ap (λ i. i.rest.amount) k ∙ c.self.invariant.4,
            λ none. ap (λ i. i.ends.total) k
                ∙ c.self.invariant.5 (ended_on g.L.Keeping.first g.L.Keeping.most m (seen c.if-told.self-inside.machine) old.spent.items turn c.self.invariant.6 (old.history, c.self.invariant.0) comes none),
            c.self.invariant.6,
          )
      | else-told w ↦
          let k = w.self-inside-is in
          let comes = ap (λ i. seen i.machine) k ∙ c.turn-told.ensures.machine in (
            keeps g.L.Keeping.first g.L.Keeping.most m old.history old.spent.items c.args.seat.now.processor c.args.act (seen c.if-told.self-inside.machine) c.if-told.self-inside.history
                c.if-told.self-inside.spent.items turn c.turn-told.result.work own read within c.requires c.self.invariant.0 is comes (ap (λ i. i.history) k ∙ c.see.ensures.added) work_is own_is read_is
                (ap (λ i. i.spent.items) k ∙ ap (λ (b : Bool). if b then set old.spent.items own (read + 1) else old.spent.items) (sym w.if-told.false)),
            ap (λ i. i.most) k ∙ c.self.invariant.1,
            books m (seen c.if-told.self-inside.machine) turn c.turn-told.result.work old.book.total c.if-told.self-inside.book.total c.book.new.book.total comes work_is c.self.invariant.2 (ap (λ i. i.book.total) k) c.book.ensures.total,
            ap (λ i. i.rest.parts + g.L.Keeping.first.shape.processors) k ∙ c.self.invariant.3,
            ap (λ i. i.rest.amount) k ∙ c.self.invariant.4,
            λ none. ap (λ i. i.ends.total) k
                ∙ c.self.invariant.5 (ended_on g.L.Keeping.first g.L.Keeping.most m (seen c.if-told.self-inside.machine) old.spent.items turn c.self.invariant.6 (old.history, c.self.invariant.0) comes none),
            c.self.invariant.6,
          )
    ]

pub returns-clause-ended : goal.returns-clause-ended
returns-clause-ended g c =
    let old = c.self.inside in
    let m = seen old.machine in
    let own = c.processor-processor.result in
    let read = c.index-made.result.now in
    let turn : Turn = record { processor = own; act = c.act_done-act.result } in
    let own_is = c.processor-processor.ensures.value in
    let inside : own < length old.spent.items = subst (λ k. own < k) (sym c.self.invariant.0.1.count) c.processor-processor.ensures.range in
    let read_is = c.index-made.ensures ∙ get_or_default_zero old.spent.items own read inside ∙ ap (λ k. get_or old.spent.items k 0) own_is in
    let made = get_or old.spent.items c.args.seat.now.processor 0 in
    let is = turn_is g.L.Keeping.most m made c.args.seat.now.processor c.args.act own read old.most c.next-next.result c.act_done-act.result
    own_is read_is c.self.invariant.1 c.next-next.ensures c.act_done-act.ensures in
    let comes : seen c.if-told.self-inside.machine ≡ turned m turn = elim c.if-told.branch [
      | then-told w ↦ ap (λ i. seen i.machine) w.self-inside-is ∙ c.turn-told.ensures.machine
      | else-told w ↦ ap (λ i. seen i.machine) w.self-inside-is ∙ c.turn-told.ensures.machine
    ] in
    ends_where_done g.L.Keeping.first g.L.Keeping.most m (seen c.if-told.self-inside.machine) old.spent.items made c.args.seat.now.processor c.args.act c.turn-told.result turn
    c.self.invariant.6 (old.history, c.self.invariant.0) c.array_lengths.ensures.fit.words_are is comes c.turn-told.ensures.told

pub see-requires : goal.see-requires
see-requires g c = turns_within g.L.Keeping.first g.L.Keeping.most c.self.inside.history (seen c.self.inside.machine) c.turns.result c.self.invariant.0.0 c.turns.ensures less
  where
    less : c.turns.result < 2 ^ 62
    less = elim c.if-turns-ge-TURN_LIMIT.branch [
      | then-turns-ge-TURN_LIMIT w ↦ absurd w.wait_for_good.ensures
      | else-turns-ge-TURN_LIMIT w ↦ grind (arith, nat_tests, w.if-turns-ge-TURN_LIMIT.false)
    ]

pub returns-clause-run : goal.returns-clause-run
returns-clause-run g c = (invariant_of-self g c).0.0

pub returns-clause-told : goal.returns-clause-told
returns-clause-told g c =
    let old = c.self.inside in
    let m = seen old.machine in
    let own = c.processor-processor.result in
    let read = c.index-made.result.now in
    let turn : Turn = record { processor = own; act = c.act_done-act.result } in
    let own_is = c.processor-processor.ensures.value in
    let inside : own < length old.spent.items = subst (λ k. own < k) (sym c.self.invariant.0.1.count) c.processor-processor.ensures.range in
    let read_is = c.index-made.ensures ∙ get_or_default_zero old.spent.items own read inside ∙ ap (λ k. get_or old.spent.items k 0) own_is in
    let is = turn_is g.L.Keeping.most m (get_or old.spent.items c.args.seat.now.processor 0) c.args.seat.now.processor c.args.act own read old.most c.next-next.result c.act_done-act.result
    own_is read_is c.self.invariant.1 c.next-next.ensures c.act_done-act.ensures in
    let within = subst (λ k. k < g.L.Keeping.first.shape.processors) own_is c.processor-processor.ensures.range in
    let later_is : c.if-told.self-inside.history ≡ old.history ++ turn ∷ [] = elim c.if-told.branch [
      | then-told w ↦ ap (λ i. i.history) w.self-inside-is ∙ c.see.ensures.added
      | else-told w ↦ ap (λ i. i.history) w.self-inside-is ∙ c.see.ensures.added
    ] in
    subst (λ h. IsTold g.L.Keeping.first g.L.Keeping.most h c.args.seat.now.processor c.args.act c.if-told.self-inside.history c.turn-told.result)
    (ap (λ k. k.history) c.self.view_is)
    (told_so g.L.Keeping.first g.L.Keeping.most m old.history old.spent.items c.args.seat.now.processor c.args.act c.if-told.self-inside.history turn c.turn-told.result within
    c.self.invariant.0 is later_is c.turn-told.ensures.told)
