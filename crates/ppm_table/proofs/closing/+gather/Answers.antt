use Rattle.std.proofs.Common.{arith, ◌∙◌, sym, ap, ◌∷◌, [], List, subst}
use Rattle.ppm_table.specs.Shown.{AllOf, AllHeld, Has}
use Rattle.ppm_table.specs.Run.{records_in, both_of, Mine}
use Rattle.ppm_table.specs.declared.view.View.{View}
use Rattle.ppm_table.specs.declared.processor.Processor.{Processor}
use Rattle.ppm_table.proofs.Orders.{all_of_append, held_append, own, own_held, has_left, has_right}
use Rattle.ppm_table.proofs.closing.+gather.Goals as goal

pub join-requires-clause-table : goal.join-requires-clause-table
join-requires-clause-table t c =
    let all = all_of_append c.args.words.now.shared.table_id c.pop.new.self.items (c.in-Some.last ∷ []) (subst (AllOf c.args.words.now.shared.table_id) c.in-Some.ensures.items c.requires.rest) in
    (c.requires.table.0, c.requires.table.1, ap (λ x. x.table_id) c.into_seat.ensures ∙ all.1.0 ∙ sym c.requires.table.0)

pub gather-requires : goal.gather-requires
gather-requires t c =
    let all = all_of_append c.args.words.now.shared.table_id c.pop.new.self.items (c.in-Some.last ∷ []) (subst (AllOf c.args.words.now.shared.table_id) c.in-Some.ensures.items c.requires.rest) in
    (omega (arith, c.in-Some.ensures.len), ((c.join.ensures.table ∙ c.requires.table.0, c.requires.table.1), (ap (λ (m : Mine). m.1) c.join.ensures.views, all.0)))

pub returns-in-Some-clause-held : goal.returns-in-Some-clause-held
returns-in-Some-clause-held t c =
    let v : View = c.gather.new.seat.me.0 in
    let here : Has (own c.in-Some.last) (records_in (both_of c.args.seat.now.me.0 c.into_seat.result.me.0)) =
    has_right (own c.in-Some.last) (records_in c.args.seat.now.me.0) (records_in c.into_seat.result.me.0) (subst (λ s. Has (own c.in-Some.last) (records_in s.me.0)) (sym c.into_seat.ensures) (own_held c.in-Some.last)) in
    let there = c.gather.ensures.grows (own c.in-Some.last) (subst (λ (m : Mine). Has (own c.in-Some.last) (records_in m.0)) (sym c.join.ensures.views) here) in
    subst (λ (ps : List Processor). AllHeld ps c.gather.new.seat.me.0) (sym c.in-Some.ensures.items) (held_append c.pop.new.self.items (c.in-Some.last ∷ []) c.gather.new.seat.me.0 c.gather.ensures.held (there, tt))

pub returns-in-Some-clause-grows : goal.returns-in-Some-clause-grows
returns-in-Some-clause-grows t c = λ r h.
    c.gather.ensures.grows r (subst (λ (m : Mine). Has r (records_in m.0)) (sym c.join.ensures.views) (has_left r (records_in c.args.seat.now.me.0) (records_in c.into_seat.result.me.0) h))
