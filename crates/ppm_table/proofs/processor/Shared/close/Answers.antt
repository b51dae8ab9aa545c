use Rattle.std.proofs.Common.{arith, ◌∙◌, sym, ap, ◌∷◌, [], List, subst, ℕ, drop}
use Rattle.ppm_table.specs.Shown.{AllOf, AllHeld, Has, opening_of}
use Rattle.ppm_table.specs.Run.{padding, records_in}
use Rattle.ppm_table.specs.declared.view.View.{View}
use Rattle.ppm_table.specs.declared.processor.Processor.{Processor}
use Rattle.ppm_table.proofs.Orders.{all_of_append, held_append, own, own_held, in_order_all, held_in}
use Rattle.ppm_table.proofs.processor.Shared.close.Goals as goal

pub gather-requires-clause-table : goal.gather-requires-clause-table
gather-requires-clause-table c =
    let all = all_of_append c.args.self.words.shared.table_id c.pop.new.self.items (c.in-Some.last ∷ []) (subst (AllOf c.args.self.words.shared.table_id) c.in-Some.ensures.items (in_order_all c.args.self 0 c.args.processors.items c.requires.1)) in
    (ap (λ x. x.table_id) c.into_seat-seat.ensures ∙ all.1.0, omega (arith, c.args.self.wide))

pub gather-requires-clause-rest : goal.gather-requires-clause-rest
gather-requires-clause-rest c =
    (all_of_append c.args.self.words.shared.table_id c.pop.new.self.items (c.in-Some.last ∷ []) (subst (AllOf c.args.self.words.shared.table_id) c.in-Some.ensures.items (in_order_all c.args.self 0 c.args.processors.items c.requires.1))).0

pub close_with-requires : goal.close_with-requires
close_with-requires c =
    let all = all_of_append c.args.self.words.shared.table_id c.pop.new.self.items (c.in-Some.last ∷ []) (subst (AllOf c.args.self.words.shared.table_id) c.in-Some.ensures.items (in_order_all c.args.self 0 c.args.processors.items c.requires.1)) in
    c.gather.ensures.table.0 ∙ ap (λ x. x.table_id) c.into_seat-seat.ensures ∙ all.1.0

pub returns-clause-run : goal.returns-clause-run
returns-clause-run c =
    let f = c.close_with.ensures.values.2 in
    let r = f.1.0 in
    let v : View = c.gather.new.seat.me.0 in
    let last = c.in-Some.last in
    let here : Has (own last) (records_in c.into_seat-seat.result.me.0) = subst (λ s. Has (own last) (records_in s.me.0)) (sym c.into_seat-seat.ensures) (own_held last) in
    let all : AllHeld c.args.processors.items c.gather.new.seat.me.0 =
    subst (λ (ps : List Processor). AllHeld ps c.gather.new.seat.me.0) (sym c.in-Some.ensures.items)
    (held_append c.pop.new.self.items (last ∷ []) c.gather.new.seat.me.0 c.gather.ensures.held (c.gather.ensures.grows (own last) here, tt)) in
    let found = r.fits c.gather.new.seat.id c.gather.new.seat.me.0 f.1.1 in
    record {
      turns = r.turns;
      told = r.told;
      words_are = sym r.words ∙ ap (λ (ws : List ℕ). drop padding ws) f.2 ∙ sym c.closed_over.ensures.words;
      all = held_in (opening_of c.args.self) r.turns c.args.processors.items c.gather.new.seat.me.0 found all;
    }
