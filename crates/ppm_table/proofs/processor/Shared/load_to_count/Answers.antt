use Rattle.std.proofs.Common.{◌≡◌, ◌+◌, ◌<◌, List, [], length, sym, ap, subst, arith, ◌∙◌}
use Rattle.ppm_cells.specs.declared.shape.Shape.{Shape}
use Rattle.ppm_table.specs.declared.view.Deed.{Deed}
use Rattle.ppm_table.specs.Counting.{counts_by}
use Rattle.ppm_table.specs.Run.{Mine, deeds_in, stands_by}
use Rattle.ppm_table.specs.Shown.{InOrder, AllNew, IsOf, deeds_of_processor, opening_of}
use Rattle.ppm_table.proofs.Orders.{in_order_more, new_more}
use Rattle.ppm_table.proofs.Kept as kept
use Rattle.ppm_table.proofs.processor.Shared.load_to_count.Goals as goal

pub of_words-requires : goal.of_words-requires
of_words-requires c =
    kept.opens _ c.all.result.now c.all.ensures

pub loop-own-preserved : goal.loop-own-preserved
loop-own-preserved c =
    let i = c.loop-own.invariant in
    let s = c.shared_over-shared.result in
    let p = c.processor_at.result in
    let e = c.processor_at.ensures in
    let t = c.split-seat.ensures in
    let number : p.local.own ≡ 0 + length c.loop-own.processors.items = omega (arith, e.own, i.2, c.loop-own.processors.ok.0) in
    let none : deeds_of_processor p ≡ [] = ap (λ x. deeds_in x.me.0) e.seat ∙ ap (λ (m : Mine). deeds_in m.0) t.views.1 in
    let less : c.loop-own.own < s.shape.processors = subst (λ (t : Shape). c.loop-own.own < t.processors) (sym c.shared_over-shared.ensures.1) c.loop-own-test.true in
    let of : IsOf s p = record {
      table = ap (λ x. x.table_id) e.seat ∙ t.table.1 ∙ i.0;
      holds = e.holds s.shape s.code less;
      stands = e.lost s.shape s.code ∙ sym (ap (λ (ds : List Deed). stands_by (opening_of s) p.local.own ds) none);
      counts = λ on. e.none ∙ sym (ap (λ (ds : List Deed). counts_by (opening_of s) p.local.own ds) none);
    } in (
      t.table.0 ∙ i.0,
      t.views.0,
      omega (arith, c.in_ok-push.ensures.len, i.2),
      subst (InOrder s 0) (sym c.in_ok-push.ensures.items) (in_order_more s 0 c.loop-own.processors.items p i.3 number of),
      subst AllNew (sym c.in_ok-push.ensures.items) (new_more c.loop-own.processors.items p i.4 none),
    )
