use Rattle.std.proofs.Common.{rules, ◌≡◌, List, ◌∙◌, inr, arith, ap, Bool, refl, subst, sym}
use Rattle.ppm_cells.specs.declared.shape.Shape.{Shape}
use Rattle.ppm_table.specs.declared.processor.Processor.{Processor}
use Rattle.ppm_table.specs.Counting.{none_counted}
use Rattle.ppm_table.specs.Shown.{counts_with}
use Rattle.ppm_threads.specs.Driven.{AllEnd}
use Rattle.ppm_threads.proofs.HalvesLemmas.{end_order, in_order_begins, keep, keep_still, rest_at, driven, driven_counted, was_refused}
use Rattle.ppm_threads.proofs.FinishLemmas.{has_finished}
use Rattle.ppm_threads.proofs.driving.drive_counted.Goals as goal

pub run_over-taken-requires-clause-begin : goal.run_over-taken-requires-clause-begin
run_over-taken-requires-clause-begin g c κs within = in_order_begins c.args.shared 0 c.args.processors.items c.requires.processors.order c.requires.processors.fresh

pub close-closed-requires : goal.close-closed-requires
close-closed-requires g c =
    let n = c.args.processors.ok.0 in (
      omega (arith, c.run_over-taken.ensures.lengths.0, n, c.requires.processors.count, c.args.shared.shape.within.processors_least),
      end_order g.W.Watch.told c.args.plan.now c.args.limits c.args.shared c.run_over-taken.result 0 _ _ _ _ c.requires.processors.order c.run_over-taken.ensures.ends,
    )

-- a watcher refused
pub returns-then-not-taken-clause-kept : goal.returns-then-not-taken-clause-kept
returns-then-not-taken-clause-kept g c = (c.run_over-taken.ensures.lengths.1, keep g.W.Watch.told c.args.plan.now c.args.limits c.args.shared c.run_over-taken.result _ _ _ _ c.run_over-taken.ensures.ends)

pub returns-then-not-taken-clause-others : goal.returns-then-not-taken-clause-others
returns-then-not-taken-clause-others g c = λ j d least.
    let n = c.args.processors.ok.0 in
    rest_at g.W.Watch.told c.args.plan.now c.args.limits c.args.shared c.run_over-taken.result _ _ _ _ c.run_over-taken.ensures.ends j d (omega (arith, least, n, c.requires.processors.count))

pub returns-then-not-taken-clause-refused : goal.returns-then-not-taken-clause-refused
returns-then-not-taken-clause-refused g c =
    let shape = ap (λ (t : Shape). t.processors) c.args.shared.told.0 in
    let ends = subst (λ (x : Bool). AllEnd g.W.Watch.told c.args.plan.now c.args.limits c.args.shared x c.args.processors.items c.args.watch.now.items c.run_over-taken.new.processors.items c.run_over-taken.new.watch.items) c.if-not-taken.true c.run_over-taken.ensures.ends in
    inr (was_refused g.W.Watch.told c.args.plan.now c.args.limits c.args.shared c.close-closed.result.words _ _ _ _ (c.requires.processors.count ∙ sym shape) c.requires.processors.order
    (in_order_begins c.args.shared 0 c.args.processors.items c.requires.processors.order c.requires.processors.fresh) c.close-closed.ensures.run ends)

-- none did
pub returns-clause-kept : goal.returns-clause-kept
returns-clause-kept g c = (c.run_over-taken.ensures.lengths.1, keep g.W.Watch.told c.args.plan.now c.args.limits c.args.shared c.run_over-taken.result _ _ _ _ c.run_over-taken.ensures.ends)

pub returns-clause-others : goal.returns-clause-others
returns-clause-others g c = λ j d least.
    let n = c.args.processors.ok.0 in
    rest_at g.W.Watch.told c.args.plan.now c.args.limits c.args.shared c.run_over-taken.result _ _ _ _ c.run_over-taken.ensures.ends j d (omega (arith, least, n, c.requires.processors.count))

pub returns-clause-run : goal.returns-clause-run
returns-clause-run g c =
    let n = c.args.processors.ok.0 in
    let m = c.args.watch.now.ok.0 in
    let ends = subst (λ (x : Bool). AllEnd g.W.Watch.told c.args.plan.now c.args.limits c.args.shared x c.args.processors.items c.args.watch.now.items c.run_over-taken.new.processors.items c.run_over-taken.new.watch.items) c.if-not-taken.false c.run_over-taken.ensures.ends in
    let shape = ap (λ (t : Shape). t.processors) c.args.shared.told.0 in
    driven g.W.Watch.told c.args.plan.now c.args.limits c.args.shared c.close-closed.result.words _ _ _ _ (c.requires.processors.count ∙ sym shape) c.requires.processors.order
    (in_order_begins c.args.shared 0 c.args.processors.items c.requires.processors.order c.requires.processors.fresh) c.close-closed.ensures.run (c.requires.plan ∙ sym shape) ends (omega (arith, n, m, c.requires.watchers))

pub returns-clause-finish : goal.returns-clause-finish
returns-clause-finish g c =
    let n = c.args.processors.ok.0 in
    let m = c.args.watch.now.ok.0 in
    let ends = subst (λ (x : Bool). AllEnd g.W.Watch.told c.args.plan.now c.args.limits c.args.shared x c.args.processors.items c.args.watch.now.items c.run_over-taken.new.processors.items c.run_over-taken.new.watch.items) c.if-not-taken.false c.run_over-taken.ensures.ends in
    let shape = ap (λ (t : Shape). t.processors) c.args.shared.told.0 in
    let d = driven g.W.Watch.told c.args.plan.now c.args.limits c.args.shared c.close-closed.result.words _ _ _ _ (c.requires.processors.count ∙ sym shape) c.requires.processors.order
    (in_order_begins c.args.shared 0 c.args.processors.items c.requires.processors.order c.requires.processors.fresh) c.close-closed.ensures.run (c.requires.plan ∙ sym shape) ends (omega (arith, n, m, c.requires.watchers)) in
    has_finished g.W.Watch.told c.args.plan.now c.args.limits c.args.shared c.close-closed.result.words c.args.watch.now.items c.run_over-taken.new.watch.items c.keeper.result c.parts.ensures.code c.keeper.ensures.below
    c.requires.plan c.keeper.ensures.keeper d

-- no memory was left for parkers: no watcher was told anything
pub returns-in_err-sleepers-clause-kept : goal.returns-in_err-sleepers-clause-kept
returns-in_err-sleepers-clause-kept g c = (refl, keep_still g.W.Watch.told c.args.plan.now c.args.limits c.args.shared c.args.watch.now.items)

pub returns-in_err-wakers-clause-kept : goal.returns-in_err-wakers-clause-kept
returns-in_err-wakers-clause-kept g c = (refl, keep_still g.W.Watch.told c.args.plan.now c.args.limits c.args.shared c.args.watch.now.items)

-- what was counted is that of the run
pub returns-clause-counted : goal.returns-clause-counted
returns-clause-counted g c on =
    let n = c.args.processors.ok.0 in
    let m = c.args.watch.now.ok.0 in
    let items : c.deref-2.result.now ≡ c.run_over-taken.new.processors.items = search rules in
    let ends = subst (λ (x : Bool). AllEnd g.W.Watch.told c.args.plan.now c.args.limits c.args.shared x c.args.processors.items c.args.watch.now.items c.run_over-taken.new.processors.items c.run_over-taken.new.watch.items) c.if-not-taken.false c.run_over-taken.ensures.ends in
    let shape = ap (λ (t : Shape). t.processors) c.args.shared.told.0 in
    driven_counted g.W.Watch.told c.args.plan.now c.args.limits c.args.shared c.close-closed.result.words _ _ _ _ (c.requires.processors.count ∙ sym shape) c.requires.processors.order
    (in_order_begins c.args.shared 0 c.args.processors.items c.requires.processors.order c.requires.processors.fresh) c.close-closed.ensures.run c.total_counts-counts.result on (c.total_counts-counts.ensures ∙ ap (λ (ps : List Processor). counts_with none_counted ps) items) (c.requires.plan ∙ sym shape) ends (omega (arith, n, m, c.requires.watchers))
