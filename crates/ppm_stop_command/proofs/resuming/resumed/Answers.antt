use Rattle.std.proofs.Common.{ℕ, ◌<◌, ◌≤◌, ◌∙◌, refl, sym, subst, arith, length}
use Rattle.ppm_code.specs.Code.{IsCode}
use Rattle.ppm_cells.specs.declared.shape.Shape.{Shape}
use Rattle.ppm_threads.specs.Driven.{OthersStay}
use Rattle.ppm_outcomes.specs.Resumes.{state_of}
use Rattle.ppm_outcomes.proofs.ResumeLemmas.{renewed_has, renewed_wanting, renewed_whole, table_count}
use Rattle.ppm_outcomes.proofs.WantLemmas.{at_err, nothing_told}
use Rattle.ppm_outcomes.proofs.WatchLemmas.{first_of, fronts_stay, keep_fronts, others_keep, others_still}
use Rattle.ppm_stop_command.proofs.resuming.resumed.Goals as goal

-- what is said of the words after the run, in which all processors obey, and what watchers were told of it
pub returns-clause-has : goal.returns-clause-has
returns-clause-has g c =
    let some : 0 < length c.args.watch.now.items = omega (arith, c.requires.watchers) in
    let most = c.args.saved.shape.within.processors_most in
    let enough : c.args.saved.shape.processors ≤ length c.args.watch.now.items = omega (arith, c.requires.watchers, most) in
    let below : c.keeper.result < c.args.saved.shape.processors = omega (arith, c.keeper.ensures.below, c.requires.processors) in
    renewed_has g.W.Watch.told c.args.options (state_of c.args.saved) c.args.plan.now c.args.saved refl c.keeper.result c.renew-image.result
    c.in_ok-table.table.0 _ _ _ (first_of c.args.watch.now.items some) c.requires.stands c.renew-image.ensures c.in_ok-table.ensures.opens
    (subst IsCode (sym c.in_ok-table.table.0.told.1) c.parts.ensures.code) c.limits_of.ensures c.requires.processors
    c.keeper.ensures.keeper below (omega (arith, c.in_ok-closed.ensures.kept.0, c.args.watch.now.ok.0, c.drive.new.watch.ok.0)) enough _ _ _
    c.in_ok-table.ensures.arrays (c.in_ok-closed.ensures.sizes.0 ∙ sym c.in_ok-table.table.0.told.0) c.in_ok-closed.ensures.sizes.1
    (subst (λ (s : Shape). OthersStay s.processors c.args.watch.now.items c.drive.new.watch.items) (sym c.in_ok-table.table.0.told.0) c.in_ok-closed.ensures.others)
    c.in_ok-closed.ensures.run refl c.in_ok-answer.ensures

-- where the table was not made, nobody was told anything
pub returns-in_err-table-clause-wants : goal.returns-in_err-table-clause-wants
returns-in_err-table-clause-wants g c = at_err (nothing_told _ _ _) _

-- where the drive met want of memory, nobody was told anything either, or the run was given up
pub returns-in_err-closed-clause-wants : goal.returns-in_err-closed-clause-wants
returns-in_err-closed-clause-wants g c =
    let some : 0 < length c.args.watch.now.items = omega (arith, c.requires.watchers) in
    let most = c.args.saved.shape.within.processors_most in
    let enough : c.args.saved.shape.processors ≤ length c.args.watch.now.items = omega (arith, c.requires.watchers, most) in
    let below : c.keeper.result < c.args.saved.shape.processors = omega (arith, c.keeper.ensures.below, c.requires.processors) in
    at_err (renewed_wanting g.W.Watch.told c.args.options (state_of c.args.saved) c.args.plan.now c.args.saved refl c.keeper.result c.renew-image.result
    c.in_ok-table.table.0 _ _ _ (first_of c.args.watch.now.items some) c.requires.stands c.renew-image.ensures c.in_ok-table.ensures.opens
    (subst IsCode (sym c.in_ok-table.table.0.told.1) c.parts.ensures.code) c.limits_of.ensures c.requires.processors
    c.keeper.ensures.keeper below (omega (arith, c.in_err-closed.ensures.kept.0, c.args.watch.now.ok.0, c.drive.new.watch.ok.0)) enough
    (subst (λ (s : Shape). OthersStay s.processors c.args.watch.now.items c.drive.new.watch.items) (sym c.in_ok-table.table.0.told.0)
    c.in_err-closed.ensures.others)
    c.in_err-closed.ensures.refused) _

-- where there was no memory for the answer, all of its run was told
pub returns-in_err-answer-clause-wants : goal.returns-in_err-answer-clause-wants
returns-in_err-answer-clause-wants g c =
    let some : 0 < length c.args.watch.now.items = omega (arith, c.requires.watchers) in
    let most = c.args.saved.shape.within.processors_most in
    let enough : c.args.saved.shape.processors ≤ length c.args.watch.now.items = omega (arith, c.requires.watchers, most) in
    let below : c.keeper.result < c.args.saved.shape.processors = omega (arith, c.keeper.ensures.below, c.requires.processors) in
    at_err (renewed_whole g.W.Watch.told c.args.options (state_of c.args.saved) c.args.plan.now c.args.saved refl c.keeper.result c.renew-image.result
    c.in_ok-table.table.0 _ _ _ (first_of c.args.watch.now.items some) c.requires.stands c.renew-image.ensures c.in_ok-table.ensures.opens
    (subst IsCode (sym c.in_ok-table.table.0.told.1) c.parts.ensures.code) c.limits_of.ensures c.requires.processors
    c.keeper.ensures.keeper below (omega (arith, c.in_ok-closed.ensures.kept.0, c.args.watch.now.ok.0, c.drive.new.watch.ok.0)) enough _
    (subst (λ (s : Shape). OthersStay s.processors c.args.watch.now.items c.drive.new.watch.items) (sym c.in_ok-table.table.0.told.0) c.in_ok-closed.ensures.others)
    c.in_ok-closed.ensures.run) _

-- each list keeps what it had in front
pub returns-clause-kept : goal.returns-clause-kept
returns-clause-kept g c = keep_fronts g.W.Watch.told c.args.watch.now.items c.drive.new.watch.items
    (omega (arith, c.in_ok-closed.ensures.kept.0, c.args.watch.now.ok.0, c.drive.new.watch.ok.0)) c.in_ok-closed.ensures.kept.1

pub returns-in_err-table-clause-kept : goal.returns-in_err-table-clause-kept
returns-in_err-table-clause-kept g c = fronts_stay _

pub returns-in_err-closed-clause-kept : goal.returns-in_err-closed-clause-kept
returns-in_err-closed-clause-kept g c = keep_fronts g.W.Watch.told c.args.watch.now.items c.drive.new.watch.items
    (omega (arith, c.in_err-closed.ensures.kept.0, c.args.watch.now.ok.0, c.drive.new.watch.ok.0)) c.in_err-closed.ensures.kept.1

pub returns-in_err-answer-clause-kept : goal.returns-in_err-answer-clause-kept
returns-in_err-answer-clause-kept g c = keep_fronts g.W.Watch.told c.args.watch.now.items c.drive.new.watch.items
    (omega (arith, c.in_ok-closed.ensures.kept.0, c.args.watch.now.ok.0, c.drive.new.watch.ok.0)) c.in_ok-closed.ensures.kept.1

-- those of no processor are told nothing
pub returns-clause-others : goal.returns-clause-others
returns-clause-others g c =
    let some : 0 < length c.args.watch.now.items = omega (arith, c.requires.watchers) in
    others_keep g.W.Watch.told c.args.saved.shape.processors c.args.watch.now.items c.drive.new.watch.items (first_of c.args.watch.now.items some)
    (omega (arith, c.in_ok-closed.ensures.kept.0, c.args.watch.now.ok.0, c.drive.new.watch.ok.0))
    (subst (λ (n : ℕ). OthersStay n c.args.watch.now.items c.drive.new.watch.items)
    (table_count c.args.saved c.keeper.result c.renew-image.result c.in_ok-table.table.0 c.renew-image.ensures c.in_ok-table.ensures.opens)
    c.in_ok-closed.ensures.others)

pub returns-in_err-table-clause-others : goal.returns-in_err-table-clause-others
returns-in_err-table-clause-others g c = others_still _ _

pub returns-in_err-closed-clause-others : goal.returns-in_err-closed-clause-others
returns-in_err-closed-clause-others g c =
    let some : 0 < length c.args.watch.now.items = omega (arith, c.requires.watchers) in
    others_keep g.W.Watch.told c.args.saved.shape.processors c.args.watch.now.items c.drive.new.watch.items (first_of c.args.watch.now.items some)
    (omega (arith, c.in_err-closed.ensures.kept.0, c.args.watch.now.ok.0, c.drive.new.watch.ok.0))
    (subst (λ (n : ℕ). OthersStay n c.args.watch.now.items c.drive.new.watch.items)
    (table_count c.args.saved c.keeper.result c.renew-image.result c.in_ok-table.table.0 c.renew-image.ensures c.in_ok-table.ensures.opens)
    c.in_err-closed.ensures.others)

pub returns-in_err-answer-clause-others : goal.returns-in_err-answer-clause-others
returns-in_err-answer-clause-others g c =
    let some : 0 < length c.args.watch.now.items = omega (arith, c.requires.watchers) in
    others_keep g.W.Watch.told c.args.saved.shape.processors c.args.watch.now.items c.drive.new.watch.items (first_of c.args.watch.now.items some)
    (omega (arith, c.in_ok-closed.ensures.kept.0, c.args.watch.now.ok.0, c.drive.new.watch.ok.0))
    (subst (λ (n : ℕ). OthersStay n c.args.watch.now.items c.drive.new.watch.items)
    (table_count c.args.saved c.keeper.result c.renew-image.result c.in_ok-table.table.0 c.renew-image.ensures c.in_ok-table.ensures.opens)
    c.in_ok-closed.ensures.others)
