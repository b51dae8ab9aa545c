use Rattle.std.proofs.Common.{ℕ, ◌<◌, ◌∙◌, ap, refl, sym, subst, arith}
use Rattle.ppm_code.specs.Code.{IsCode}
use Rattle.ppm_outcomes.specs.Resumes.{state_of}
use Rattle.ppm_outcomes.specs.RunCounts.{counts_told}
use Rattle.ppm_outcomes.specs.Strikes.{fault_count}
use Rattle.ppm_outcomes.proofs.CountedResumeLemmas.{renewed_counted}
use Rattle.ppm_stop_command.proofs.counted_resume.resumed.Goals as goal

-- what is said of the words after the run, with what was counted in it
pub returns : goal.returns
returns g c =
    let below : c.keeper.result < c.args.saved.shape.processors = omega (arith, c.keeper.ensures.below, c.requires.processors) in
    renewed_counted _ c.args.options (state_of c.args.saved) c.args.plan.now c.args.saved refl c.keeper.result c.renew-image.result
    c.in_ok-table.table.0 _ _ _ c.requires.stands c.renew-image.ensures c.in_ok-table.ensures.opens
    (subst IsCode (sym c.in_ok-table.table.0.told.1) c.parts.ensures.code) c.limits_of.ensures c.requires.processors c.keeper.ensures.keeper below
    _ _ (c.in_ok-driven.ensures.counted c.in_ok-table.ensures.counted) _ _ _
    c.in_ok-table.ensures.arrays (c.in_ok-driven.ensures.sizes.0 ∙ sym c.in_ok-table.table.0.told.0) c.in_ok-driven.ensures.sizes.1 refl
    c.in_ok-ran.ensures
    (c.run_counts-counts.ensures ∙ ap (λ l. counts_told c.in_ok-driven.driven.1 (fault_count l) c.in_ok-driven.driven.0.shape c.in_ok-driven.driven.0.words) c.items.ensures)
