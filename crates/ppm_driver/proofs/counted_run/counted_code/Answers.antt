use Rattle.std.proofs.Common.{◌∙◌, ap, refl, sym, subst}
use Rattle.ppm_code.specs.Code.{IsCode}
use Rattle.ppm_outcomes.specs.RunCounts.{counts_told}
use Rattle.ppm_outcomes.specs.Strikes.{fault_count}
use Rattle.ppm_outcomes.proofs.CountedLemmas.{code_counted}
use Rattle.ppm_outcomes.proofs.ExactLemmas.{code_opened}
use Rattle.ppm_driver.proofs.counted_run.counted_code.Goals as goal

-- what is said of the words after the run, with what was counted in it
pub returns : goal.returns
returns g c =
    code_counted _ c.args.options c.args.plan.now c.args.code c.args.input.now _ _ _ c.in_ok-table.table.0 _ _ c.sizes_of.ensures c.limits_of.ensures
    c.requires.processors c.keeper.ensures.keeper c.in_ok-table.ensures.opens
    (code_opened _ _ _ _ _ c.in_ok-table.ensures.opens (subst IsCode (sym c.in_ok-table.table.0.told.1) c.parts.ensures.code))
    _ _ (c.in_ok-driven.ensures.counted c.in_ok-table.ensures.counted) _ _ _ _ refl
    (c.in_ok-driven.ensures.sizes.0 ∙ sym c.in_ok-table.table.0.told.0) c.in_ok-driven.ensures.sizes.1 c.arrays.ensures.value c.in_ok-ran.ensures
    (c.run_counts-counts.ensures ∙ ap (λ l. counts_told c.in_ok-driven.driven.1 (fault_count l) c.in_ok-driven.driven.0.shape c.in_ok-driven.driven.0.words) c.items.ensures)
