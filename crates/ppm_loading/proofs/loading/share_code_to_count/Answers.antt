use Rattle.std.proofs.Common.{subst}
use Rattle.ppm_core.specs.Situation.{Situation}
use Rattle.ppm_loading.specs.Loading.{OpensRun}
use Rattle.ppm_loading.proofs.LoadingLemmas.{table_opens}
use Rattle.ppm_loading.proofs.loading.share_code_to_count.Goals as goal

-- the table was told the image's words
pub returns-clause-opens : goal.returns-clause-opens
returns-clause-opens c =
    subst (λ (m : Situation). OpensRun c.args.sizes c.args.code c.args.input.now c.args.keeper m)
    (table_opens c.in_ok-table.table.0 _ _ c.in_ok-table.ensures.opens c.in_ok-table.ensures.arrays) c.in_ok-image.ensures
