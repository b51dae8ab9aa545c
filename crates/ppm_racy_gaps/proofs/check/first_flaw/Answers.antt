use Rattle.ppm_racy_gaps.proofs.FirstLemmas.{restartable_or}
use Rattle.ppm_racy_gaps.proofs.check.first_flaw.Goals as goal

-- what has no flaw may be begun again
pub returns-in-Ok : goal.returns-in-Ok
returns-in-Ok c =
    restartable_or c.args.code.now c.flaw_without.result c.racy_codes_without_flaws_are_restartable.ensures c.flaw_without.ensures
