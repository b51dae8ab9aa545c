use Rattle.std.proofs.Common.{subst}
use Rattle.ppm_races.specs.Verdicts.{IsVerdict}
use Rattle.ppm_calls.proofs.SoundnessLemmas.{both_end}
use Rattle.ppm_calls.proofs.soundness.sound_run.Goals as goal

-- no conflict, tidy, no race; and both runs end within the limit
pub returns-in-Calm : goal.returns-in-Calm
returns-in-Calm c =
    let calm = subst (IsVerdict c.args.case.now.code c.args.case.now.input c.args.capsules) c.in-Calm.is c.in_ok-races.ensures.verdict in
    record {
      sound = record { tidy = c.in_default-untidy.ensures; free = c.in_default.ensures.1; calm = calm.0 };
      within = both_end c.args.case.now.code c.args.case.now.input c.args.capsules c.in_ok-run.run' c.in-Calm.field-0 c.in_ok-run.ensures.run calm.1;
    }
