use Rattle.std.proofs.Common.{subst}
use Rattle.ppm_races.specs.Verdicts.{IsVerdict}
use Rattle.ppm_commands.proofs.races.verdict_answer.Goals as goal

-- the code and the input are sound
pub returns-in-Calm : goal.returns-in-Calm
returns-in-Calm c =
    let calm = subst (IsVerdict c.args.code.now c.args.input.now c.args.capsules) c.in-Calm.is c.requires.verdict in
    record {
      sound = record { tidy = c.requires.tidy; free = c.requires.free; calm = calm.0 };
      run = c.in-Calm.done;
      within = calm.1;
      counts = c.counts_told.ensures;
    }
