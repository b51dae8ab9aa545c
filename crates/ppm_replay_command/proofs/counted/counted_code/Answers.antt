use Rattle.std.proofs.Common.{subst}
use Rattle.ppm_code.specs.Code.{IsCode}
use Rattle.ppm_outcomes.proofs.ExactLemmas.{code_opened}
use Rattle.ppm_replay_command.proofs.CountedLemmas.{code_counted}
use Rattle.ppm_replay_command.proofs.counted.counted_code.Goals as goal

-- what is said of the machine after the run, with what was counted in it
pub returns : goal.returns
returns c =
    code_counted c.counts_are_of_turns.ensures.law c.args.options c.args.schedule.now.items c.args.code c.args.input.now _ _ _ _ _ _ _
    c.sizes_of.ensures c.keeper.ensures.keeper
    c.in_ok-machine.ensures (code_opened _ _ _ _ _ c.in_ok-machine.ensures (subst IsCode c.code.ensures c.parts.ensures.code))
    c.in_ok-counts.ensures.followed c.arrays.ensures.value c.in_ok-came.ensures c.in_ok-counts.ensures.counts
