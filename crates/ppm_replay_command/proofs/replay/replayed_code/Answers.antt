use Rattle.std.proofs.Common.{subst}
use Rattle.ppm_code.specs.Code.{IsCode}
use Rattle.ppm_outcomes.proofs.ExactLemmas.{code_opened}
use Rattle.ppm_outcomes.proofs.ReplayLemmas.{code_has}
use Rattle.ppm_replay_command.proofs.replay.replayed_code.Goals as goal

-- what is said of the machine after the run
pub returns : goal.returns
returns c =
    code_has c.args.options c.args.schedule.now.items c.args.code c.args.input.now _ _ _ _ _ _ c.sizes_of.ensures c.keeper.ensures.keeper
    c.in_ok-machine.ensures (code_opened _ _ _ _ _ c.in_ok-machine.ensures (subst IsCode c.code.ensures c.parts.ensures.code))
    c.follow.ensures c.arrays.ensures.value c.in_ok-answer.ensures
