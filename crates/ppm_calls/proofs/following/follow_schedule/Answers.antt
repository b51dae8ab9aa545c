use Rattle.std.proofs.Common.{◌∙◌, ap}
use Rattle.ppm_cells.specs.Ending.{ending_of}
use Rattle.ppm_core.specs.Machine.{seen}
use Rattle.ppm_core.specs.Situation.{Situation, finish_in}
use Rattle.ppm_calls.specs.Follows.{values_in}
use Rattle.ppm_calls.proofs.following.follow_schedule.Goals as goal

-- what is read is read of the machine that followed the schedule
pub returns : goal.returns
returns c = record {
  keeper = c.keeper.result;
  spared = c.keeper.ensures.keeper;
  start = seen c.in_ok-machine.machine;
  opens = c.in_ok-machine.ensures;
  ending = c.outcome-ending.ensures ∙ ap (λ (m : Situation). ending_of (finish_in m)) c.follow.ensures;
  arrays = c.in_ok-arrays.ensures ∙ ap values_in c.follow.ensures;
}
