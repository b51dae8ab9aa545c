use Rattle.ppm_stop_command.proofs.CompleteLegsOfCode.{fresh_find_no_limit, runs_of_code_complete_in_legs}
use Rattle.ppm_stop_command.proofs.stopped.runs_of_code_complete_in_legs.Goals as goal

-- from the law of runs in legs
pub returns : goal.returns
returns c = record {
  law = runs_of_code_complete_in_legs c.runs_in_legs_are_as_code.ensures.law;
  fresh = fresh_find_no_limit;
}
