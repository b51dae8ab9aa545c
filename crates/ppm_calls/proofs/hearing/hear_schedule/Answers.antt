use Rattle.std.proofs.Common.{◌∙◌, [], ◌++◌, ap, map}
use Rattle.ppm_cells.specs.Ending.{ending_of}
use Rattle.ppm_core.specs.Machine.{seen}
use Rattle.ppm_core.specs.Situation.{Situation, finish_in}
use Rattle.ppm_calls.specs.Acts.{shown_act}
use Rattle.ppm_calls.specs.Follows.{values_in}
use Rattle.ppm_calls.specs.Heard.{acts_of}
use Rattle.ppm_calls.proofs.hearing.hear_schedule.Goals as goal

-- what is read is read of the machine that followed the schedule, and what was kept was heard of its acts
pub returns : goal.returns
returns c =
    let start = seen c.in_ok-machine.machine in
    record {
      followed = record {
        keeper = c.keeper.result;
        spared = c.keeper.ensures.keeper;
        start = start;
        opens = c.in_ok-machine.ensures;
        ending = c.outcome-ending.ensures ∙ ap (λ (m : Situation). ending_of (finish_in m)) c.in_ok-follow_heard.ensures.made;
        arrays = c.in_ok-arrays.ensures ∙ ap values_in c.in_ok-follow_heard.ensures.made;
      };
      kept = c.in_ok-follow_heard.ensures.heard
          ∙ ap (λ kept. map shown_act kept ++ acts_of start c.args.schedule.now.items c.args.acts) c.new-heard.ensures.items;
    }
