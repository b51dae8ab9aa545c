use Rattle.ppm_replay_command.proofs.CompleteReplay.{replays_of_code_complete, unfinished_need_more}
use Rattle.ppm_replay_command.proofs.complete_replay.replays_of_code_complete.Goals as goal

-- from the laws of images and of replays
pub returns : goal.returns
returns c = record {
  few = unfinished_need_more c.images_begin_the_depth_first_run.ensures.shown c.replays_end.ensures.law;
  law = λ places.
      replays_of_code_complete (unfinished_need_more c.images_begin_the_depth_first_run.ensures.shown c.replays_end.ensures.law places)
      c.replays_are_as_code.ensures.law;
}
