use Rattle.ppm_outcomes.proofs.AsCodeLemmas.{runs_are_as_code}
use Rattle.ppm_outcomes.proofs.meant.runs_are_as_code.Goals as goal

-- from the laws of images and of runs
pub returns : goal.returns
returns c = record {
  law = runs_are_as_code (record {
    shown = c.images_begin_the_depth_first_run.ensures.shown;
    runs = c.runs_end_so.ensures.ends;
    forks = c.runs_end_so.ensures.forks;
    once = c.runs_end_so.ensures.once;
    room = c.room_is_spent.ensures.law;
    pools = c.room_is_spent.ensures.within;
    work = c.work_is_bounded.ensures.within;
    whole = c.nothing_breaks.ensures.law;
  });
}
