use Rattle.ppm_outcomes.proofs.LegsOfCode.{Laws, runs_in_legs_are_as_code, tags_may_rise}
use Rattle.ppm_outcomes.proofs.legs.runs_in_legs_are_as_code.Goals as goal

-- from the laws of images, of runs and of runs in legs
pub returns : goal.returns
returns c =
    let laws : Laws = record {
      base = record {
        shown = c.images_begin_the_depth_first_run.ensures.shown;
        runs = c.runs_end_so.ensures.ends;
        once = c.runs_end_so.ensures.once;
        forks = c.runs_end_so.ensures.forks;
        room = c.room_is_spent.ensures.law;
        pools = c.room_is_spent.ensures.within;
        work = c.work_is_bounded.ensures.within;
        whole = c.nothing_breaks.ensures.law;
      };
      legs = c.legs_come_to.ensures.law;
      forks = c.legs_come_to.ensures.forks;
      once = c.legs_come_to.ensures.once;
      room = c.room_over_legs.ensures.law;
      pools = c.room_over_legs.ensures.within;
      work = c.work_over_legs.ensures.within;
      whole = c.nothing_breaks_over_legs.ensures.law;
      stands = c.nothing_breaks_over_legs.ensures.stands;
      tags = c.tags_stay_low.ensures.law;
    } in
    record { law = runs_in_legs_are_as_code laws; tags = tags_may_rise laws }
