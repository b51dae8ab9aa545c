use Rattle.std.proofs.Common.{List, refl, ap, ◌∙◌, subst}
use Rattle.ppm_words.specs.declared.named_array.NamedArray.{NamedArray}
use Rattle.ppm_core.specs.Machine.{seen}
use Rattle.ppm_plan.specs.declared.schedule_item.ScheduleItem.{ScheduleItem}
use Rattle.ppm_sweep.specs.Text.{schedule_text}
use Rattle.ppm_loading.specs.Says.{IsTheOne}
use Rattle.ppm_outcomes.specs.Replays.{with_tally}
use Rattle.ppm_outcomes.specs.Replays.{IsSaid, tally_of}
use Rattle.ppm_sweep_command.proofs.sweeping.told.Goals as goal

-- its schedule is written, and what it came to is said
pub returns : goal.returns
returns c = record {
  takeover = refl;
  schedule = c.from_vec.ensures ∙ c.in_ok-schedule.ensures ∙ ap (λ (l : List ScheduleItem). schedule_text l) c.deref.ensures.value;
  came = subst (λ (l : List NamedArray). IsTheOne (IsSaid c.args.turns (seen c.args.differing.now.machine) l)
      (with_tally c.in_ok-came.came (tally_of (seen c.args.differing.now.machine)))) c.arrays.ensures.value c.in_ok-came.ensures;
}
