-- What was heard of a schedule, and what the words of the machine say after it.
use Rattle.std.specs.Prelude.{◌≡◌, ℕ, List, map}
use Rattle.ppm_words.specs.declared.named_array.NamedArray.{NamedArray}
use Rattle.ppm_choice.specs.Schedules.{schedule_turns}
use Rattle.ppm_code.specs.declared.code.CodeParts.{CodeParts}
use Rattle.ppm_core.specs.Situation.{Situation}
use Rattle.ppm_loading.specs.declared.loading.Sizes.{Sizes}
use Rattle.ppm_plan.specs.declared.schedule_item.ScheduleItem.{ScheduleItem}
use Rattle.ppm_trace.specs.Trace.{along_turns}
use Rattle.ppm_calls.specs.Acts.{act_at, shown_act, ShownAct}
use Rattle.ppm_calls.specs.Follows.{HasFollowed}
use Rattle.ppm_calls.specs.declared.hearing.HeardRun.{HeardRun}

-- the acts of the run that a schedule says, each by the machine before it
abbrev pub acts_of : Situation → List ScheduleItem → (acts : ℕ) → List ShownAct
acts_of m items acts = along_turns act_at m (schedule_turns m.shape m.code m.state items acts)

-- the schedule was followed, and exactly the acts of that run were kept
pub record HasHeard (sizes : Sizes) (code : CodeParts) (input : List NamedArray) (items : List ScheduleItem) (acts : ℕ) (r : HeardRun)
    : Type 0 where
  pub followed : HasFollowed sizes code input items acts r.end
  pub kept : map shown_act r.acts.items ≡ acts_of followed.start items acts
