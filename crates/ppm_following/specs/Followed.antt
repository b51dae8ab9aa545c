-- What a schedule makes of a machine.
use Rattle.std.specs.Prelude.{ℕ, List}
use Rattle.ppm_plan.specs.declared.schedule_item.ScheduleItem.{ScheduleItem}
use Rattle.ppm_core.specs.Situation.{Situation, run_on}
use Rattle.ppm_choice.specs.Schedules.{schedule_turns}

-- what the run of a schedule, of at most so many acts, makes of it
abbrev pub followed : Situation → List ScheduleItem → (turns : ℕ) → Situation
followed m items turns = run_on m (schedule_turns m.shape m.code m.state items turns)
