-- Before which acts of the base run the first fault of a schedule is put.
use Rattle.std.specs.Prelude.{ℕ, zero, suc, ◌+◌, ◌-◌, ◌%◌, min, List, [], ◌∷◌, length, map, Option, Some, None}
use Rattle.rand_core.specs.Steps.{first_words}
use Rattle.rand_xoshiro.specs.Xoshiro256.{plus_plus}
use Rattle.ppm_plan.specs.declared.schedule_item.ScheduleItem.{ScheduleItem}
use Rattle.ppm_plan.specs.Draws.{seeded}
use Rattle.ppm_core.specs.Situation.{Situation}
use Rattle.ppm_choice.specs.Schedules.{schedule_turns}
use Rattle.ppm_sweep.specs.declared.options.Draws.{Draws}
use Rattle.ppm_sweep.specs.declared.options.Sweeping.{Sweeping}
use Rattle.ppm_sweep.specs.declared.options.Window.{Window}

-- the act with this number alone
abbrev pub act_at : (number : ℕ) → Window
act_at number = record { from = number; acts = 1 }

-- how many acts of a window a run makes, which makes so many
abbrev pub made_in : Window → (acts : ℕ) → ℕ
made_in window acts = min (window.from + window.acts) acts - window.from

-- one of so many acts from a number on for each word that is drawn; none, where there are no acts
abbrev pub drawn : (from : ℕ) → (among : ℕ) → Draws → List Window
drawn from zero d = []
drawn from (suc n) d = map (λ word. act_at (from + word % suc n)) (first_words plus_plus d.runs (seeded d.seed))

-- each act of the window, or those of its acts that are drawn, in their order; the base run makes so many acts
abbrev pub windows_of : Option Draws → Window → (acts : ℕ) → List Window
windows_of None window acts = window ∷ []
windows_of (Some d) window acts = drawn window.from (made_in window acts) d

-- how many acts the run of a schedule makes, of at most so many
abbrev pub act_count : Situation → List ScheduleItem → (turns : ℕ) → ℕ
act_count m items turns = length (schedule_turns m.shape m.code m.state items turns)

-- those of a sweep over a base schedule from a machine
abbrev pub windows_for : Situation → List ScheduleItem → Sweeping → List Window
windows_for m items o = windows_of o.drawn o.window (act_count m items o.turns)
