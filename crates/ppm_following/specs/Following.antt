-- What the calls that follow a schedule know and say of the machine and of what they count.
use Rattle.std.specs.Prelude.{◌≡◌, ℕ, ◌+◌, ◌<◌, ◌≤◌, ◌^◌, List, Option, slice_index}
use Rattle.ppm_plan.specs.declared.schedule_item.ScheduledAct.TheVariants.{Step}
use Rattle.ppm_core.specs.Situation.{Situation, run_on}
use Rattle.ppm_following.specs.declared.following.Way.{Way}
use Rattle.ppm_choice.specs.Course.{Due, Course, act_of, behind_all, turns_of}

-- the run under way
abbrev pub course : Situation → Way → Course
course m way = record { state = m.state; loads = way.loads; left = way.left }

-- the counts are far from their ends
pub record IsReady (m : Situation) (way : Way) : Type 0 where
  pub turns : m.turns + way.left < 2 ^ 62
  pub loads : (processor : ℕ) → slice_index way.loads processor + way.left ≤ 2 ^ 40

-- what is due is a step of that processor
pub record IsStepOf (processor : ℕ) (due : Due) : Type 0 where
  pub stated : Option ℕ
  pub act_is : act_of due ≡ Step processor stated

-- these were done, and nothing else
pub record Does (dues : List Due) (m : Situation) (way : Way) (m' : Situation) (way' : Way) : Type 0 where
  pub machine : m' ≡ run_on m (turns_of m.shape m.code (course m way) dues)
  pub course_is : course m' way' ≡ behind_all m.shape m.code (course m way) dues

-- whatever is done after these, it is as all of it done before
abbrev pub LeadsTo : (dues rest : List Due) → (m : Situation) (way : Way) (now : Situation) (way_now : Way) → Type 0
LeadsTo dues rest m way now way_now = (m' : Situation) (way' : Way) → Does rest now way_now m' way' → Does dues m way m' way'
