-- The run of a schedule: the acts of its list, and after them those of all processors in turn.
use Rattle.std.specs.Prelude.{ℕ, zero, suc, List, [], ◌++◌, map, replicate}
use Rattle.std.specs.List.{range_with_len}
use Rattle.ppm_cells.specs.declared.shape.Shape.{Shape}
use Rattle.ppm_code.specs.declared.code.CodeParts.{CodeParts}
use Rattle.ppm_plan.specs.declared.schedule_item.ScheduleItem.{ScheduleItem}
use Rattle.ppm_plan.specs.Faults.{acts_of}
use Rattle.ppm_step.specs.declared.turn.Turn.{Turn}
use Rattle.ppm_step.specs.State.{State}
use Rattle.ppm_choice.specs.Course.{Due, Listed, InRound, Course, turns_of}

-- the list
abbrev pub listed : List ScheduleItem → List Due
listed items = map Listed (acts_of items)

-- after it the processors in turn, from 0
abbrev pub round : (processors : ℕ) → List Due
round processors = map InRound (range_with_len 0 processors)

-- round and round
abbrev pub rounds : (processors count : ℕ) → List Due
rounds processors zero = []
rounds processors (suc count) = round processors ++ rounds processors count

-- what a schedule says where so many acts may be made; as many rounds are enough, since in each a live processor acts, or none ever will
abbrev pub dues_of : (processors : ℕ) → List ScheduleItem → (turns : ℕ) → List Due
dues_of processors items turns = listed items ++ rounds processors turns

-- a run begins with no load made; there are 64 processors at most
abbrev pub beginning : State → (turns : ℕ) → Course
beginning state turns = record { state = state; loads = replicate 64 0; left = turns }

-- the turns of a schedule's run, of at most so many acts
abbrev pub schedule_turns : Shape → CodeParts → State → List ScheduleItem → (turns : ℕ) → List Turn
schedule_turns s code state items turns = turns_of s code (beginning state turns) (dues_of s.processors items turns)
