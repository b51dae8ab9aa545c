-- Where a sweep stands in a run.
use Rattle.std.specs.Prelude.{◌≡◌, ◌≢◌, ◌⊎◌, ℕ, List, [], ◌∷◌, replicate}
use Rattle.ppm_words.specs.declared.outcome.Outcome.{Outcome}
use Rattle.ppm_plan.specs.declared.schedule_item.ScheduleItem.{ScheduleItem}
use Rattle.ppm_core.specs.Machine.{seen}
use Rattle.ppm_core.specs.Situation.{Situation, finish_in}
use Rattle.ppm_choice.specs.Course.{Due}
use Rattle.ppm_choice.specs.Schedules.{listed}
use Rattle.ppm_following.specs.declared.following.Way.{Way}
use Rattle.ppm_following.specs.Following.{course, IsReady, Does}
use Rattle.ppm_sweep.specs.declared.ahead.Coming.{Coming}
use Rattle.ppm_sweep.specs.declared.ahead.Coming.TheVariants as coming
use Rattle.ppm_sweep.specs.declared.spot.Spot.{Spot}
use Rattle.ppm_sweep.specs.Ahead.{dues_in}
use Rattle.ppm_sweep.specs.Meets.{HasArraysOf}
use Rattle.ppm_sweep.specs.Sweep.{Place, passed, number_after}

-- the place in the run
abbrev pub place_of : Spot → Place
place_of spot = record { course = course (seen spot.machine) spot.way; front = spot.front.items; rest = spot.ahead.rest }

-- its counts are far from their ends, what is ahead is of its processors, and it has the arrays of the outcome that is wanted
pub record IsSpot (wanted : Outcome) (spot : Spot) : Type 0 where
  pub ready : IsReady (seen spot.machine) spot.way
  pub processors : spot.ahead.processors ≡ (seen spot.machine).shape.processors
  pub arrays : HasArraysOf (seen spot.machine) wanted

-- a run of at most so many acts begins
abbrev pub first_way : (turns : ℕ) → Way
first_way turns = record { loads = replicate 64 0; left = turns }

-- a place before the first act of a schedule's run, which has at most so many
pub record IsBeginning (turns : ℕ) (items : List ScheduleItem) (spot : Spot) : Type 0 where
  pub way : spot.way ≡ first_way turns
  pub front : spot.front.items ≡ []
  pub rest : spot.ahead.rest ≡ items
  pub faults : spot.faults ≡ 0
  pub number : spot.number ≡ 0

-- from a machine the run came here by the acts that are written
abbrev pub CameFrom : Situation → (first : Way) → Spot → Type 0
CameFrom m first spot = Does (listed spot.front.items) m first (seen spot.machine) spot.way

-- A later place of the run, or a place after a fault: sizes and code are the same, so is what was wanted, and from where the run came to the one, it
-- came to the other.
pub record GoesOn (old new : Spot) : Type 0 where
  pub shape : (seen new.machine).shape ≡ (seen old.machine).shape
  pub code : (seen new.machine).code ≡ (seen old.machine).code
  pub is_spot : (wanted : Outcome) → IsSpot wanted old → IsSpot wanted new
  pub came : (m : Situation) (first : Way) → CameFrom m first old → CameFrom m first new

-- this was due first, and the place is the one after it
pub record Advances (due : Due) (old new : Spot) : Type 0 where
  pub goes_on : GoesOn old new
  pub dues : dues_in old.ahead ≡ due ∷ dues_in new.ahead
  pub place : place_of new ≡ passed (seen old.machine).shape (seen old.machine).code (place_of old) due
  pub number : new.number ≡ number_after (seen old.machine).shape (seen old.machine).code old.number (place_of old) due
  pub faults : new.faults ≡ old.faults

-- nothing more is made where this comes next: no act is left, or it comes after the list and the finish word isn't 0
abbrev pub IsLast : Situation → Way → Coming → Type 0
IsLast m way (coming.Listed act) = way.left ≡ 0
IsLast m way (coming.InRound c) = (way.left ≡ 0) ⊎ (finish_in m ≢ 0)
