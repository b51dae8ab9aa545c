-- What a sweep finds: that all its schedules come to an outcome, or the first that does not.
use Rattle.std.specs.Prelude.{◌≡◌, ℕ, ◌+◌, List, [], ◌∷◌, ◌++◌, length, not, true, Result, Ok, Err}
use Rattle.std.specs.List.{AllByRecursion, filter}
use Rattle.ppm_words.specs.declared.outcome.Outcome.{Outcome}
use Rattle.ppm_plan.specs.declared.schedule_item.ScheduleItem.{ScheduleItem}
use Rattle.ppm_core.specs.Machine.{seen}
use Rattle.ppm_core.specs.Situation.{Situation}
use Rattle.ppm_following.specs.Followed.{followed}
use Rattle.ppm_sweep.specs.declared.found.Differing.{Differing}
use Rattle.ppm_sweep.specs.declared.found.Stop.{Stop}
use Rattle.ppm_sweep.specs.declared.found.Stop.TheVariants.{Differs, NoMemory}
use Rattle.ppm_sweep.specs.declared.found.Tally.{Tally}
use Rattle.ppm_sweep.specs.Meets.{Meets}
use Rattle.ppm_sweep.specs.declared.options.Sweeping.{Sweeping}
use Rattle.ppm_sweep.specs.Sweep.{Swept, is_short, sweep_of}
use Rattle.ppm_sweep.specs.Windows.{act_count, windows_for}

-- the faults that a sweep has put into its schedules; each of them is met
abbrev pub faults_in : List Swept → ℕ
faults_in [] = 0
faults_in (v ∷ swept) = v.faults + faults_in swept

-- those that have no more items than a schedule may: the others are left out
abbrev pub short : List Swept → List Swept
short swept = filter is_short swept

abbrev pub left_out : List Swept → List Swept
left_out swept = filter (λ v. not (is_short v)) swept

-- A machine, how many acts a run has at most, and the outcome that is wanted.
module _ (m : Situation) (turns : ℕ) (wanted : Outcome) where
  -- how many acts the runs of the schedules make
  abbrev pub acts_in : List Swept → ℕ
  acts_in [] = 0
  acts_in (v ∷ swept) = act_count m v.items turns + acts_in swept

  -- the run of a schedule comes to the outcome
  abbrev pub Comes : Swept → Type 0
  Comes v = Meets wanted (followed m v.items turns)

  -- all that are short do, and they are counted: the schedules, their faults, and the acts of their runs; so are those that are left out
  pub record AllCome (swept : List Swept) (old new : Tally) : Type 0 where
    pub all : AllByRecursion Comes (short swept)
    pub runs : new.runs ≡ old.runs + length (short swept)
    pub met : new.met ≡ old.met + faults_in (short swept)
    pub acts : new.acts ≡ old.acts + acts_in (short swept)
    pub left : new.left ≡ old.left + length (left_out swept)

  -- this is the first of those that are short that does not, with the machine after its run
  pub record FirstDiffers (swept : List Swept) (d : Differing) : Type 0 where
    pub before : List Swept
    pub first : Swept
    pub after : List Swept
    pub swept_are : swept ≡ before ++ (first ∷ after)
    pub few : is_short first ≡ true
    pub all : AllByRecursion Comes (short before)
    pub items : d.items.items ≡ first.items
    pub machine : seen d.machine ≡ followed m first.items turns
    pub differs : ¬ Comes first

  -- a sweep stops at the first that does not, or because memory is wanting
  abbrev pub Stops : List Swept → Stop → Type 0
  Stops swept (Differs d) = FirstDiffers swept d
  Stops swept NoMemory = Unit {0}

  -- what was found; memory may be wanting at any time
  abbrev pub Finds : List Swept → (old new : Tally) → Result Unit Stop → Type 0
  Finds swept old new (Ok _) = AllCome swept old new
  Finds swept old new (Err stop) = Stops swept stop

-- nothing is counted
abbrev pub zero_tally : Tally
zero_tally = record { runs = 0; met = 0; acts = 0; left = 0 }

-- the schedules of a sweep over a base schedule from a machine
abbrev pub swept_by : Situation → List ScheduleItem → Sweeping → List Swept
swept_by m items o = sweep_of m.shape m.code o.keeper o.turns m.state items o.faults (windows_for m items o)
