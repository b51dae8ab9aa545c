-- What `sweep` answers, and when it may.
use Rattle.std.specs.Prelude.{◌≡◌, ◌⊎◌, ◌==◌, ℕ, ◌+◌, if◌then◌else◌, true, List, ◌∷◌, ◌++◌, length, Option, Some, None}
use Rattle.std.specs.List.{AllByRecursion}
use Rattle.ppm_ports.specs.Ports.{Port}
use Rattle.ppm_text.specs.Limits.{text_limit}
use Rattle.ppm_words.specs.declared.named_array.NamedArray.{NamedArray}
use Rattle.ppm_words.specs.declared.outcome.Outcome.{Outcome}
use Rattle.ppm_words.specs.declared.outcome.Outcome.TheVariants as outcome
use Rattle.ppm_cells.specs.declared.shape.Takeover.{Takeover}
use Rattle.ppm_cells.specs.declared.shape.Takeover.TheVariants.{ByPlaces, ByEntries}
use Rattle.ppm_tree.specs.Tree.{ProgramTree}
use Rattle.ppm_tree.specs.Program.{initial_arrays}
use Rattle.ppm_cut_code.specs.Routines.{code_of}
use Rattle.ppm_code.specs.Tidy.{IsTidy}
use Rattle.ppm_code.specs.declared.code.CodeParts.{CodeParts}
use Rattle.ppm_depth.specs.Run.{IsWithin}
use Rattle.ppm_depth.specs.declared.depth.DepthRun.{DepthRun}
use Rattle.ppm_core.specs.Situation.{Situation}
use Rattle.ppm_plan.specs.declared.schedule_item.ScheduleItem.{ScheduleItem}
use Rattle.ppm_plan.specs.Forms.{schedule_form}
use Rattle.ppm_plan.specs.Refusals.{IsAccepted, IsKeeper}
use Rattle.ppm_sweep.specs.declared.options.Draws.{Draws}
use Rattle.ppm_sweep.specs.declared.options.Sweeping.{Sweeping}
use Rattle.ppm_sweep.specs.Found.{acts_in, faults_in, left_out, short, swept_by}
use Rattle.ppm_sweep.specs.Sweep.{Swept, is_short}
use Rattle.ppm_sweep.specs.Text.{schedule_text}
use Rattle.ppm_answers.specs.declared.answer.Answer.{Answer}
use Rattle.ppm_answers.specs.declared.answer.Answer.TheVariants as answers
use Rattle.ppm_answers.specs.declared.sweep.Came.{Came}
use Rattle.ppm_answers.specs.declared.sweep.Came.TheVariants as came
use Rattle.ppm_answers.specs.declared.sweep.Difference.{Difference}
use Rattle.ppm_answers.specs.declared.sweep.Sweep.{Sweep}
use Rattle.ppm_answers.specs.Reading.{AreOne, FrontsDecide}
use Rattle.ppm_cli.specs.declared.replay.ReplayOptions.{ReplayOptions}
use Rattle.ppm_cli.specs.declared.sweep.SweepOptions.{SweepOptions}
use Rattle.ppm_cli.specs.declared.takeover.SweptTakeovers.{SweptTakeovers}
use Rattle.ppm_cli.specs.Words.{AreSwept}
use Rattle.ppm_cli.specs.declared.takeover.SweptTakeovers.TheVariants as asked
use Rattle.ppm_loading.specs.Telling.{GoesOn, IsUntidy}
use Rattle.ppm_loading.specs.Loading.{OpensRun}
use Rattle.ppm_loading.specs.Planned.{PlannedHas, PlannedMay, HasSomeAnswer}
use Rattle.ppm_loading.specs.Programs as programs
use Rattle.ppm_outcomes.specs.Replays as replay

-- the options with which `replay` makes a run of the sweep
abbrev pub replay_options : SweepOptions → Takeover → ReplayOptions
replay_options o t = record { processors = o.processors; turns = o.turns; room = o.room; slots = o.slots; takeover = t }

-- what is drawn of the window: nothing, where no runs are asked for
abbrev pub draws_of : (runs seed : ℕ) → Option Draws
draws_of runs seed = if runs == 0 then None else Some (record { runs = runs; seed = seed })

-- how the sweep is made, where the base schedule has this keeper
abbrev pub sweeping_of : SweepOptions → (keeper : ℕ) → Sweeping
sweeping_of o keeper = record {
  keeper = keeper;
  turns = o.turns;
  faults = o.faults;
  window = record { from = o.from; acts = o.acts };
  drawn = draws_of o.runs o.seed;
}

-- a replay's answer is that its run came to the outcome; how many forks and takes it had is no part of that
abbrev pub IsOutcome : Outcome → Answer → Type 0
IsOutcome (outcome.Ended arrays) (answers.EndedWith values tally) = values ≡ arrays
IsOutcome (outcome.Trapped trap line) (answers.TrappedWith met at tally) = (met ≡ trap) × (at ≡ line)
IsOutcome o answer = ⊥

-- a replay's answer, without its tally
abbrev pub Tells : Came → Answer → Type 0
Tells (came.Ended arrays) (answers.EndedWith values tally) = arrays ≡ values
Tells (came.Trapped trap line) (answers.TrappedWith met at tally) = (trap ≡ met) × (line ≡ at)
Tells (came.Unfinished acts) (answers.Unfinished made) = acts ≡ made
Tells (came.OutOfRoom place) (answers.OutOfRoom full) = place ≡ full
Tells (came.Broken place) (answers.Broken broken) = place ≡ broken
Tells c answer = ⊥

-- two counts together
abbrev pub sum_of : Sweep → Sweep → Sweep
sum_of a b = record { runs = a.runs + b.runs; met = a.met + b.met; acts = a.acts + b.acts; left = a.left + b.left }

-- The sweep over a base schedule with these items, of a code on an input, that wants this outcome.
module _ (o : SweepOptions) (items : List ScheduleItem) (code : CodeParts) (input : List NamedArray) (wanted : Outcome) where
  -- the replay of a schedule of the sweep has this answer
  abbrev pub Replays : Takeover → Swept → Answer → Type 0
  Replays t v answer = replay.CodeHas (replay_options o t) v.items code input answer

  -- it comes to the outcome
  abbrev pub Agrees : Takeover → Swept → Type 0
  Agrees t v = (answer : Answer) × Replays t v answer × IsOutcome wanted answer

  -- the machine with which all runs under a takeover begin, with the keeper of the base schedule
  pub record Begins (t : Takeover) : Type 0 where
    pub keeper : ℕ
    pub spared : IsKeeper schedule_form items keeper
    pub start : Situation
    pub opens : OpensRun (replay.sizes_of (replay_options o t)) code input keeper start

  -- the schedules of the sweep, in their order
  abbrev pub schedules : {t : Takeover} → Begins t → List Swept
  schedules b = swept_by b.start items (sweeping_of o b.keeper)

  -- The replay of each schedule that has no more items than a schedule may comes to the outcome. So many replays were made, with so many faults,
  -- each of which is met, and so many acts in all; and so many schedules have more items, and were left out.
  pub record AllAgree (t : Takeover) (counts : Sweep) : Type 0 where
    pub begins : Begins t
    pub all : AllByRecursion (Agrees t) (short (schedules begins))
    pub runs : counts.runs ≡ length (short (schedules begins))
    pub met : counts.met ≡ faults_in (short (schedules begins))
    pub acts : counts.acts ≡ acts_in begins.start o.turns wanted (short (schedules begins))
    pub left : counts.left ≡ length (left_out (schedules begins))

  -- The first of these schedules whose replay doesn't: its text, which `replay` reads as its items, and what its replay comes to.
  pub record FirstDiffers (t : Takeover) (d : Difference) : Type 0 where
    pub begins : Begins t
    pub before : List Swept
    pub first : Swept
    pub after : List Swept
    pub schedules_are : schedules begins ≡ before ++ (first ∷ after)
    pub few : is_short first ≡ true
    pub all : AllByRecursion (Agrees t) (short before)
    pub takeover : d.takeover ≡ t
    pub text : d.schedule ≡ schedule_text first.items
    pub reads : IsAccepted schedule_form d.schedule o.processors first.items
    pub answer : Answer
    pub replays : Replays t first answer
    pub differs : ¬ IsOutcome wanted answer
    pub tells : Tells d.came answer

  -- under each takeover that is asked all agree, and the counts are those of both
  abbrev pub AllOf : SweptTakeovers → Sweep → Type 0
  AllOf asked.ByPlaces counts = AllAgree ByPlaces counts
  AllOf asked.ByEntries counts = AllAgree ByEntries counts
  AllOf asked.Both counts = (a : Sweep) × (b : Sweep) × AllAgree ByPlaces a × AllAgree ByEntries b × (counts ≡ sum_of a b)

  -- the first that differs: by entries one comes first only where all agree by places
  abbrev pub FirstOf : SweptTakeovers → Difference → Type 0
  FirstOf asked.ByPlaces d = FirstDiffers ByPlaces d
  FirstOf asked.ByEntries d = FirstDiffers ByEntries d
  FirstOf asked.Both d = FirstDiffers ByPlaces d ⊎ ((a : Sweep) × AllAgree ByPlaces a × FirstDiffers ByEntries d)

module _ (o : SweepOptions) (items : List ScheduleItem) (code : CodeParts) (input : List NamedArray) where
  -- the code is tidy, its depth-first run comes within the capsules to an outcome, and this holds of that
  pub record WithOutcome (Holds : Outcome → Type 0) : Type 0 where
    pub tidy : IsTidy code
    pub run : DepthRun
    pub within : IsWithin code input o.capsules run
    pub holds : Holds run.outcome

  -- the answer of a code on an input by the items of a base schedule
  abbrev pub CodeHas : Answer → Type 0
  CodeHas (answers.Untidy u) = IsUntidy code input u
  CodeHas (answers.NotWithinCapsules n) = (n ≡ o.capsules) × GoesOn o.capsules code input
  CodeHas (answers.Swept counts) = WithOutcome (λ wanted. AllOf o items code input wanted o.takeover counts)
  CodeHas (answers.Differs d) = WithOutcome (λ wanted. FirstOf o items code input wanted o.takeover d)
  CodeHas answer = ⊥

-- that of a program: of its code on the arrays that it starts with
abbrev pub ProgramHas : SweepOptions → List ScheduleItem → ProgramTree → Answer → Type 0
ProgramHas o items t answer = CodeHas o items (code_of t) (initial_arrays t) answer

-- that of a text: its program's, or its refusal
abbrev pub TextHas : SweepOptions → List ScheduleItem → List ℕ → Answer → Type 0
TextHas o items text answer = programs.TextHas (ProgramHas o items) text answer

-- the answer of a text with such options and such a schedule: that the schedule is refused, or that by its items
abbrev pub SweepHas : SweepOptions → (schedule : List ℕ) → List ℕ → Answer → Type 0
SweepHas o schedule text answer = PlannedHas schedule_form schedule o.processors (TextHas o) text answer

-- the answers of `sweep` with such options and such a schedule
abbrev pub SweepMay : SweepOptions → (schedule : List ℕ) → Port → Answer → Type 0
SweepMay o schedule source answer = PlannedMay schedule_form schedule o.processors (TextHas o) text_limit source answer

-- With all options and all schedules two answers of a text are one, and what stands after more bytes than a text may have changes none; with
-- options in their ranges a text that is not refused has one.
pub record HaveOneAnswer : Type 0 where
  pub one : (o : SweepOptions) (schedule : List ℕ) → AreOne (SweepHas o schedule)
  pub front : (o : SweepOptions) (schedule : List ℕ) → FrontsDecide text_limit (SweepHas o schedule)
  pub some : (o : SweepOptions) (schedule : List ℕ) → AreSwept o → HasSomeAnswer schedule_form schedule o.processors (TextHas o)
