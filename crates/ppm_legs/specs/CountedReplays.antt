-- What `replay` answers of a saved text where what is counted in its run is told, and when it may: what it answers without the counts, and these. They
-- are of this leg alone: of its acts, of the faults that its schedule orders, and of what the pools have given out at its end.
use Rattle.std.specs.Prelude.{◌≡◌, ℕ, List}
use Rattle.ppm_ports.specs.Ports.{Port}
use Rattle.ppm_core.specs.Situation.{Situation}
use Rattle.ppm_plan.specs.declared.schedule_item.ScheduleItem.{ScheduleItem}
use Rattle.ppm_choice.specs.Schedules.{schedule_turns}
use Rattle.ppm_following.specs.Followed.{followed}
use Rattle.ppm_following.specs.OrderedFaults.{ordered_faults}
use Rattle.ppm_trace.specs.RunCounts.{run_counts}
use Rattle.ppm_saved_reader.specs.Rules.{saved_limit}
use Rattle.ppm_answers.specs.declared.answer.Answer.{Answer}
use Rattle.ppm_answers.specs.declared.answer.Answer.TheVariants as answers
use Rattle.ppm_answers.specs.declared.run_counts.RunCounts.{RunCounts}
use Rattle.ppm_answers.specs.declared.sweep.Came.{Came}
use Rattle.ppm_answers.specs.Reading.{AreOne, FrontsDecide}
use Rattle.ppm_answers.specs.Texts.{tally_in}
use Rattle.ppm_cli.specs.declared.replay.ReplaySavedOptions.{ReplaySavedOptions}
use Rattle.ppm_outcomes.specs.Replays.{with_tally}
use Rattle.ppm_outcomes.specs.Resumes.{SavedState, GoesOnFrom}
use Rattle.ppm_legs.specs.SavedReplays.{StateReplays, turns_by}
use Rattle.ppm_legs.specs.SavedTexts.{TextHas, LegMay}

-- the state after the acts of a schedule, at most so many, of fresh processors that go on from a state, and what is counted in these acts
pub record IsCountedLegOf (z : SavedState) (items : List ScheduleItem) (acts : ℕ) (m : Situation) (counts : RunCounts) : Type 0 where
  pub start : Situation
  pub goes_on : GoesOnFrom z start
  pub ends : m ≡ followed start items acts
  pub counted : counts ≡ run_counts (ordered_faults items) start (schedule_turns start.shape start.code start.state items acts)

-- The run from a state by the items of a schedule comes to this, and so much is counted in it: what it came to is the answer without counts, with the
-- forks and takes among these; and they are those of the turns that the schedule says, from the machine with which that run begins.
pub record IsCounted (options : ReplaySavedOptions) (items : List ScheduleItem) (z : SavedState) (came : Came) (counts : RunCounts) : Type 0 where
  pub has : StateReplays options items z (with_tally came (tally_in counts))
  pub counted : counts ≡ run_counts (ordered_faults items) has.start (turns_by options items has.start)

-- the answer of a state by the items of a schedule
abbrev pub StateCounts : ReplaySavedOptions → List ScheduleItem → SavedState → Answer → Type 0
StateCounts options items z (answers.ReplayedWith came counts) = IsCounted options items z came counts
StateCounts options items z answer = ⊥

-- the answer of a text with such options and such a schedule
abbrev pub CountedHas : ReplaySavedOptions → (schedule : List ℕ) → List ℕ → Answer → Type 0
CountedHas options schedule text answer = TextHas (StateCounts options) schedule text answer

-- the answers of such a `replay` of a saved text with such options and such a schedule
abbrev pub CountedMay : ReplaySavedOptions → (schedule : List ℕ) → Port → Answer → Type 0
CountedMay options schedule source answer = LegMay (StateCounts options) schedule source answer

-- With all options and all schedules two answers of a text are one, and what stands after more bytes than a saved text may have changes none.
pub record HaveOneAnswer : Type 0 where
  pub one : (options : ReplaySavedOptions) (schedule : List ℕ) → AreOne (CountedHas options schedule)
  pub front : (options : ReplaySavedOptions) (schedule : List ℕ) → FrontsDecide saved_limit (CountedHas options schedule)
