-- What `replay` answers where what is counted in its run is told, and when it may: what it answers without the counts, and these.
use Rattle.std.specs.Prelude.{◌≡◌, ℕ, List}
use Rattle.ppm_ports.specs.Ports.{Port}
use Rattle.ppm_text.specs.Limits.{text_limit}
use Rattle.ppm_plan.specs.declared.schedule_item.ScheduleItem.{ScheduleItem}
use Rattle.ppm_plan.specs.Forms.{schedule_form}
use Rattle.ppm_tree.specs.Tree.{ProgramTree}
use Rattle.ppm_tree.specs.Program.{initial_arrays}
use Rattle.ppm_cut_code.specs.Routines.{code_of}
use Rattle.ppm_code.specs.declared.code.CodeParts.{CodeParts}
use Rattle.ppm_words.specs.declared.named_array.NamedArray.{NamedArray}
use Rattle.ppm_answers.specs.declared.answer.Answer.{Answer}
use Rattle.ppm_answers.specs.declared.answer.Answer.TheVariants as answers
use Rattle.ppm_answers.specs.declared.run_counts.RunCounts.{RunCounts}
use Rattle.ppm_answers.specs.declared.sweep.Came.{Came}
use Rattle.ppm_answers.specs.Reading.{AreOne, FrontsDecide}
use Rattle.ppm_answers.specs.Texts.{tally_in}
use Rattle.ppm_cli.specs.declared.replay.ReplayOptions.{ReplayOptions}
use Rattle.ppm_cli.specs.Words.{AreReplayed}
use Rattle.ppm_loading.specs.Planned.{PlannedHas, PlannedMay, HasSomeAnswer}
use Rattle.ppm_loading.specs.Programs as programs
use Rattle.ppm_trace.specs.RunCounts.{run_counts}
use Rattle.ppm_following.specs.OrderedFaults.{ordered_faults}
use Rattle.ppm_outcomes.specs.CodeReplays.{turns_in}
use Rattle.ppm_outcomes.specs.Replays.{with_tally}
use Rattle.ppm_outcomes.specs.Replays as plain

-- The replay of a code on an input by the items of a schedule comes to this, and so much is counted in it: what it came to is the answer without
-- counts, with the forks and takes among these; and they are those of the turns that the schedule says, from the machine with which that run begins.
pub record IsCounted (options : ReplayOptions) (items : List ScheduleItem) (code : CodeParts) (input : List NamedArray) (came : Came)
    (counts : RunCounts) : Type 0 where
  pub has : plain.CodeHas options items code input (with_tally came (tally_in counts))
  pub counted : counts ≡ run_counts (ordered_faults items) has.start (turns_in options items has.start)

-- the answer of a code
abbrev pub CodeHas : ReplayOptions → List ScheduleItem → CodeParts → List NamedArray → Answer → Type 0
CodeHas options items code input (answers.ReplayedWith came counts) = IsCounted options items code input came counts
CodeHas options items code input answer = ⊥

-- that of a program: of its code on the arrays that it starts with
abbrev pub ProgramHas : ReplayOptions → List ScheduleItem → ProgramTree → Answer → Type 0
ProgramHas options items t answer = CodeHas options items (code_of t) (initial_arrays t) answer

-- that of a text: its program's, or its refusal
abbrev pub TextHas : ReplayOptions → List ScheduleItem → List ℕ → Answer → Type 0
TextHas options items text answer = programs.TextHas (ProgramHas options items) text answer

-- the answer of a text with such options and such a schedule: that the schedule is refused, or that by its items
abbrev pub CountedHas : ReplayOptions → (schedule : List ℕ) → List ℕ → Answer → Type 0
CountedHas options schedule text answer = PlannedHas schedule_form schedule options.processors (TextHas options) text answer

-- the answers of such a `replay` with such options and such a schedule
abbrev pub CountedMay : ReplayOptions → (schedule : List ℕ) → Port → Answer → Type 0
CountedMay options schedule source answer =
    PlannedMay schedule_form schedule options.processors (TextHas options) text_limit source answer

-- With all options and all schedules two answers of a text are one, and what stands after more bytes than a text may have changes none;
-- with options in their ranges a text that is not refused has one.
pub record HaveOneAnswer : Type 0 where
  pub one : (options : ReplayOptions) (schedule : List ℕ) → AreOne (CountedHas options schedule)
  pub front : (options : ReplayOptions) (schedule : List ℕ) → FrontsDecide text_limit (CountedHas options schedule)
  pub some : (options : ReplayOptions) (schedule : List ℕ) → AreReplayed options
      → HasSomeAnswer schedule_form schedule options.processors (TextHas options)
