-- What `replay` answers, and when it may.
use Rattle.std.specs.Prelude.{◌≡◌, ◌≢◌, ℕ, List, Some}
use Rattle.ppm_ports.specs.Ports.{Port}
use Rattle.ppm_text.specs.Limits.{text_limit}
use Rattle.ppm_core.specs.Situation.{Situation, finish_in}
use Rattle.ppm_plan.specs.declared.schedule_item.ScheduleItem.{ScheduleItem}
use Rattle.ppm_plan.specs.Forms.{schedule_form}
use Rattle.ppm_plan.specs.Refusals.{IsKeeper}
use Rattle.ppm_step.specs.Laws.{IsProposedWord}
use Rattle.ppm_tree.specs.Tree.{ProgramTree}
use Rattle.ppm_tree.specs.Program.{initial_arrays}
use Rattle.ppm_cut_code.specs.Routines.{code_of}
use Rattle.ppm_code.specs.declared.code.CodeParts.{CodeParts}
use Rattle.ppm_words.specs.declared.named_array.NamedArray.{NamedArray}
use Rattle.ppm_answers.specs.declared.answer.Answer.{Answer}
use Rattle.ppm_answers.specs.declared.answer.Answer.TheVariants as answers
use Rattle.ppm_answers.specs.declared.sweep.Came.{Came}
use Rattle.ppm_answers.specs.declared.sweep.Came.TheVariants as came
use Rattle.ppm_answers.specs.declared.tally.Tally.{Tally}
use Rattle.ppm_answers.specs.Reading.{AreOne, FrontsDecide}
use Rattle.ppm_cli.specs.declared.replay.ReplayOptions.{ReplayOptions}
use Rattle.ppm_cli.specs.Words.{AreReplayed}
use Rattle.ppm_loading.specs.declared.loading.Sizes.{Sizes}
use Rattle.ppm_loading.specs.Loading.{OpensRun}
use Rattle.ppm_loading.specs.Planned.{PlannedHas, PlannedMay, HasSomeAnswer}
use Rattle.ppm_loading.specs.Programs as programs
use Rattle.ppm_choice.specs.Finishes.{FilledIfSaid}
use Rattle.ppm_loading.specs.Says.{IsOfWords}
use Rattle.ppm_choice.specs.Schedules.{schedule_turns}
use Rattle.ppm_following.specs.Followed.{followed}

-- the machine's sizes, as the options say them
abbrev pub sizes_of : ReplayOptions → Sizes
sizes_of o = record { processors = o.processors; room = o.room; slots = o.slots; takeover = o.takeover }

-- how many forks and takes a run had
abbrev pub tally_of : Situation → Tally
tally_of m = record { forks = m.forks; takes = m.takes }

-- the answer of a replay that came to this, with this tally
abbrev pub with_tally : Came → Tally → Answer
with_tally (came.Ended arrays) tally = answers.EndedWith arrays tally
with_tally (came.Trapped trap line) tally = answers.TrappedWith trap line tally
with_tally (came.Unfinished acts) tally = answers.Unfinished acts
with_tally (came.OutOfRoom place) tally = answers.OutOfRoom place
with_tally (came.Broken place) tally = answers.Broken place

-- the answer that a machine's words say after a replay of at most so many acts, from these arrays: with the counts of forks and takes, or
-- that it has not ended; no schedule lets a processor make all its turns
abbrev pub IsSaid : (turns : ℕ) → Situation → List NamedArray → Answer → Type 0
IsSaid turns m arrays answer =
    IsOfWords m.shape m.array_lengths m.state.words (λ values. answers.EndedWith values (tally_of m))
    (λ trap line. answers.TrappedWith trap line (tally_of m)) (λ processor a. ⊥) (λ a. a ≡ answers.Unfinished turns) arrays answer

-- the answer of a code on an input by the items of a schedule: what the machine's words say after the run that these say, from the machine with
-- which a run of the code on these arrays begins, with the schedule's keeper; a finish word after it that isn't 0 stands for what steps propose, and
-- where it is 0, exactly as many acts were made as may be; where it says that a pool is full, one of the turns found it so
pub record CodeHas (options : ReplayOptions) (items : List ScheduleItem) (code : CodeParts) (input : List NamedArray) (answer : Answer) : Type 0 where
  pub keeper : ℕ
  pub spared : IsKeeper schedule_form items keeper
  pub start : Situation
  pub opens : OpensRun (sizes_of options) code input keeper start
  pub proposed : finish_in (followed start items options.turns) ≢ 0
      → IsProposedWord options.processors (finish_in (followed start items options.turns))
  pub exact : finish_in (followed start items options.turns) ≡ 0 → (followed start items options.turns).turns ≡ options.turns
  pub filled : FilledIfSaid start.shape start.code start.state (schedule_turns start.shape start.code start.state items options.turns)
      (finish_in (followed start items options.turns))
  pub says : IsSaid options.turns (followed start items options.turns) input answer

-- that of a program: of its code on the arrays that it starts with
abbrev pub ProgramHas : ReplayOptions → List ScheduleItem → ProgramTree → Answer → Type 0
ProgramHas options items t answer = CodeHas options items (code_of t) (initial_arrays t) answer

-- that of a text: its program's, or its refusal
abbrev pub TextHas : ReplayOptions → List ScheduleItem → List ℕ → Answer → Type 0
TextHas options items text answer = programs.TextHas (ProgramHas options items) text answer

-- the answer of a text with such options and such a schedule: that the schedule is refused, or that by its items
abbrev pub ReplayHas : ReplayOptions → (schedule : List ℕ) → List ℕ → Answer → Type 0
ReplayHas options schedule text answer = PlannedHas schedule_form schedule options.processors (TextHas options) text answer

-- the answers of `replay` with such options and such a schedule
abbrev pub ReplayMay : ReplayOptions → (schedule : List ℕ) → Port → Answer → Type 0
ReplayMay options schedule source answer =
    PlannedMay schedule_form schedule options.processors (TextHas options) text_limit source answer

-- With all options and all schedules two answers of a text are one, and what stands after more bytes than a text may have changes none;
-- with options in their ranges a text that is not refused has one.
pub record HaveOneAnswer : Type 0 where
  pub one : (options : ReplayOptions) (schedule : List ℕ) → AreOne (ReplayHas options schedule)
  pub front : (options : ReplayOptions) (schedule : List ℕ) → FrontsDecide text_limit (ReplayHas options schedule)
  pub some : (options : ReplayOptions) (schedule : List ℕ) → AreReplayed options
      → HasSomeAnswer schedule_form schedule options.processors (TextHas options)
