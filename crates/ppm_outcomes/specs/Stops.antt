-- What `stop` answers, and when it may.
use Rattle.std.specs.Prelude.{◌≡◌, ℕ, List, length, map}
use Rattle.ppm_ports.specs.Ports.{Port}
use Rattle.ppm_text.specs.Limits.{text_limit}
use Rattle.ppm_cells.specs.declared.shape.Takeover.TheVariants.{ByPlaces}
use Rattle.ppm_core.specs.Situation.{Situation}
use Rattle.ppm_plan.specs.declared.schedule_item.ScheduleItem.{ScheduleItem}
use Rattle.ppm_plan.specs.Forms.{schedule_form}
use Rattle.ppm_plan.specs.Refusals.{IsKeeper}
use Rattle.ppm_tree.specs.Tree.{ProgramTree}
use Rattle.ppm_tree.specs.Program.{initial_arrays}
use Rattle.ppm_code.specs.declared.code.CodeParts.{CodeParts}
use Rattle.ppm_cut_code.specs.Routines.{code_of}
use Rattle.ppm_words.specs.declared.named_array.NamedArray.{NamedArray}
use Rattle.ppm_answers.specs.declared.answer.Answer.{Answer}
use Rattle.ppm_answers.specs.declared.answer.Answer.TheVariants as answers
use Rattle.ppm_answers.specs.Reading.{AreOne, FrontsDecide}
use Rattle.ppm_cli.specs.declared.stop.StopOptions.{StopOptions}
use Rattle.ppm_cli.specs.Words.{AreStopped}
use Rattle.ppm_following.specs.Followed.{followed}
use Rattle.ppm_loading.specs.declared.loading.Sizes.{Sizes}
use Rattle.ppm_loading.specs.Telling.{MayBeRun}
use Rattle.ppm_loading.specs.Loading.{OpensRun}
use Rattle.ppm_loading.specs.Planned.{PlannedHas, PlannedMay, HasSomeAnswer}
use Rattle.ppm_loading.specs.Programs as programs
use Rattle.ppm_saved.specs.Text.{saved_text}
use Rattle.ppm_saved.specs.declared.names.NamedLength.{NamedLength}
use Rattle.ppm_saved_reader.specs.Correct.{HasState, IsSavedText}

-- the machine's sizes, as the options say them; a place is taken over as a whole
abbrev pub sizes_of : StopOptions → Sizes
sizes_of o = record { processors = o.processors; room = o.room; slots = o.slots; takeover = ByPlaces }

-- arrays without their values
abbrev pub names_of : List NamedArray → List NamedLength
names_of arrays = map (λ a. record { name = a.name; len = length a.values }) arrays

-- the saved text of a machine with arrays of these names and lengths: its sizes, its code and its words
abbrev pub text_of : Situation → List NamedArray → List ℕ
text_of m arrays = saved_text m.shape (names_of arrays) m.code m.state.words

-- it is one from which exactly this machine's sizes, arrays, code and words are read, whether it is resumed or not
abbrev pub IsReadBack : Situation → List NamedArray → Type 0
IsReadBack m arrays = IsSavedText (text_of m arrays) m.shape (names_of arrays) m.code m.state.words

-- The answer of a code on an input by the items of a schedule: the saved text of the machine after the run that these say, of at most so many acts,
-- whatever its finish word is. The run is from the machine with which a run of the code on these arrays begins, with the schedule's keeper.
pub record CodeHas (options : StopOptions) (items : List ScheduleItem) (code : CodeParts) (input : List NamedArray) (answer : Answer) : Type 0 where
  pub keeper : ℕ
  pub spared : IsKeeper schedule_form items keeper
  pub start : Situation
  pub opens : OpensRun (sizes_of options) code input keeper start
  pub saves : answer ≡ answers.Saved (text_of (followed start items options.after) input)

-- A code on an input has this answer. If the code may be resumed, exactly this machine's state is read from the text; and if a state is read from
-- it, the code may be resumed. Of a machine in memory it is known that its numbers fit 64 bits.
pub record CodeReads (options : StopOptions) (items : List ScheduleItem) (code : CodeParts) (input : List NamedArray) (answer : Answer) : Type 0 where
  pub has : CodeHas options items code input answer
  pub read_back : MayBeRun code → IsReadBack (followed has.start items options.after) input
  pub only : HasState (text_of (followed has.start items options.after) input) → MayBeRun code

-- that of a program: of its code on the arrays that it starts with
abbrev pub ProgramHas : StopOptions → List ScheduleItem → ProgramTree → Answer → Type 0
ProgramHas options items t answer = CodeHas options items (code_of t) (initial_arrays t) answer

-- it is so, and the text is read back: of a machine in memory it is known that its numbers fit 64 bits
pub record ProgramReads (options : StopOptions) (items : List ScheduleItem) (t : ProgramTree) (answer : Answer) : Type 0 where
  pub has : ProgramHas options items t answer
  pub read_back : IsReadBack (followed has.start items options.after) (initial_arrays t)

-- that of a text: its program's, or its refusal
abbrev pub TextHas : StopOptions → List ScheduleItem → List ℕ → Answer → Type 0
TextHas options items text answer = programs.TextHas (ProgramHas options items) text answer

-- that of the text that was read
abbrev pub TextReads : StopOptions → List ScheduleItem → List ℕ → Answer → Type 0
TextReads options items text answer = programs.TextHas (ProgramReads options items) text answer

-- the answer of a text with such options and such a schedule: that the schedule is refused, or that by its items
abbrev pub StopHas : StopOptions → (schedule : List ℕ) → List ℕ → Answer → Type 0
StopHas options schedule text answer = PlannedHas schedule_form schedule options.processors (TextHas options) text answer

-- this holds with that of the text that was read
abbrev pub StopReads : StopOptions → (schedule : List ℕ) → List ℕ → Answer → Type 0
StopReads options schedule text answer = PlannedHas schedule_form schedule options.processors (TextReads options) text answer

-- the answers of `stop` with such options and such a schedule
abbrev pub StopMay : StopOptions → (schedule : List ℕ) → Port → Answer → Type 0
StopMay options schedule source answer =
    PlannedMay schedule_form schedule options.processors (TextReads options) text_limit source answer

-- With all options and all schedules two answers of a text are one, and what stands after more bytes than a text may have changes none;
-- with options in their ranges a text that is not refused has one.
pub record HaveOneAnswer : Type 0 where
  pub one : (options : StopOptions) (schedule : List ℕ) → AreOne (StopHas options schedule)
  pub front : (options : StopOptions) (schedule : List ℕ) → FrontsDecide text_limit (StopHas options schedule)
  pub front_read : (options : StopOptions) (schedule : List ℕ) → FrontsDecide text_limit (StopReads options schedule)
  pub some : (options : StopOptions) (schedule : List ℕ) → AreStopped options
      → HasSomeAnswer schedule_form schedule options.processors (TextHas options)
