-- The command `strands` by a schedule: what it says of a text, and when it may give each answer.
use Rattle.std.specs.Prelude.{◌≡◌, ◌++◌, ℕ, List, [], Option, Some, None}
use Rattle.ppm_words.specs.declared.named_array.NamedArray.{NamedArray}
use Rattle.ppm_ports.specs.Ports.{Port}
use Rattle.ppm_case.specs.Rules.{case_limit}
use Rattle.ppm_depth.specs.Image.{arrays_in}
use Rattle.ppm_depth.specs.declared.frame.Finish.{Finish}
use Rattle.ppm_depth.specs.declared.frame.Finish.TheVariants.{Gave, Trapped}
use Rattle.ppm_plan.specs.declared.strand_item.StrandItem.{StrandItem}
use Rattle.ppm_plan.specs.Strands.{strand_form}
use Rattle.ppm_racy.specs.declared.code.RacyParts.{RacyParts}
use Rattle.ppm_interleaving.specs.Shows.{finish_in}
use Rattle.ppm_strand_runs.specs.declared.done.Fall.{Fall}
use Rattle.ppm_strand_runs.specs.declared.run.StrandRun.{StrandRun}
use Rattle.ppm_strand_runs.specs.Run.{IsRunOf}
use Rattle.ppm_cli.specs.declared.strands.StrandsForm.{StrandsForm}
use Rattle.ppm_cli.specs.declared.strands.StrandsForm.TheVariants as form
use Rattle.ppm_cli.specs.declared.strands.StrandsOptions.{StrandsOptions}
use Rattle.ppm_answers.specs.declared.sweep.Came.{Came}
use Rattle.ppm_answers.specs.declared.sweep.Came.TheVariants as came
use Rattle.ppm_answers.specs.declared.answer.Answer.{Answer}
use Rattle.ppm_answers.specs.declared.answer.Answer.TheVariants as answers
use Rattle.ppm_answers.specs.Reading.{AreOne, FrontsDecide}
use Rattle.ppm_loading.specs.Planned.{PlannedHas, PlannedMay}
use Rattle.ppm_strands_command.specs.Cases.{HasOfCase, OfTidy}
use Rattle.ppm_strands_command.specs.Lines.{done_lines, fall_text}

-- what a run came to, by how the root's strand is over: the arrays that the words stand for, a trap, or that so many turns were made and it is not
abbrev pub came_by : List NamedArray → (words : List ℕ) → (turns : ℕ) → Option Finish → Came
came_by input words turns (Some (Gave value)) = came.Ended (arrays_in input words)
came_by input words turns (Some (Trapped trap line)) = came.Trapped trap line
came_by input words turns None = came.Unfinished turns

abbrev pub came_of : List NamedArray → StrandRun → Came
came_of input run = came_by input run.machine.words.items run.turns (finish_in run.machine.strands.items 0)

-- the lines of a run in a form: those of the turns of which others saw something, or none
abbrev pub lines_of : StrandsForm → List NamedArray → StrandRun → List ℕ
lines_of form.Arrays input run = []
lines_of form.Text input run = done_lines input run.done.items

-- the answer by the first fall of a run, if there is one
abbrev pub answer_by : (lines : List ℕ) → Came → List NamedArray → Option Fall → Answer
answer_by lines c input None = answers.Stood lines c
answer_by lines c input (Some f) = answers.Fell lines c (fall_text input f)

-- that of a run, whose lines stand after a front
abbrev pub run_answer : (front : List ℕ) → StrandsForm → List NamedArray → StrandRun → Answer
run_answer front form input run = answer_by (front ++ lines_of form input run) (came_of input run) input run.fall

-- the answer of a tidy case by the items of a schedule: that of its run
pub record OfSchedule (options : StrandsOptions) (items : List StrandItem) (code : RacyParts) (input : List NamedArray) (answer : Answer) : Type 0 where
  pub run : StrandRun
  pub is : IsRunOf code input items options.turns run
  pub tells : answer ≡ run_answer [] options.form input run

-- that of a text: its case's, or its refusal
abbrev pub TextHas : StrandsOptions → List StrandItem → List ℕ → Answer → Type 0
TextHas options items text answer = HasOfCase (OfTidy (OfSchedule options items)) text answer

-- that of a text with such a schedule: that the schedule is refused, or that by its items. Any number names a strand, so it is for as many as there are.
abbrev pub StrandsHas : StrandsOptions → (schedule : List ℕ) → List ℕ → Answer → Type 0
StrandsHas options schedule text answer = PlannedHas strand_form schedule 1 (TextHas options) text answer

-- the answers of `strands` with such options and such a schedule
abbrev pub StrandsMay : StrandsOptions → (schedule : List ℕ) → Port → Answer → Type 0
StrandsMay options schedule source answer = PlannedMay strand_form schedule 1 (TextHas options) case_limit source answer

-- with all options and all schedules two answers of a text are one, and what stands after more bytes than a case may have changes none
pub record HaveOneAnswer : Type 0 where
  pub one : (options : StrandsOptions) (schedule : List ℕ) → AreOne (StrandsHas options schedule)
  pub front : (options : StrandsOptions) (schedule : List ℕ) → FrontsDecide case_limit (StrandsHas options schedule)
