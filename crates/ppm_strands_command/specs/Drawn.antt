-- The command `strands` by schedules that are drawn: what it says of a text, and when it may give each answer.
use Rattle.std.specs.Prelude.{◌≡◌, ◌+◌, ℕ, List, Option, Some, None}
use Rattle.ppm_words.specs.declared.named_array.NamedArray.{NamedArray}
use Rattle.ppm_ports.specs.Ports.{Port}
use Rattle.ppm_case.specs.Rules.{case_limit}
use Rattle.ppm_plan.specs.declared.strand_item.StrandItem.{StrandItem}
use Rattle.ppm_racy.specs.declared.code.RacyParts.{RacyParts}
use Rattle.ppm_strand_runs.specs.declared.drawn.DrawnRun.{DrawnRun}
use Rattle.ppm_strand_runs.specs.Draws.{TellsDrawn, schedule_drawn}
use Rattle.ppm_cli.specs.declared.strands.DrawnStrandsOptions.{DrawnStrandsOptions}
use Rattle.ppm_answers.specs.declared.answer.Answer.{Answer}
use Rattle.ppm_answers.specs.declared.answer.Answer.TheVariants as answers
use Rattle.ppm_answers.specs.Reading.{AreOne, FrontsDecide, JudgingMay}
use Rattle.ppm_strands_command.specs.Cases.{HasOfCase, OfTidy}
use Rattle.ppm_strands_command.specs.Lines.{drawn_line}
use Rattle.ppm_strands_command.specs.Strands.{run_answer}

-- the schedule with a number, of a code on arrays
abbrev pub schedule_of : DrawnStrandsOptions → RacyParts → List NamedArray → (number : ℕ) → List StrandItem
schedule_of o code input number = schedule_drawn code input o.seed o.strands o.steps o.turns number

-- the answer by the first run in which something falls, after the line of its schedule, or that there is none
abbrev pub drawn_answer : DrawnStrandsOptions → RacyParts → List NamedArray → Option DrawnRun → Answer
drawn_answer o code input None = answers.AllStood o.runs
drawn_answer o code input (Some d) = run_answer (drawn_line (o.seed + d.number) (schedule_of o code input d.number)) o.form input d.run

-- the answer of a tidy case by schedules that are drawn
pub record OfDraws (o : DrawnStrandsOptions) (code : RacyParts) (input : List NamedArray) (answer : Answer) : Type 0 where
  pub found : Option DrawnRun
  pub is : TellsDrawn code input o.seed o.strands o.steps o.turns o.runs found
  pub tells : answer ≡ drawn_answer o code input found

-- that of a text: its case's, or its refusal
abbrev pub DrawnHas : DrawnStrandsOptions → List ℕ → Answer → Type 0
DrawnHas o = HasOfCase (OfTidy (OfDraws o))

-- the answers of `strands` with such options
abbrev pub DrawnMay : DrawnStrandsOptions → Port → Answer → Type 0
DrawnMay o source answer = JudgingMay case_limit (DrawnHas o) source answer

-- with all options two answers of a text are one, and what stands after more bytes than a case may have changes none
pub record HaveOneDrawnAnswer : Type 0 where
  pub one : (o : DrawnStrandsOptions) → AreOne (DrawnHas o)
  pub front : (o : DrawnStrandsOptions) → FrontsDecide case_limit (DrawnHas o)
