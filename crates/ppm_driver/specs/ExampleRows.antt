-- What follows from each status of `self`.
use Rattle.std.specs.Prelude.{◌⊎◌}
use Rattle.ppm_words.specs.declared.outcome.Outcome.TheVariants as outcome
use Rattle.ppm_ports.specs.Ports.{Fails, Gets}
use Rattle.ppm_ports.specs.Outside.{Outside}
use Rattle.ppm_tree.specs.Tree.{ProgramTree}
use Rattle.ppm_program.specs.Programs.{HasProgram}
use Rattle.ppm_answers.specs.declared.answer.Answer.{Answer}
use Rattle.ppm_answers.specs.declared.status.Status.{Status}
use Rattle.ppm_answers.specs.declared.status.Status.TheVariants as statuses
use Rattle.ppm_answers.specs.Texts.{sums_text}
use Rattle.ppm_cli.specs.declared.example.SelfOptions.{SelfOptions}
use Rattle.ppm_driver.specs.Examples.{ExampleWants, HasRun, SumsUp, sums_drawn, text_of}
use Rattle.ppm_outcomes.specs.Meant.{EndsAsProgram, IsAsProgram}

module _ (options : SelfOptions) (o : Outside) where
  -- The run of the example's program ends with arrays, those with which the program ends serially: their first value is the sum of the values
  -- drawn, and the last one the last of these. The program's code makes one fork less than there are values. Out got exactly the line of this.
  pub record WritesSums : Type 0 where
    pub tree : ProgramTree
    pub program : HasProgram (text_of options) tree
    pub sums_up : SumsUp options o.told_before o.told_now tree (sums_drawn options)
    pub meant : EndsAsProgram sums_up.has.start sums_up.has.run.turns tree (outcome.Ended sums_up.arrays)
    pub gets : Gets o.out (sums_text (sums_drawn options))

  -- What each status says; the others never come. Where memory is wanting, what watchers were told is nothing, or it is of one run.
  abbrev pub ExampleSays : Status → Type 0
  ExampleSays statuses.Ended = WritesSums
  ExampleSays statuses.WriteFault = Fails o.out ⊎ Fails o.err
  ExampleSays statuses.NoMemory = ExampleWants options o.told_before o.told_now
  ExampleSays status = ⊥

  -- Each run that an answer is of is as the example's program. It is a law, in which no status occurs, so it holds also where out failed at the line.
  abbrev pub AreAsPrograms : Type 0
  AreAsPrograms = (t : ProgramTree) → HasProgram (text_of options) t → (answer : Answer)
      (h : HasRun options o.told_before o.told_now t answer) → IsAsProgram h.start h.run.turns t

  -- the rows of `self` with such options, in their ranges; what is in `meant` is a law of all such runs
  pub record ExampleRows (status : Status) : Type 0 where
    pub says : ExampleSays status
    pub meant : AreAsPrograms
