-- What follows from each status of `stop` of a saved text.
use Rattle.std.specs.Prelude.{◌≡◌, ◌<◌, ℕ, ◌+◌, ◌^◌, List}
use Rattle.ppm_words.specs.declared.named_array.NamedArray.{NamedArray}
use Rattle.ppm_ports.specs.Ports.{Gets}
use Rattle.ppm_ports.specs.Outside.{Ports}
use Rattle.ppm_code.specs.declared.code.CodeParts.{CodeParts}
use Rattle.ppm_step.specs.Standings.{unknown_place}
use Rattle.ppm_saved_reader.specs.Rules.{saved_limit}
use Rattle.ppm_answers.specs.declared.answer.Answer.{Answer}
use Rattle.ppm_answers.specs.declared.answer.Answer.TheVariants as answers
use Rattle.ppm_answers.specs.declared.saved.SavedRefusal.{SavedRefusal}
use Rattle.ppm_answers.specs.declared.status.Status.{Status}
use Rattle.ppm_answers.specs.declared.status.Status.TheVariants as statuses
use Rattle.ppm_answers.specs.Reading.{ReadHas}
use Rattle.ppm_answers.specs.Rows.{PortsSay, TextRows, IsShown, IsDone}
use Rattle.ppm_answers.specs.Texts.{broken_text, saved_line}
use Rattle.ppm_cli.specs.declared.stop.StopSavedOptions.{StopSavedOptions}
use Rattle.ppm_outcomes.specs.AsCode.{MayRun}
use Rattle.ppm_outcomes.specs.CodeResumes.{IsLeftByCode}
use Rattle.ppm_outcomes.specs.Resumes.{IsTextOf}
use Rattle.ppm_outcomes.specs.Strikes.{scheduled_faults}
use Rattle.ppm_legs.specs.Chains.{IsTextOfChain}
use Rattle.ppm_legs.specs.SavedTexts.{IsBroken, RefusesSchedule}
use Rattle.ppm_legs.specs.SavedStops.{StopHas, StopReads, StopMay, state_after, text_of}

module _ (options : StopSavedOptions) (schedule : List ℕ) (o : Ports) where
  -- the text that was read has this answer, with these options and this schedule
  abbrev pub HasRead : Answer → Type 0
  HasRead answer = ReadHas saved_limit (StopReads options schedule) o.source answer

  -- the state after the run from the state of the text that was read is saved, and out got exactly its text, from which this state is read
  pub record WritesSaved : Type 0 where
    pub text : List ℕ
    pub read : HasRead (answers.Saved text)
    pub saves : let h = read.2.has in text ≡ text_of (state_after options h.items read.2.state h.has.has.start)
    pub read_back : let h = read.2.has in IsTextOf text (state_after options h.items read.2.state h.has.has.start)
    pub gets : Gets o.out text

  -- the text that was read is that of no state, for this fault, and err got exactly its line
  abbrev pub WritesFault : Type 0
  WritesFault = (r : SavedRefusal) × HasRead (answers.SavedRefused r) × Gets o.err (saved_line r)

  -- its finish word stands for nothing, so no code left it, and err got exactly the line that says so
  pub record WritesBroken : Type 0 where
    pub read : HasRead (answers.Broken unknown_place)
    pub broken : IsBroken read.2.state
    pub made : (code : CodeParts) (input : List NamedArray) → MayRun code input → ¬ IsLeftByCode code input read.2.state
    pub gets : Gets o.err (broken_text unknown_place)

  -- what each status says; the others never come
  abbrev pub StopSays : Status → Type 0
  StopSays statuses.Ended = WritesSaved
  StopSays statuses.SavedRefused = WritesFault
  StopSays statuses.WordsRefused = RefusesSchedule schedule o
  StopSays statuses.Broken = WritesBroken
  StopSays status = PortsSay o status

  -- What is saved of a text that a chain of stops of a sound code has written is a text of that chain, with one stop more, and as many faults more as
  -- the schedule has at most. It is a law, in which no status occurs, so it holds also where out failed at the saved text.
  abbrev pub GoesOnChains : Type 0
  GoesOnChains = (text : List ℕ) (read : HasRead (answers.Saved text)) (code : CodeParts) (input : List NamedArray) → MayRun code input
      → (stops faults : ℕ) → IsTextOfChain code input stops faults read.0 → stops < 2 ^ 50
      → IsTextOfChain code input (stops + 1) (faults + scheduled_faults read.2.has.items) text

  -- The rows of `stop` of a saved text with such options and such a schedule. The answer that a text has is written, whichever it is.
  pub record SavedStopRows (status : Status) : Type 0 where
    pub rows : TextRows saved_limit (StopReads options schedule) StopSays o status
    pub shown : IsShown (StopHas options schedule) o status
    pub chains : GoesOnChains

-- such a stop is done: an answer that may come was delivered, and its rows hold
abbrev pub IsStopped : StopSavedOptions → (schedule : List ℕ) → Ports → Status → Type 0
IsStopped options schedule = IsDone (StopMay options schedule) (SavedStopRows options schedule)
