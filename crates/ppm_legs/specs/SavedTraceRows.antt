-- What follows from each status of `trace` of a saved text.
use Rattle.std.specs.Prelude.{◌≡◌, ℕ, List}
use Rattle.ppm_ports.specs.Ports.{Gets}
use Rattle.ppm_ports.specs.Outside.{Ports}
use Rattle.ppm_code.specs.declared.code.CodeParts.{CodeParts}
use Rattle.ppm_words.specs.declared.named_array.NamedArray.{NamedArray}
use Rattle.ppm_step.specs.Standings.{unknown_place}
use Rattle.ppm_saved_reader.specs.Rules.{saved_limit}
use Rattle.ppm_answers.specs.declared.answer.Answer.{Answer}
use Rattle.ppm_answers.specs.declared.answer.Answer.TheVariants as answers
use Rattle.ppm_answers.specs.declared.saved.SavedRefusal.{SavedRefusal}
use Rattle.ppm_answers.specs.declared.status.Status.{Status}
use Rattle.ppm_answers.specs.declared.status.Status.TheVariants as statuses
use Rattle.ppm_answers.specs.Reading.{ReadHas}
use Rattle.ppm_answers.specs.Rows.{PortsSay, TextRows, IsShown, IsDone}
use Rattle.ppm_answers.specs.Texts.{broken_text, saved_line}
use Rattle.ppm_cli.specs.declared.trace.TraceSavedOptions.{TraceSavedOptions}
use Rattle.ppm_outcomes.specs.AsCode.{MayRun}
use Rattle.ppm_outcomes.specs.CodeResumes.{IsLeftByCode}
use Rattle.ppm_legs.specs.SavedTexts.{IsBroken, RefusesSchedule}
use Rattle.ppm_legs.specs.SavedTraces.{TraceHas, TraceMay, text_by}

module _ (options : TraceSavedOptions) (schedule : List ℕ) (o : Ports) where
  -- the text that was read has this answer, with these options and this schedule
  abbrev pub HasRead : Answer → Type 0
  HasRead answer = ReadHas saved_limit (TraceHas options schedule) o.source answer

  -- the run from the state of the text that was read is told, whatever it came to, and out got exactly what is told of it
  pub record WritesTrace : Type 0 where
    pub text : List ℕ
    pub read : HasRead (answers.Traced text)
    pub tells : let h = read.2.has in text ≡ text_by options h.items read.2.state h.has.start
    pub gets : Gets o.out text

  -- the text that was read is that of no state, for this fault, and err got exactly its line
  abbrev pub WritesFault : Type 0
  WritesFault = (r : SavedRefusal) × HasRead (answers.SavedRefused r) × Gets o.err (saved_line r)

  -- its finish word stands for nothing, so no code left it, and err got exactly the line that says so
  pub record WritesBroken : Type 0 where
    pub read : HasRead (answers.Broken unknown_place)
    pub broken : IsBroken read.2.state
    pub made : (code : CodeParts) (input : List NamedArray) → MayRun code input → ¬ IsLeftByCode code input read.2.state
    pub gets : Gets o.err (broken_text unknown_place)

  -- what each status says; the others never come
  abbrev pub TraceSays : Status → Type 0
  TraceSays statuses.Ended = WritesTrace
  TraceSays statuses.SavedRefused = WritesFault
  TraceSays statuses.WordsRefused = RefusesSchedule schedule o
  TraceSays statuses.Broken = WritesBroken
  TraceSays status = PortsSay o status

  -- The rows of `trace` of a saved text with such options and such a schedule. The answer that a text has is written, whichever it is.
  pub record SavedTraceRows (status : Status) : Type 0 where
    pub rows : TextRows saved_limit (TraceHas options schedule) TraceSays o status
    pub shown : IsShown (TraceHas options schedule) o status

-- such a trace is done: an answer that may come was delivered, and its rows hold
abbrev pub IsTraced : TraceSavedOptions → (schedule : List ℕ) → Ports → Status → Type 0
IsTraced options schedule = IsDone (TraceMay options schedule) (SavedTraceRows options schedule)
