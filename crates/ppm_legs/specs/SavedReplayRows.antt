-- What follows from each status of `replay` of a saved text.
use Rattle.std.specs.Prelude.{◌<◌, ℕ, ◌+◌, ◌^◌, List, ◌++◌}
use Rattle.ppm_words.specs.declared.named_array.NamedArray.{NamedArray}
use Rattle.ppm_words.specs.declared.trap.Trap.{Trap}
use Rattle.ppm_words.specs.declared.outcome.Outcome.{Outcome}
use Rattle.ppm_words.specs.declared.outcome.Outcome.TheVariants as outcome
use Rattle.ppm_ports.specs.Ports.{Gets}
use Rattle.ppm_ports.specs.Outside.{Ports}
use Rattle.ppm_code.specs.declared.code.CodeParts.{CodeParts}
use Rattle.ppm_plan.specs.declared.schedule_item.ScheduleItem.{ScheduleItem}
use Rattle.ppm_saved_reader.specs.Rules.{saved_limit}
use Rattle.ppm_answers.specs.declared.answer.Answer.{Answer}
use Rattle.ppm_answers.specs.declared.answer.Answer.TheVariants as answers
use Rattle.ppm_answers.specs.declared.saved.SavedRefusal.{SavedRefusal}
use Rattle.ppm_answers.specs.declared.status.Status.{Status}
use Rattle.ppm_answers.specs.declared.status.Status.TheVariants as statuses
use Rattle.ppm_answers.specs.declared.tally.Tally.{Tally}
use Rattle.ppm_answers.specs.Reading.{ReadHas}
use Rattle.ppm_answers.specs.Rows.{PortsSay, TextRows, IsShown, IsDone}
use Rattle.ppm_answers.specs.Texts.{arrays_text, trap_text, tally_text, unfinished_text, room_text, broken_text, saved_line}
use Rattle.ppm_cli.specs.declared.replay.ReplaySavedOptions.{ReplaySavedOptions}
use Rattle.ppm_outcomes.specs.AsCode.{MayRun, CodeNeedsMoreRoom}
use Rattle.ppm_outcomes.specs.CodeResumes.{IsLeftByCode, legs_of}
use Rattle.ppm_outcomes.specs.Legs.{worked_in_all}
use Rattle.ppm_outcomes.specs.LegsAsCode.{EndsAsCodeInAll}
use Rattle.ppm_outcomes.specs.Resumes.{SavedState}
use Rattle.ppm_legs.specs.SavedTexts.{RefusesSchedule}
use Rattle.ppm_legs.specs.SavedReplays.{ReplayHas, ReplayMay, StateReplays, ReplaysAreAsCode, turns_by}

module _ (options : ReplaySavedOptions) (schedule : List ℕ) (o : Ports) where
  -- the text that was read has this answer, with these options and this schedule
  abbrev pub HasRead : Answer → Type 0
  HasRead answer = ReadHas saved_limit (ReplayHas options schedule) o.source answer

  -- the run ends as each sound code that left the state of the text that was read, over all legs
  abbrev pub IsMeant : {items : List ScheduleItem} {z : SavedState} {answer : Answer} → StateReplays options items z answer → Outcome → Type 0
  IsMeant {items} {z} h end = (code : CodeParts) (input : List NamedArray) → MayRun code input → (left : IsLeftByCode code input z)
      → EndsAsCodeInAll left.start (legs_of left h.start.state.words) (turns_by options items h.start) code input end

  -- the run ends with arrays, those with which each such code ends, and out got exactly their text, and how many forks and takes this run had
  pub record WritesArrays : Type 0 where
    pub arrays : List NamedArray
    pub tally : Tally
    pub read : HasRead (answers.EndedWith arrays tally)
    pub meant : IsMeant read.2.has.has (outcome.Ended arrays)
    pub gets : Gets o.out (arrays_text arrays ++ tally_text tally)

  -- the run ends in a trap, in which each such code ends, and out got exactly its text, and these counts
  pub record WritesTrap : Type 0 where
    pub trap : Trap
    pub line : ℕ
    pub tally : Tally
    pub read : HasRead (answers.TrappedWith trap line tally)
    pub meant : IsMeant read.2.has.has (outcome.Trapped trap line)
    pub gets : Gets o.out (trap_text trap line ++ tally_text tally)

  -- the text that was read is that of no state, for this fault, and err got exactly its line
  abbrev pub WritesFault : Type 0
  WritesFault = (r : SavedRefusal) × HasRead (answers.SavedRefused r) × Gets o.err (saved_line r)

  -- the run has not ended after exactly as many acts as may be made, and err got exactly the line that says so
  pub record WritesUnfinished : Type 0 where
    pub read : HasRead (answers.Unfinished options.turns)
    pub gets : Gets o.err (unfinished_text options.turns)

  -- The words say that the pool of a place is full. Each sound code that left the state takes more words than a pool has, or has no end; then the place is
  -- there. Err got exactly the line that says so.
  pub record WritesOutOfRoom : Type 0 where
    pub place : ℕ
    pub read : HasRead (answers.OutOfRoom place)
    pub needs : (code : CodeParts) (input : List NamedArray) → MayRun code input → IsLeftByCode code input read.2.state
        → (place < read.2.state.shape.processors) × CodeNeedsMoreRoom code input read.2.state.shape.room
    pub gets : Gets o.err (room_text place)

  -- The words are broken: the run says so, or the saved finish word did, or that word stands for nothing; and err got exactly the line that says so. Of
  -- a state that a sound code left it is a run, and so late: after more than 2^34 + 2^28 work turns of all legs.
  pub record WritesBroken : Type 0 where
    pub place : ℕ
    pub read : HasRead (answers.Broken place)
    pub late : (code : CodeParts) (input : List NamedArray) → MayRun code input → (left : IsLeftByCode code input read.2.state)
        → (h : StateReplays options read.2.has.items read.2.state (answers.Broken place))
        × (2 ^ 34 + 2 ^ 28 < worked_in_all left.start (legs_of left h.start.state.words) (turns_by options read.2.has.items h.start))
    pub gets : Gets o.err (broken_text place)

  -- what each status says; the others never come
  abbrev pub ReplaySays : Status → Type 0
  ReplaySays statuses.Ended = WritesArrays
  ReplaySays statuses.Trapped = WritesTrap
  ReplaySays statuses.SavedRefused = WritesFault
  ReplaySays statuses.WordsRefused = RefusesSchedule schedule o
  ReplaySays statuses.OutOfTurns = WritesUnfinished
  ReplaySays statuses.OutOfRoom = WritesOutOfRoom
  ReplaySays statuses.Broken = WritesBroken
  ReplaySays status = PortsSay o status

  -- The rows of `replay` of a saved text with such options and such a schedule. The answer that a text has is written, whichever it is. What is in
  -- `codes` is a law of all such runs, in which no status occurs.
  pub record SavedReplayRows (status : Status) : Type 0 where
    pub rows : TextRows saved_limit (ReplayHas options schedule) ReplaySays o status
    pub shown : IsShown (ReplayHas options schedule) o status
    pub codes : ReplaysAreAsCode options

-- such a replay is done: an answer that may come was delivered, and its rows hold
abbrev pub IsReplayed : ReplaySavedOptions → (schedule : List ℕ) → Ports → Status → Type 0
IsReplayed options schedule = IsDone (ReplayMay options schedule) (SavedReplayRows options schedule)
