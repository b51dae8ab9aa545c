-- What follows from each status of `replay` of a saved text where its counts are told: what follows of such a `replay`, with the counts of that very run.
use Rattle.std.specs.Prelude.{◌≡◌, ◌⊎◌, ◌<◌, ℕ, ◌+◌, ◌^◌, List, ◌++◌}
use Rattle.ppm_words.specs.declared.named_array.NamedArray.{NamedArray}
use Rattle.ppm_words.specs.declared.trap.Trap.{Trap}
use Rattle.ppm_words.specs.declared.outcome.Outcome.TheVariants as outcome
use Rattle.ppm_ports.specs.Ports.{Gets}
use Rattle.ppm_ports.specs.Outside.{Ports}
use Rattle.ppm_code.specs.declared.code.CodeParts.{CodeParts}
use Rattle.ppm_core.specs.Situation.{Situation}
use Rattle.ppm_step.specs.declared.turn.Turn.{Turn}
use Rattle.ppm_following.specs.OrderedFaults.{ordered_faults}
use Rattle.ppm_trace.specs.RunCounts.{run_counts}
use Rattle.ppm_saved_reader.specs.Rules.{saved_limit}
use Rattle.ppm_answers.specs.declared.answer.Answer.{Answer}
use Rattle.ppm_answers.specs.declared.answer.Answer.TheVariants as answers
use Rattle.ppm_answers.specs.declared.run_counts.RunCounts.{RunCounts}
use Rattle.ppm_answers.specs.declared.saved.SavedRefusal.{SavedRefusal}
use Rattle.ppm_answers.specs.declared.status.Status.{Status}
use Rattle.ppm_answers.specs.declared.status.Status.TheVariants as statuses
use Rattle.ppm_answers.specs.declared.sweep.Came.{Came}
use Rattle.ppm_answers.specs.declared.sweep.Came.TheVariants as came
use Rattle.ppm_answers.specs.Reading.{ReadHas}
use Rattle.ppm_answers.specs.Rows.{PortsSay, TextRows, IsShown, IsDone}
use Rattle.ppm_answers.specs.Texts.{arrays_text, tally_in, tally_text, trap_text, unfinished_text, room_text, broken_text, run_counts_text, saved_line}
use Rattle.ppm_cli.specs.declared.replay.ReplaySavedOptions.{ReplaySavedOptions}
use Rattle.ppm_outcomes.specs.AsCode.{MayRun, CodeNeedsMoreRoom}
use Rattle.ppm_outcomes.specs.CodeResumes.{IsLeftByCode, legs_of}
use Rattle.ppm_outcomes.specs.Legs.{worked_in_all}
use Rattle.ppm_legs.specs.CountedReplays.{CountedHas, CountedMay}
use Rattle.ppm_legs.specs.SavedReplayRows.{IsMeant}
use Rattle.ppm_legs.specs.SavedReplays.{ReplaysAreAsCode, turns_by}
use Rattle.ppm_legs.specs.SavedTexts.{RefusesSchedule}

module _ (options : ReplaySavedOptions) (schedule : List ℕ) (o : Ports) where
  -- the text that was read has this answer, with these options and this schedule
  abbrev pub HasRead : Answer → Type 0
  HasRead answer = ReadHas saved_limit (CountedHas options schedule) o.source answer

  -- The text that was read is that of a state, and the run from it by the schedule, from this machine of fresh processors and by these turns, comes to
  -- this and counts so much: each number is that of these turns, and of the faults that the schedule orders.
  pub record Replays (c : Came) (counts : RunCounts) : Type 0 where
    pub read : HasRead (answers.ReplayedWith c counts)
    pub start : Situation
    pub is_start : start ≡ read.2.has.has.has.start
    pub turns : List Turn
    pub are_turns : turns ≡ turns_by options read.2.has.items start
    pub counted : counts ≡ run_counts (ordered_faults read.2.has.items) start turns

  -- the run ends with arrays, those with which each sound code ends that left the state, and out got exactly their text, how many forks and takes this
  -- run had, and the counts'
  pub record WritesArrays : Type 0 where
    pub arrays : List NamedArray
    pub counts : RunCounts
    pub replays : Replays (came.Ended arrays) counts
    pub meant : IsMeant options schedule o replays.read.2.has.has.has (outcome.Ended arrays)
    pub gets : Gets o.out (arrays_text arrays ++ tally_text (tally_in counts) ++ run_counts_text counts)

  -- the run ends in a trap, in which each such code ends, and out got exactly its text, these counts, and the line of all
  pub record WritesTrap : Type 0 where
    pub trap : Trap
    pub line : ℕ
    pub counts : RunCounts
    pub replays : Replays (came.Trapped trap line) counts
    pub meant : IsMeant options schedule o replays.read.2.has.has.has (outcome.Trapped trap line)
    pub gets : Gets o.out (trap_text trap line ++ tally_text (tally_in counts) ++ run_counts_text counts)

  -- the text that was read is that of no state, for this fault, and err got exactly its line
  abbrev pub WritesFault : Type 0
  WritesFault = (r : SavedRefusal) × HasRead (answers.SavedRefused r) × Gets o.err (saved_line r)

  -- the run has not ended after exactly as many acts as may be made, and err got exactly the line that says so, and the counts'
  pub record WritesUnfinished : Type 0 where
    pub counts : RunCounts
    pub replays : Replays (came.Unfinished options.turns) counts
    pub gets : Gets o.err (unfinished_text options.turns ++ run_counts_text counts)

  -- The words say that the pool of a place is full. Each sound code that left the state takes more words than a pool has, or has no end; then the place is
  -- there. Err got exactly the line that says so, and the counts'.
  pub record WritesOutOfRoom : Type 0 where
    pub place : ℕ
    pub counts : RunCounts
    pub replays : Replays (came.OutOfRoom place) counts
    pub needs : (code : CodeParts) (input : List NamedArray) → MayRun code input → IsLeftByCode code input replays.read.2.state
        → (place < replays.read.2.state.shape.processors) × CodeNeedsMoreRoom code input replays.read.2.state.shape.room
    pub gets : Gets o.err (room_text place ++ run_counts_text counts)

  -- The run says that words are broken, or the saved finish word did; and err got exactly the line that says so, and the counts'. Of a state that a sound
  -- code left it is late: after more than 2^34 + 2^28 work turns of all legs.
  pub record WritesBroken : Type 0 where
    pub place : ℕ
    pub counts : RunCounts
    pub replays : Replays (came.Broken place) counts
    pub late : (code : CodeParts) (input : List NamedArray) → MayRun code input → (left : IsLeftByCode code input replays.read.2.state)
        → let h = replays.read.2.has.has.has in
        2 ^ 34 + 2 ^ 28 < worked_in_all left.start (legs_of left h.start.state.words) (turns_by options replays.read.2.has.items h.start)
    pub gets : Gets o.err (broken_text place ++ run_counts_text counts)

  -- The saved finish word stands for nothing, so nothing was run and nothing counted, and err got exactly the line that words are broken; no sound code
  -- left such a state.
  pub record WritesUnknown : Type 0 where
    pub place : ℕ
    pub read : HasRead (answers.Broken place)
    pub by_none : (code : CodeParts) (input : List NamedArray) → MayRun code input → ¬ IsLeftByCode code input read.2.state
    pub gets : Gets o.err (broken_text place)

  -- what each status says; the others never come
  abbrev pub CountedSays : Status → Type 0
  CountedSays statuses.Ended = WritesArrays
  CountedSays statuses.Trapped = WritesTrap
  CountedSays statuses.SavedRefused = WritesFault
  CountedSays statuses.WordsRefused = RefusesSchedule schedule o
  CountedSays statuses.OutOfTurns = WritesUnfinished
  CountedSays statuses.OutOfRoom = WritesOutOfRoom
  CountedSays statuses.Broken = WritesBroken ⊎ WritesUnknown
  CountedSays status = PortsSay o status

  -- The rows of such a `replay` of a saved text with such options and such a schedule. The answer that a text has is written, whichever it is. What is
  -- in `codes` is a law of all such runs, in which no status occurs.
  pub record CountedSavedRows (status : Status) : Type 0 where
    pub rows : TextRows saved_limit (CountedHas options schedule) CountedSays o status
    pub shown : IsShown (CountedHas options schedule) o status
    pub codes : ReplaysAreAsCode options

-- such a replay is done: an answer that may come was delivered, and its rows hold
abbrev pub IsCountedReplay : ReplaySavedOptions → (schedule : List ℕ) → Ports → Status → Type 0
IsCountedReplay options schedule = IsDone (CountedMay options schedule) (CountedSavedRows options schedule)
