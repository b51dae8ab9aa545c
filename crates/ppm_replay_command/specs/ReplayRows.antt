-- What follows from each status of `replay`.
use Rattle.std.specs.Prelude.{◌≡◌, ℕ, ◌<◌, List, ◌++◌, length}
use Rattle.ppm_words.specs.declared.named_array.NamedArray.{NamedArray}
use Rattle.ppm_words.specs.declared.outcome.Outcome.TheVariants as outcome
use Rattle.ppm_words.specs.declared.trap.Trap.{Trap}
use Rattle.ppm_ports.specs.Ports.{Gets}
use Rattle.ppm_ports.specs.Outside.{Ports}
use Rattle.ppm_text.specs.Limits.{text_limit}
use Rattle.ppm_plan.specs.Forms.{schedule_form}
use Rattle.ppm_plan.specs.Refusals.{IsAccepted}
use Rattle.ppm_tree.specs.Tree.{ProgramTree}
use Rattle.ppm_program.specs.Programs.{HasProgram}
use Rattle.ppm_answers.specs.declared.tally.Tally.{Tally}
use Rattle.ppm_answers.specs.declared.answer.Answer.{Answer}
use Rattle.ppm_answers.specs.declared.answer.Answer.TheVariants as answers
use Rattle.ppm_answers.specs.declared.status.Status.{Status}
use Rattle.ppm_answers.specs.declared.status.Status.TheVariants as statuses
use Rattle.ppm_answers.specs.Texts.{arrays_text, trap_text, tally_text, unfinished_text, room_text}
use Rattle.ppm_answers.specs.Reading.{IsUnread}
use Rattle.ppm_answers.specs.Rows.{PortsSay, PlannedRows, IsShown, IsDone}
use Rattle.ppm_cli.specs.declared.replay.ReplayOptions.{ReplayOptions}
use Rattle.ppm_step.specs.Laws.{IsFilledBehind}
use Rattle.ppm_step.specs.declared.turn.Turn.{Turn}
use Rattle.ppm_choice.specs.Schedules.{schedule_turns}
use Rattle.ppm_loading.specs.MachineRows as machine
use Rattle.ppm_core.specs.Situation.{Situation}
use Rattle.ppm_plan.specs.declared.schedule_item.ScheduleItem.{ScheduleItem}
use Rattle.ppm_outcomes.specs.Meant.{NeedsMoreRoom, forked_in, NoneIsTakenTwice, EndsAsProgram, IsAsProgram}
use Rattle.ppm_loading.specs.Planned.{IsRefusedBy, HasByItems}
use Rattle.ppm_outcomes.specs.Replays.{ProgramHas, ReplayHas, ReplayMay, TextHas}

module _ (options : ReplayOptions) (schedule : List ℕ) (o : Ports) where
  -- the text that was read has this answer, with these options and this schedule
  abbrev pub HasRead : Answer → Type 0
  HasRead answer = machine.HasRead schedule_form schedule options.processors (TextHas options) o answer

  -- the turns that a schedule says, from this machine
  abbrev pub turns_by : Situation → List ScheduleItem → List Turn
  turns_by m items = schedule_turns m.shape m.code m.state items options.turns

  -- The replay of the text that was read ends as its program does, with these arrays, or in this trap; and the tally
  -- counts the branches that were forked, and as many takes.
  abbrev pub IsMeant : (arrays : List NamedArray) (tally : Tally) → HasRead (answers.EndedWith arrays tally) → Type 0
  IsMeant arrays tally read =
      let p = read.2.has in EndsAsProgram p.2.start (turns_by p.2.start read.2.items) p.0 (outcome.Ended arrays)
      × (tally.forks ≡ length (forked_in p.2.start (turns_by p.2.start read.2.items))) × (tally.forks ≡ tally.takes)

  abbrev pub IsMeantTrap : (t : Trap) (line : ℕ) (tally : Tally) → HasRead (answers.TrappedWith t line tally) → Type 0
  IsMeantTrap t line tally read =
      let p = read.2.has in EndsAsProgram p.2.start (turns_by p.2.start read.2.items) p.0 (outcome.Trapped t line)
      × (tally.forks ≡ length (forked_in p.2.start (turns_by p.2.start read.2.items))) × (tally.forks ≡ tally.takes)

  -- the replay ends with arrays, those with which the program ends serially, and out got exactly their text, and the tally's
  pub record WritesArrays : Type 0 where
    pub arrays : List NamedArray
    pub tally : Tally
    pub read : HasRead (answers.EndedWith arrays tally)
    pub meant : IsMeant arrays tally read
    pub gets : Gets o.out (arrays_text arrays ++ tally_text tally)

  -- the replay ends in a trap, in which the program ends serially, and out got exactly its text, and the tally's
  pub record WritesTrap : Type 0 where
    pub trap : Trap
    pub line : ℕ
    pub tally : Tally
    pub read : HasRead (answers.TrappedWith trap line tally)
    pub meant : IsMeantTrap trap line tally read
    pub gets : Gets o.out (trap_text trap line ++ tally_text tally)

  -- no right branch was forked or taken twice in the turns of a schedule
  abbrev pub IsOnce : Situation → List ScheduleItem → Type 0
  IsOnce m items = NoneIsTakenTwice m (turns_by m items)

  -- the replay has not ended after exactly as many acts as may be made, and err got exactly the line that says so
  pub record WritesUnfinished : Type 0 where
    pub read : HasRead (answers.Unfinished options.turns)
    pub once : IsOnce read.2.has.2.start read.2.items
    pub gets : Gets o.err (unfinished_text options.turns)

  -- a turn of that replay found the pool of a place full: it began the capsule that the header of the frame names, which asks for more words
  -- than are left
  abbrev pub IsFull : (place : ℕ) → HasRead (answers.OutOfRoom place) → Type 0
  IsFull place read =
      let p = read.2.has.2 in
      (place < options.processors)
      × IsFilledBehind p.start.shape p.start.code place p.start.state.words (turns_by p.start read.2.items)

  -- This holds, and err got exactly the line that says so. The program takes more words than a pool has, or it has no end.
  pub record WritesOutOfRoom : Type 0 where
    pub place : ℕ
    pub read : HasRead (answers.OutOfRoom place)
    pub full : IsFull place read
    pub needs : NeedsMoreRoom read.2.has.0 options.room
    pub once : IsOnce read.2.has.2.start read.2.items
    pub gets : Gets o.err (room_text place)

  -- what each status says; the others never come, broken words among them
  abbrev pub ReplaySays : Status → Type 0
  ReplaySays statuses.Ended = WritesArrays
  ReplaySays statuses.Trapped = WritesTrap
  ReplaySays statuses.SourceRefused = machine.WritesRefusal schedule_form schedule options.processors (TextHas options) o
  ReplaySays statuses.WordsRefused = machine.RefusesPlan schedule_form schedule options.processors o × IsUnread o.source
  ReplaySays statuses.OutOfTurns = WritesUnfinished
  ReplaySays statuses.OutOfRoom = WritesOutOfRoom
  ReplaySays status = PortsSay o status

  -- Each replay that an answer is of is as its program. It is a law, in which no status occurs, so it holds also where a port failed at the text.
  abbrev pub AreAsPrograms : Type 0
  AreAsPrograms = (items : List ScheduleItem) → IsAccepted schedule_form schedule options.processors items
      → (text : List ℕ) (t : ProgramTree) → HasProgram text t → (answer : Answer) (h : ProgramHas options items t answer)
      → IsAsProgram h.start (turns_by h.start items) t

  -- The rows of `replay` with such options, in their ranges, and such a schedule. The answer that a text has is written, whichever it is.
  -- What is in `meant` is a law of all replays.
  pub record ReplayRows (status : Status) : Type 0 where
    pub rows : PlannedRows (IsRefusedBy schedule_form schedule options.processors)
        (HasByItems schedule_form schedule options.processors (TextHas options)) text_limit ReplaySays o status
    pub shown : IsShown (ReplayHas options schedule) o status
    pub meant : AreAsPrograms

-- a replay with such options and such a schedule is done: an answer that may come was delivered, and its rows hold
abbrev pub IsReplayed : ReplayOptions → (schedule : List ℕ) → Ports → Status → Type 0
IsReplayed options schedule = IsDone (ReplayMay options schedule) (ReplayRows options schedule)
