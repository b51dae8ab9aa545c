-- What follows from each status of `replay` where its counts are told.
use Rattle.std.specs.Prelude.{◌≡◌, ℕ, ◌<◌, List, ◌++◌, length}
use Rattle.ppm_words.specs.declared.named_array.NamedArray.{NamedArray}
use Rattle.ppm_words.specs.declared.outcome.Outcome.{Outcome}
use Rattle.ppm_words.specs.declared.outcome.Outcome.TheVariants as outcome
use Rattle.ppm_words.specs.declared.trap.Trap.{Trap}
use Rattle.ppm_ports.specs.Ports.{Gets}
use Rattle.ppm_ports.specs.Outside.{Ports}
use Rattle.ppm_text.specs.Limits.{text_limit}
use Rattle.ppm_plan.specs.Forms.{schedule_form}
use Rattle.ppm_plan.specs.Refusals.{IsAccepted}
use Rattle.ppm_plan.specs.declared.schedule_item.ScheduleItem.{ScheduleItem}
use Rattle.ppm_tree.specs.Tree.{ProgramTree}
use Rattle.ppm_program.specs.Programs.{HasProgram}
use Rattle.ppm_answers.specs.declared.answer.Answer.{Answer}
use Rattle.ppm_answers.specs.declared.answer.Answer.TheVariants as answers
use Rattle.ppm_answers.specs.declared.run_counts.RunCounts.{RunCounts}
use Rattle.ppm_answers.specs.declared.status.Status.{Status}
use Rattle.ppm_answers.specs.declared.status.Status.TheVariants as statuses
use Rattle.ppm_answers.specs.declared.sweep.Came.{Came}
use Rattle.ppm_answers.specs.declared.sweep.Came.TheVariants as came
use Rattle.ppm_answers.specs.Texts.{arrays_text, trap_text, tally_in, tally_text, unfinished_text, room_text, run_counts_text}
use Rattle.ppm_answers.specs.Reading.{IsUnread}
use Rattle.ppm_answers.specs.Rows.{PortsSay, PlannedRows, IsShown, IsDone}
use Rattle.ppm_cli.specs.declared.replay.ReplayOptions.{ReplayOptions}
use Rattle.ppm_step.specs.Laws.{IsFilledBehind}
use Rattle.ppm_step.specs.declared.turn.Turn.{Turn}
use Rattle.ppm_loading.specs.MachineRows as machine
use Rattle.ppm_loading.specs.Planned.{IsRefusedBy, HasByItems}
use Rattle.ppm_core.specs.Situation.{Situation}
use Rattle.ppm_trace.specs.RunCounts.{run_counts}
use Rattle.ppm_following.specs.OrderedFaults.{ordered_faults}
use Rattle.ppm_outcomes.specs.CodeReplays.{turns_in}
use Rattle.ppm_replay_command.specs.CountedReplays.{ProgramHas, CountedHas, CountedMay, TextHas}
use Rattle.ppm_replay_command.specs.ReplayRows.{AreAsPrograms}
use Rattle.ppm_outcomes.specs.Meant.{NeedsMoreRoom, forked_in, NoneIsTakenTwice, EndsAsProgram, IsAsProgram}

module _ (options : ReplayOptions) (schedule : List ℕ) (o : Ports) where
  -- the text that was read has this answer, with these options and this schedule
  abbrev pub HasRead : Answer → Type 0
  HasRead answer = machine.HasRead schedule_form schedule options.processors (TextHas options) o answer

  -- The text that was read has a program, and its replay by the schedule, from this machine and by these turns, comes to this and counts so much:
  -- each number is that of these turns, and of the faults that the schedule orders.
  pub record Replays (c : Came) (counts : RunCounts) : Type 0 where
    pub read : HasRead (answers.ReplayedWith c counts)
    pub tree : ProgramTree
    pub is_tree : tree ≡ read.2.has.0
    pub start : Situation
    pub is_start : start ≡ read.2.has.2.has.start
    pub turns : List Turn
    pub are_turns : turns ≡ turns_in options read.2.items start
    pub counted : counts ≡ run_counts (ordered_faults read.2.items) start turns

  -- that run ends as its program does; the counts have as many forks as were made, and as many takes
  pub record Ends (c : Came) (end : Outcome) (counts : RunCounts) : Type 0 where
    pub replays : Replays c counts
    pub ends : EndsAsProgram replays.start replays.turns replays.tree end
    pub forks : counts.forks ≡ length (forked_in replays.start replays.turns)
    pub takes : counts.forks ≡ counts.takes

  -- the replay ends with arrays, those with which the program ends serially, and out got exactly their text, the tally's, and the counts'
  pub record WritesArrays : Type 0 where
    pub arrays : List NamedArray
    pub counts : RunCounts
    pub ends : Ends (came.Ended arrays) (outcome.Ended arrays) counts
    pub gets : Gets o.out (arrays_text arrays ++ tally_text (tally_in counts) ++ run_counts_text counts)

  -- the replay ends in a trap, in which the program ends serially, and out got exactly its text, the tally's, and the counts'
  pub record WritesTrap : Type 0 where
    pub trap : Trap
    pub line : ℕ
    pub counts : RunCounts
    pub ends : Ends (came.Trapped trap line) (outcome.Trapped trap line) counts
    pub gets : Gets o.out (trap_text trap line ++ tally_text (tally_in counts) ++ run_counts_text counts)

  -- the replay has not ended after exactly as many acts as may be made, and err got exactly the line that says so, and the counts'
  pub record WritesUnfinished : Type 0 where
    pub counts : RunCounts
    pub replays : Replays (came.Unfinished options.turns) counts
    pub once : NoneIsTakenTwice replays.start replays.turns
    pub gets : Gets o.err (unfinished_text options.turns ++ run_counts_text counts)

  -- A turn of that replay found the pool of a place full: it began the capsule that the header of the frame names, which asks for more words than
  -- are left; and err got exactly the line that says so, and the counts'. The program takes more words than a pool has, or it has no end.
  pub record WritesOutOfRoom : Type 0 where
    pub place : ℕ
    pub counts : RunCounts
    pub replays : Replays (came.OutOfRoom place) counts
    pub there : place < options.processors
    pub full : IsFilledBehind replays.start.shape replays.start.code place replays.start.state.words replays.turns
    pub needs : NeedsMoreRoom replays.tree options.room
    pub once : NoneIsTakenTwice replays.start replays.turns
    pub gets : Gets o.err (room_text place ++ run_counts_text counts)

  -- what each status says; the others never come, broken words among them
  abbrev pub CountedSays : Status → Type 0
  CountedSays statuses.Ended = WritesArrays
  CountedSays statuses.Trapped = WritesTrap
  CountedSays statuses.SourceRefused = machine.WritesRefusal schedule_form schedule options.processors (TextHas options) o
  CountedSays statuses.WordsRefused = machine.RefusesPlan schedule_form schedule options.processors o × IsUnread o.source
  CountedSays statuses.OutOfTurns = WritesUnfinished
  CountedSays statuses.OutOfRoom = WritesOutOfRoom
  CountedSays status = PortsSay o status

  -- The rows of such a `replay` with such options, in their ranges, and such a schedule. The answer that a text has is written, whichever it is.
  -- What is in `meant` is a law of all replays.
  pub record CountedRows (status : Status) : Type 0 where
    pub rows : PlannedRows (IsRefusedBy schedule_form schedule options.processors)
        (HasByItems schedule_form schedule options.processors (TextHas options)) text_limit CountedSays o status
    pub shown : IsShown (CountedHas options schedule) o status
    pub meant : AreAsPrograms options schedule o

-- such a replay is done: an answer that may come was delivered, and its rows hold
abbrev pub IsCountedReplay : ReplayOptions → (schedule : List ℕ) → Ports → Status → Type 0
IsCountedReplay options schedule = IsDone (CountedMay options schedule) (CountedRows options schedule)
