-- What follows from each status of `replay` of a case where its counts are told.
use Rattle.std.specs.Prelude.{◌≡◌, ◌<◌, ◌⊎◌, ℕ, List, ◌++◌}
use Rattle.ppm_words.specs.declared.named_array.NamedArray.{NamedArray}
use Rattle.ppm_words.specs.declared.trap.Trap.{Trap}
use Rattle.ppm_ports.specs.Ports.{Gets}
use Rattle.ppm_ports.specs.Outside.{Ports}
use Rattle.ppm_code.specs.declared.code.CodeParts.{CodeParts}
use Rattle.ppm_depth.specs.Sound.{IsSound}
use Rattle.ppm_case.specs.Rules.{case_limit}
use Rattle.ppm_plan.specs.Forms.{schedule_form}
use Rattle.ppm_step.specs.Laws.{IsFilledBehind}
use Rattle.ppm_step.specs.Standings.{unknown_place}
use Rattle.ppm_step.specs.declared.turn.Turn.{Turn}
use Rattle.ppm_answers.specs.declared.answer.Answer.{Answer}
use Rattle.ppm_answers.specs.declared.answer.Answer.TheVariants as answers
use Rattle.ppm_answers.specs.declared.run_counts.RunCounts.{RunCounts}
use Rattle.ppm_answers.specs.declared.status.Status.{Status}
use Rattle.ppm_answers.specs.declared.status.Status.TheVariants as statuses
use Rattle.ppm_answers.specs.declared.sweep.Came.{Came}
use Rattle.ppm_answers.specs.declared.sweep.Came.TheVariants as came
use Rattle.ppm_answers.specs.Reading.{IsUnread, ReadHas}
use Rattle.ppm_answers.specs.Rows.{IsDone, IsShown, PlannedRows, PortsSay}
use Rattle.ppm_answers.specs.Texts.{arrays_text, tally_in, tally_text, trap_text, unfinished_text, room_text, broken_text, run_counts_text}
use Rattle.ppm_cli.specs.declared.replay.ReplayOptions.{ReplayOptions}
use Rattle.ppm_core.specs.Situation.{Situation}
use Rattle.ppm_trace.specs.RunCounts.{run_counts}
use Rattle.ppm_following.specs.OrderedFaults.{ordered_faults}
use Rattle.ppm_loading.specs.MachineRows as machine
use Rattle.ppm_loading.specs.Planned.{IsRefusedBy, HasByItems}
use Rattle.ppm_outcomes.specs.AsCode.{IsAsCode}
use Rattle.ppm_orders.specs.CaseRefusals.{RefusesCase}
use Rattle.ppm_outcomes.specs.CodeReplays.{SaysAsReplay, turns_in}
use Rattle.ppm_replay_command.specs.CaseReplayRows.{AreAsCode}
use Rattle.ppm_replay_command.specs.CountedCases.{CountedCaseHas, CountedCaseMay, TextHas}
use Rattle.ppm_outcomes.specs.Replays.{with_tally}

module _ (options : ReplayOptions) (schedule : List ℕ) (o : Ports) where
  -- the text that was read has this answer, with these options and this schedule
  abbrev pub HasRead : Answer → Type 0
  HasRead answer = ReadHas case_limit (HasByItems schedule_form schedule options.processors (TextHas options)) o.source answer

  -- The text that was read is a case, and its replay by the schedule, from this machine and by these turns, comes to this and counts so much: each
  -- number is that of these turns, and of the faults that the schedule orders. If the case is sound, the replay is as its code, and says so.
  pub record Replays (c : Came) (counts : RunCounts) : Type 0 where
    pub read : HasRead (answers.ReplayedWith c counts)
    pub code : CodeParts
    pub is_code : code ≡ read.2.has.code
    pub input : List NamedArray
    pub is_input : input ≡ read.2.has.input
    pub start : Situation
    pub is_start : start ≡ read.2.has.has.has.start
    pub turns : List Turn
    pub are_turns : turns ≡ turns_in options read.2.items start
    pub counted : counts ≡ run_counts (ordered_faults read.2.items) start turns
    pub sound : IsSound code input
        → IsAsCode start turns code input × SaysAsReplay options code input start turns (with_tally c (tally_in counts))

  -- it ended with these arrays, and out got exactly their text, the tally's, and the counts'
  pub record WritesArrays : Type 0 where
    pub arrays : List NamedArray
    pub counts : RunCounts
    pub replays : Replays (came.Ended arrays) counts
    pub gets : Gets o.out (arrays_text arrays ++ tally_text (tally_in counts) ++ run_counts_text counts)

  -- it ended in this trap, and out got exactly its text, the tally's, and the counts'
  pub record WritesTrap : Type 0 where
    pub trap : Trap
    pub line : ℕ
    pub counts : RunCounts
    pub replays : Replays (came.Trapped trap line) counts
    pub gets : Gets o.out (trap_text trap line ++ tally_text (tally_in counts) ++ run_counts_text counts)

  -- it has not ended after exactly as many acts as may be made, and err got exactly the line that says so, and the counts'
  pub record WritesUnfinished : Type 0 where
    pub counts : RunCounts
    pub replays : Replays (came.Unfinished options.turns) counts
    pub gets : Gets o.err (unfinished_text options.turns ++ run_counts_text counts)

  -- a turn of it found the pool of a place full: it began the capsule that the header of the frame names, which asks for more words than are left;
  -- and err got exactly the line that says so, and the counts'
  pub record WritesOutOfRoom : Type 0 where
    pub place : ℕ
    pub counts : RunCounts
    pub replays : Replays (came.OutOfRoom place) counts
    pub there : place < options.processors
    pub full : IsFilledBehind replays.start.shape replays.start.code place replays.start.state.words replays.turns
    pub gets : Gets o.err (room_text place ++ run_counts_text counts)

  -- the words are broken at a place, or at one that isn't known, and err got exactly the line that says so, and the counts'; and the case is not
  -- sound
  pub record WritesBroken : Type 0 where
    pub place : ℕ
    pub counts : RunCounts
    pub replays : Replays (came.Broken place) counts
    pub there : (place < options.processors) ⊎ (place ≡ unknown_place)
    pub unsound : ¬ IsSound replays.code replays.input
    pub gets : Gets o.err (broken_text place ++ run_counts_text counts)

  -- what each status says; the others never come
  abbrev pub CountedCaseSays : Status → Type 0
  CountedCaseSays statuses.Ended = WritesArrays
  CountedCaseSays statuses.Trapped = WritesTrap
  CountedCaseSays statuses.CodeRefused = RefusesCase HasRead o
  CountedCaseSays statuses.WordsRefused = machine.RefusesPlan schedule_form schedule options.processors o × IsUnread o.source
  CountedCaseSays statuses.OutOfTurns = WritesUnfinished
  CountedCaseSays statuses.OutOfRoom = WritesOutOfRoom
  CountedCaseSays statuses.Broken = WritesBroken
  CountedCaseSays status = PortsSay o status

  -- The rows of such a `replay` of a case with such options, in their ranges, and such a schedule. The answer that a text has is written, whichever
  -- it is. What is in `meant` is a law of all replays.
  pub record CountedCaseRows (status : Status) : Type 0 where
    pub rows : PlannedRows (IsRefusedBy schedule_form schedule options.processors)
        (HasByItems schedule_form schedule options.processors (TextHas options)) case_limit CountedCaseSays o status
    pub shown : IsShown (CountedCaseHas options schedule) o status
    pub meant : AreAsCode options schedule o

-- such a replay of a case is done: an answer that may come was delivered, and its rows hold
abbrev pub IsCountedCaseReplay : ReplayOptions → (schedule : List ℕ) → Ports → Status → Type 0
IsCountedCaseReplay options schedule = IsDone (CountedCaseMay options schedule) (CountedCaseRows options schedule)
