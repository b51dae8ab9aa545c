-- What follows from each status of `replay` of a case.
use Rattle.std.specs.Prelude.{◌≡◌, ◌<◌, ◌⊎◌, ℕ, List, ◌++◌}
use Rattle.ppm_words.specs.declared.named_array.NamedArray.{NamedArray}
use Rattle.ppm_words.specs.declared.outcome.Outcome.TheVariants as outcome
use Rattle.ppm_words.specs.declared.trap.Trap.{Trap}
use Rattle.ppm_ports.specs.Ports.{Gets}
use Rattle.ppm_ports.specs.Outside.{Ports}
use Rattle.ppm_code.specs.declared.code.CodeParts.{CodeParts}
use Rattle.ppm_depth.specs.Sound.{IsSound}
use Rattle.ppm_case.specs.Rules.{case_limit}
use Rattle.ppm_plan.specs.declared.schedule_item.ScheduleItem.{ScheduleItem}
use Rattle.ppm_plan.specs.Forms.{schedule_form}
use Rattle.ppm_plan.specs.Refusals.{IsAccepted}
use Rattle.ppm_step.specs.Laws.{IsFilledBehind}
use Rattle.ppm_step.specs.Standings.{unknown_place}
use Rattle.ppm_answers.specs.declared.answer.Answer.{Answer}
use Rattle.ppm_answers.specs.declared.answer.Answer.TheVariants as answers
use Rattle.ppm_answers.specs.declared.status.Status.{Status}
use Rattle.ppm_answers.specs.declared.status.Status.TheVariants as statuses
use Rattle.ppm_answers.specs.declared.tally.Tally.{Tally}
use Rattle.ppm_answers.specs.Reading.{IsUnread, ReadHas}
use Rattle.ppm_answers.specs.Rows.{IsDone, IsShown, PlannedRows, PortsSay}
use Rattle.ppm_answers.specs.Texts.{arrays_text, tally_text, trap_text, unfinished_text, room_text, broken_text}
use Rattle.ppm_cli.specs.declared.replay.ReplayOptions.{ReplayOptions}
use Rattle.ppm_loading.specs.MachineRows as machine
use Rattle.ppm_loading.specs.Planned.{IsRefusedBy, HasByItems}
use Rattle.ppm_outcomes.specs.AsCode.{MayRun, CodeNeedsMoreRoom, IsAsCode}
use Rattle.ppm_orders.specs.CaseRefusals.{RefusesCase}
use Rattle.ppm_replay_command.specs.CaseReplays.{ReplayCaseHas, ReplayCaseMay, TextHas}
use Rattle.ppm_outcomes.specs.CodeReplays.{EndsTallied, SaysAsReplay, turns_in}
use Rattle.ppm_outcomes.specs.Meant.{NoneIsTakenTwice}
use Rattle.ppm_outcomes.specs.Replays.{CodeHas}

module _ (options : ReplayOptions) (schedule : List ℕ) (o : Ports) where
  -- the text that was read has this answer, with these options and this schedule
  abbrev pub HasRead : Answer → Type 0
  HasRead answer = ReadHas case_limit (HasByItems schedule_form schedule options.processors (TextHas options)) o.source answer

  -- The replay of the case that was read ended with these arrays, and out got exactly their text, and the tally's. If the case is sound, its code ends
  -- so, run depth first, with as many forks as the tally counts, and as many takes.
  pub record WritesArrays : Type 0 where
    pub arrays : List NamedArray
    pub tally : Tally
    pub read : HasRead (answers.EndedWith arrays tally)
    pub meant : let h = read.2.has in
        IsSound h.code h.input → EndsTallied options h.code h.input h.has.start (turns_in options read.2.items h.has.start) (outcome.Ended arrays) tally
    pub gets : Gets o.out (arrays_text arrays ++ tally_text tally)

  -- it ended in this trap, and out got exactly its text, and the tally's; likewise
  pub record WritesTrap : Type 0 where
    pub trap : Trap
    pub line : ℕ
    pub tally : Tally
    pub read : HasRead (answers.TrappedWith trap line tally)
    pub meant : let h = read.2.has in
        IsSound h.code h.input → EndsTallied options h.code h.input h.has.start (turns_in options read.2.items h.has.start) (outcome.Trapped trap line)
        tally
    pub gets : Gets o.out (trap_text trap line ++ tally_text tally)

  -- The replay has not ended after exactly as many acts as may be made, and err got exactly the line that says so. If the case is sound, no right
  -- branch was forked or taken twice.
  pub record WritesUnfinished : Type 0 where
    pub read : HasRead (answers.Unfinished options.turns)
    pub once : let h = read.2.has in IsSound h.code h.input → NoneIsTakenTwice h.has.start (turns_in options read.2.items h.has.start)
    pub gets : Gets o.err (unfinished_text options.turns)

  -- A turn of the replay found the pool of a place full: it began the capsule that the header of the frame names, which asks for more words than are
  -- left; and err got exactly the line that says so. If the case is sound, its code takes more words than a pool has, or it has no end, and no branch
  -- was taken twice.
  pub record WritesOutOfRoom : Type 0 where
    pub place : ℕ
    pub read : HasRead (answers.OutOfRoom place)
    pub there : place < options.processors
    pub full : let p = read.2.has.has in
        IsFilledBehind p.start.shape p.start.code place p.start.state.words (turns_in options read.2.items p.start)
    pub needs : let h = read.2.has in IsSound h.code h.input → CodeNeedsMoreRoom h.code h.input options.room
    pub once : let h = read.2.has in IsSound h.code h.input → NoneIsTakenTwice h.has.start (turns_in options read.2.items h.has.start)
    pub gets : Gets o.err (room_text place)

  -- the words are broken at a place, or at one that isn't known, and err got exactly the line that says so; and the case is not sound
  pub record WritesBroken : Type 0 where
    pub place : ℕ
    pub read : HasRead (answers.Broken place)
    pub there : (place < options.processors) ⊎ (place ≡ unknown_place)
    pub unsound : let h = read.2.has in ¬ IsSound h.code h.input
    pub gets : Gets o.err (broken_text place)

  -- what each status says; the others never come
  abbrev pub ReplayCaseSays : Status → Type 0
  ReplayCaseSays statuses.Ended = WritesArrays
  ReplayCaseSays statuses.Trapped = WritesTrap
  ReplayCaseSays statuses.CodeRefused = RefusesCase HasRead o
  ReplayCaseSays statuses.WordsRefused = machine.RefusesPlan schedule_form schedule options.processors o × IsUnread o.source
  ReplayCaseSays statuses.OutOfTurns = WritesUnfinished
  ReplayCaseSays statuses.OutOfRoom = WritesOutOfRoom
  ReplayCaseSays statuses.Broken = WritesBroken
  ReplayCaseSays status = PortsSay o status

  -- Each replay of a sound code that an answer is of is as the code is, and its answer says so. It is a law, in which no status occurs, so it holds
  -- also where a port failed at the text.
  abbrev pub AreAsCode : Type 0
  AreAsCode = (items : List ScheduleItem) → IsAccepted schedule_form schedule options.processors items
      → (code : CodeParts) (input : List NamedArray) → MayRun code input → (answer : Answer) (h : CodeHas options items code input answer)
      → IsAsCode h.start (turns_in options items h.start) code input × SaysAsReplay options code input h.start (turns_in options items h.start) answer

  -- The rows of `replay` of a case with such options, in their ranges, and such a schedule. The answer that a text has is written, whichever it is.
  -- What is in `meant` is a law of all replays.
  pub record ReplayCaseRows (status : Status) : Type 0 where
    pub rows : PlannedRows (IsRefusedBy schedule_form schedule options.processors)
        (HasByItems schedule_form schedule options.processors (TextHas options)) case_limit ReplayCaseSays o status
    pub shown : IsShown (ReplayCaseHas options schedule) o status
    pub meant : AreAsCode

-- a replay of a case with such options and such a schedule is done: an answer that may come was delivered, and its rows hold
abbrev pub IsCaseReplayed : ReplayOptions → (schedule : List ℕ) → Ports → Status → Type 0
IsCaseReplayed options schedule = IsDone (ReplayCaseMay options schedule) (ReplayCaseRows options schedule)
