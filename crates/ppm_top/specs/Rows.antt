-- What follows from each status: the rows of the table that a reader looks for.
use Rattle.std.specs.Prelude.{◌≡◌, ◌≢◌, ◌⊎◌, ℕ, List, [], ◌∷◌, Some, None}
use Rattle.std.specs.Io.KnownBytes.{Keeps}
use Rattle.ppm_ports.specs.Ports.{Fails, Holds}
use Rattle.ppm_ports.specs.Outside.{Outside, Ports, ports_of}
use Rattle.ppm_answers.specs.declared.answer.Answer.TheVariants as answers
use Rattle.ppm_answers.specs.declared.status.Status.{Status}
use Rattle.ppm_answers.specs.declared.status.Status.TheVariants as statuses
use Rattle.ppm_answers.specs.Reading.{IsUnread}
use Rattle.ppm_answers.specs.Rows.{IsOneOf}
use Rattle.ppm_cli.specs.declared.capsules.CapsuleLimit.{CapsuleLimit}
use Rattle.ppm_cli.specs.declared.command.Command.{Command}
use Rattle.ppm_cli.specs.declared.command.Command.TheVariants as commands
use Rattle.ppm_cli.specs.declared.example.SelfOptions.{SelfOptions}
use Rattle.ppm_cli.specs.declared.explain.ExplainedText.{ExplainedText}
use Rattle.ppm_cli.specs.declared.explain.ExplainOptions.{ExplainOptions}
use Rattle.ppm_cli.specs.declared.serial.SerialOptions.{SerialOptions}
use Rattle.ppm_cli.specs.declared.replay.ReplayOptions.{ReplayOptions}
use Rattle.ppm_cli.specs.declared.replay.ReplaySavedOptions.{ReplaySavedOptions}
use Rattle.ppm_cli.specs.declared.resume.ResumeOptions.{ResumeOptions}
use Rattle.ppm_cli.specs.declared.run.RunOptions.{RunOptions}
use Rattle.ppm_cli.specs.declared.stop.StopOptions.{StopOptions}
use Rattle.ppm_cli.specs.declared.stop.StopSavedOptions.{StopSavedOptions}
use Rattle.ppm_cli.specs.declared.strands.DrawnStrandsOptions.{DrawnStrandsOptions}
use Rattle.ppm_cli.specs.declared.strands.StrandsOptions.{StrandsOptions}
use Rattle.ppm_cli.specs.declared.sweep.SweepOptions.{SweepOptions}
use Rattle.ppm_cli.specs.declared.trace.TraceOptions.{TraceOptions}
use Rattle.ppm_cli.specs.declared.trace.TraceSavedOptions.{TraceSavedOptions}
use Rattle.ppm_cli.specs.Words.{command_of, AreDrawn, AreExplained, AreOfStrands, AreReplayed, AreResumed, AreRun, AreSavedReplayed, AreSavedStopped, AreSavedTraced, AreSelf, AreStopped, AreSwept, AreTraced, IsLimit}
use Rattle.ppm_commands.specs.Case.{CaseRows}
use Rattle.ppm_commands.specs.Check.{CheckRows}
use Rattle.ppm_commands.specs.Show.{ShowRows}
use Rattle.ppm_explained.specs.Explaining.{ExplainRows}
use Rattle.ppm_explained.specs.Orders.{OrdersRows, WritesNotes}
use Rattle.ppm_explained.specs.Trapping.{TrapRows}
use Rattle.ppm_commands.specs.Code.{CodeRows}
use Rattle.ppm_commands.specs.Depth.{DepthRows}
use Rattle.ppm_commands.specs.Races.{RacesRows}
use Rattle.ppm_commands.specs.RacingCheck.{RacingCheckRows}
use Rattle.ppm_commands.specs.Serial.{SerialRows}
use Rattle.ppm_loading.specs.MachineRows.{RefusesPlan}
use Rattle.ppm_replay_command.specs.CaseReplayRows.{ReplayCaseRows}
use Rattle.ppm_driver.specs.CaseRows.{RunCaseRows}
use Rattle.ppm_sweep_command.specs.CaseSweepRows.{SweepCaseRows}
use Rattle.ppm_trace_command.specs.CaseTraceRows.{TraceCaseRows}
use Rattle.ppm_replay_command.specs.CountedCaseRows.{CountedCaseRows}
use Rattle.ppm_replay_command.specs.CountedReplayRows.{CountedRows}
use Rattle.ppm_driver.specs.CountedRunCaseRows.{CountedRunCaseRows}
use Rattle.ppm_driver.specs.CountedRunRows.{CountedRunRows}
use Rattle.ppm_driver.specs.ExampleRows.{ExampleRows}
use Rattle.ppm_driver.specs.RamRows.{RamRows}
use Rattle.ppm_replay_command.specs.ReplayRows.{ReplayRows}
use Rattle.ppm_replay_command.specs.CompleteReplays.{CaseReplayEnds, CountedCaseReplayEnds, CountedReplayEnds, ReplayEnds}
use Rattle.ppm_stop_command.specs.CountedResumeRows.{CountedResumeRows, RefusesPlan as RefusesCountedResume}
use Rattle.ppm_stop_command.specs.ResumeRows.{ResumeRows, RefusesPlan as RefusesResumed}
use Rattle.ppm_outcomes.specs.Resumes.{IsTextLeftBy}
use Rattle.ppm_loading.specs.Telling.{MayBeRun}
use Rattle.ppm_outcomes.specs.Strikes.{scheduled_faults}
use Rattle.ppm_driver.specs.RunRows.{RunRows}
use Rattle.ppm_stop_command.specs.CaseStopRows.{HasRead as HasCaseRead, StopCaseRows}
use Rattle.ppm_outcomes.specs.CodeResumes.{IsTextLeftByCode}
use Rattle.ppm_stop_command.specs.StopRows.{HasRead, StopRows}
use Rattle.ppm_strands_command.specs.DrawnRows.{DrawnRows}
use Rattle.ppm_strands_command.specs.StrandsRows.{StrandsRows}
use Rattle.ppm_sweep_command.specs.SweepRows.{SweepRows}
use Rattle.ppm_trace_command.specs.TraceRows.{TraceRows}
use Rattle.ppm_legs.specs.CountedReplayRows.{CountedSavedRows}
use Rattle.ppm_legs.specs.SavedReplayRows.{SavedReplayRows}
use Rattle.ppm_legs.specs.SavedTexts.{RefusesSchedule}
use Rattle.ppm_legs.specs.SavedStopRows.{SavedStopRows}
use Rattle.ppm_legs.specs.SavedTraceRows.{SavedTraceRows}
use Rattle.ppm_plan.specs.Forms.{plan_form, schedule_form}
use Rattle.ppm_plan.specs.Strands.{strand_form}
use Rattle.ppm_top.specs.Orders.{Orders, plan_of, saved_schedule_of, schedule_of}
use Rattle.ppm_top.specs.SavedReplayEnds.{CountedSavedReplayEnds, SavedReplayEnds}

-- the rows of `run` hold where the words ask for a run, with these options, which are in their ranges, and this plan
abbrev pub RunsByWords : List (List ℕ) → Outside → Status → Type 0
RunsByWords words o status = (options : RunOptions) (plan : List ℕ) → command_of words ≡ Some (commands.Run options plan)
    → AreRun options × RunRows options options.processors plan o status

-- those of `run` of a case hold where they ask for that, with these options, which are in their ranges, and this plan
abbrev pub RunsCaseByWords : List (List ℕ) → Outside → Status → Type 0
RunsCaseByWords words o status = (options : RunOptions) (plan : List ℕ) → command_of words ≡ Some (commands.RunCase options plan)
    → AreRun options × RunCaseRows options options.processors plan o status

-- those of `serial` hold where they ask for it, with as many turns
abbrev pub InterpretsByWords : List (List ℕ) → Outside → Status → Type 0
InterpretsByWords words o status =
    (options : SerialOptions) → command_of words ≡ Some (commands.Serial options) → SerialRows options.turns (ports_of o) status

-- those of `code` where they ask for that
abbrev pub ListsByWords : List (List ℕ) → Outside → Status → Type 0
ListsByWords words o status = command_of words ≡ Some commands.Code → CodeRows (ports_of o) status

-- those of `code` with arrays where they ask for that
abbrev pub ListsCaseByWords : List (List ℕ) → Outside → Status → Type 0
ListsCaseByWords words o status = command_of words ≡ Some commands.CodeCase → CaseRows (ports_of o) status

-- those of `depth` where they ask for that, with this limit, which is in its range
abbrev pub RunsDepthFirstByWords : List (List ℕ) → Outside → Status → Type 0
RunsDepthFirstByWords words o status = (limit : CapsuleLimit) → command_of words ≡ Some (commands.Depth limit)
    → IsLimit limit × DepthRows limit.capsules (ports_of o) status

-- those of `races` where they ask for that, with this limit, which is in its range
abbrev pub SeeksRacesByWords : List (List ℕ) → Outside → Status → Type 0
SeeksRacesByWords words o status = (limit : CapsuleLimit) → command_of words ≡ Some (commands.Races limit)
    → IsLimit limit × RacesRows limit.capsules (ports_of o) status

-- those of `strands` where they ask for that, with these options, which are in their ranges, and this schedule
abbrev pub RunsStrandsByWords : List (List ℕ) → Outside → Status → Type 0
RunsStrandsByWords words o status = (options : StrandsOptions) (schedule : List ℕ) → command_of words ≡ Some (commands.Strands options schedule)
    → AreOfStrands options × StrandsRows options schedule (ports_of o) status

-- and with schedules that are drawn
abbrev pub DrawsStrandsByWords : List (List ℕ) → Outside → Status → Type 0
DrawsStrandsByWords words o status = (options : DrawnStrandsOptions) → command_of words ≡ Some (commands.DrawnStrands options)
    → AreDrawn options × DrawnRows options (ports_of o) status

-- and those of `check` where they ask for that
abbrev pub ChecksByWords : List (List ℕ) → Outside → Status → Type 0
ChecksByWords words o status = command_of words ≡ Some commands.Check → CheckRows (ports_of o) status

-- of a code whose strands may race too
abbrev pub ChecksRacingByWords : List (List ℕ) → Outside → Status → Type 0
ChecksRacingByWords words o status = command_of words ≡ Some commands.CheckRacing → RacingCheckRows (ports_of o) status

-- those of `show` where they ask for that
abbrev pub ShowsByWords : List (List ℕ) → Outside → Status → Type 0
ShowsByWords words o status = command_of words ≡ Some commands.Show → ShowRows (ports_of o) status

-- and those of `explain` where they ask for that, of this text
abbrev pub ExplainsByWords : List (List ℕ) → Outside → Status → Type 0
ExplainsByWords words o status = (text : ExplainedText) → command_of words ≡ Some (commands.Explain text) → ExplainRows text (ports_of o) status

-- those of `explain` of the trap of a source where they ask for that, with as many turns
abbrev pub ExplainsTrapByWords : List (List ℕ) → Outside → Status → Type 0
ExplainsTrapByWords words o status =
    (options : SerialOptions) → command_of words ≡ Some (commands.ExplainTrap options) → TrapRows options.turns (ports_of o) status

-- those of `explain` of a plan or a schedule where they ask for that, with these options, which are in their ranges
abbrev pub ExplainsOrdersByWords : List (List ℕ) → Outside → Status → Type 0
ExplainsOrdersByWords words o status = (options : ExplainOptions) (text : List ℕ) → command_of words ≡ Some (commands.ExplainOrders options text)
    → AreExplained options × OrdersRows options text (ports_of o) status

-- those of `replay` where they ask for that, with these options, which are in their ranges, and this schedule
abbrev pub ReplaysByWords : List (List ℕ) → Outside → Status → Type 0
ReplaysByWords words o status = (options : ReplayOptions) (schedule : List ℕ) → command_of words ≡ Some (commands.Replay options schedule) →
    AreReplayed options × ReplayRows options schedule (ports_of o) status × ReplayEnds options schedule (ports_of o) status

-- those of `replay` of a case where they ask for that, with these options, which are in their ranges, and this schedule
abbrev pub ReplaysCaseByWords : List (List ℕ) → Outside → Status → Type 0
ReplaysCaseByWords words o status = (options : ReplayOptions) (schedule : List ℕ) → command_of words ≡ Some (commands.ReplayCase options schedule)
    → AreReplayed options × ReplayCaseRows options schedule (ports_of o) status × CaseReplayEnds options schedule (ports_of o) status

-- those of `replay` with its counts where they ask for that, with these options, which are in their ranges, and this schedule
abbrev pub CountsByWords : List (List ℕ) → Outside → Status → Type 0
CountsByWords words o status = (options : ReplayOptions) (schedule : List ℕ) → command_of words ≡ Some (commands.CountedReplay options schedule)
    → AreReplayed options × CountedRows options schedule (ports_of o) status × CountedReplayEnds options schedule (ports_of o) status

-- those of `replay` of a case with its counts where they ask for that, with these options, which are in their ranges, and this schedule
abbrev pub CountsCaseByWords : List (List ℕ) → Outside → Status → Type 0
CountsCaseByWords words o status = (options : ReplayOptions) (schedule : List ℕ)
    → command_of words ≡ Some (commands.CountedReplayCase options schedule)
    → AreReplayed options × CountedCaseRows options schedule (ports_of o) status × CountedCaseReplayEnds options schedule (ports_of o) status

-- those of `run` with its counts where they ask for that, with these options, which are in their ranges, and this plan
abbrev pub CountsRunByWords : List (List ℕ) → Outside → Status → Type 0
CountsRunByWords words o status = (options : RunOptions) (plan : List ℕ) → command_of words ≡ Some (commands.CountedRun options plan)
    → AreRun options × CountedRunRows options plan (ports_of o) status

-- those of `run` of a case with its counts where they ask for that, with these options, which are in their ranges, and this plan
abbrev pub CountsRunCaseByWords : List (List ℕ) → Outside → Status → Type 0
CountsRunCaseByWords words o status = (options : RunOptions) (plan : List ℕ) → command_of words ≡ Some (commands.CountedRunCase options plan)
    → AreRun options × CountedRunCaseRows options plan (ports_of o) status

-- those of `resume` with its counts where they ask for that, with these options, which are in their ranges, and this plan
abbrev pub CountsResumeByWords : List (List ℕ) → Outside → Status → Type 0
CountsResumeByWords words o status = (options : ResumeOptions) (plan : List ℕ) → command_of words ≡ Some (commands.CountedResume options plan)
    → AreResumed options × CountedResumeRows options plan (ports_of o) status

-- those of `sweep` where they ask for that, with these options, which are in their ranges, and this schedule
abbrev pub SweepsByWords : List (List ℕ) → Outside → Status → Type 0
SweepsByWords words o status = (options : SweepOptions) (schedule : List ℕ) → command_of words ≡ Some (commands.Sweep options schedule)
    → AreSwept options × SweepRows options schedule (ports_of o) status

-- those of `sweep` of a case where they ask for that, with these options, which are in their ranges, and this schedule
abbrev pub SweepsCaseByWords : List (List ℕ) → Outside → Status → Type 0
SweepsCaseByWords words o status = (options : SweepOptions) (schedule : List ℕ) → command_of words ≡ Some (commands.SweepCase options schedule)
    → AreSwept options × SweepCaseRows options schedule (ports_of o) status

-- those of `trace` where they ask for that, with these options, which are in their ranges, and this schedule
abbrev pub TracesByWords : List (List ℕ) → Outside → Status → Type 0
TracesByWords words o status = (options : TraceOptions) (schedule : List ℕ) → command_of words ≡ Some (commands.Trace options schedule)
    → AreTraced options × TraceRows options schedule (ports_of o) status

-- those of `trace` of a case where they ask for that, with these options, which are in their ranges, and this schedule
abbrev pub TracesCaseByWords : List (List ℕ) → Outside → Status → Type 0
TracesCaseByWords words o status = (options : TraceOptions) (schedule : List ℕ) → command_of words ≡ Some (commands.TraceCase options schedule)
    → AreTraced options × TraceCaseRows options schedule (ports_of o) status

-- those of `ram` where they ask for that, with these options, which are in their ranges, and this plan
abbrev pub RunsRamByWords : List (List ℕ) → Outside → Status → Type 0
RunsRamByWords words o status = (options : RunOptions) (plan : List ℕ) → command_of words ≡ Some (commands.Ram options plan)
    → AreRun options × RamRows options options.processors plan o status

-- those of `resume` where they ask for that, with these options, which are in their ranges, and this plan
abbrev pub ResumesByWords : List (List ℕ) → Outside → Status → Type 0
ResumesByWords words o status = (options : ResumeOptions) (plan : List ℕ) → command_of words ≡ Some (commands.Resume options plan)
    → AreResumed options × ResumeRows options plan o status

-- What `stop` saves of the text that was read is the text of a state which that text left, by no more faults than the schedule has. It is a law, in
-- which no status occurs, so it holds also where out failed at the saved text.
abbrev pub LeavesStates : StopOptions → (schedule : List ℕ) → Ports → Type 0
LeavesStates options schedule p = (text : List ℕ) (read : HasRead options schedule p (answers.Saved text))
    → IsTextLeftBy read.0 (scheduled_faults read.2.items) text

-- the rows of `stop` with such options and such a schedule; and, a law, what its texts are
pub record StopsLeaving (options : StopOptions) (schedule : List ℕ) (p : Ports) (status : Status) : Type 0 where
  pub says : StopRows options schedule p status
  pub left : LeavesStates options schedule p

-- they hold where the words ask for that, with these options, which are in their ranges, and this schedule
abbrev pub StopsByWords : List (List ℕ) → Outside → Status → Type 0
StopsByWords words o status = (options : StopOptions) (schedule : List ℕ) → command_of words ≡ Some (commands.Stop options schedule) →
    AreStopped options × StopsLeaving options schedule (ports_of o) status

-- What `stop` saves of the case that was read is the text of a state which its code left, by no more faults than the schedule has, if the code may be
-- resumed. It is a law as well.
abbrev pub LeavesStatesOfCases : StopOptions → (schedule : List ℕ) → Ports → Type 0
LeavesStatesOfCases options schedule p = (text : List ℕ) (read : HasCaseRead options schedule p (answers.Saved text)) → MayBeRun read.2.has.code
    → IsTextLeftByCode read.2.has.code read.2.has.input (scheduled_faults read.2.items) text

-- the rows of `stop` of a case with such options and such a schedule; and, a law, what its texts are
pub record StopsCaseLeaving (options : StopOptions) (schedule : List ℕ) (p : Ports) (status : Status) : Type 0 where
  pub says : StopCaseRows options schedule p status
  pub left : LeavesStatesOfCases options schedule p

-- they hold where the words ask for that, with these options, which are in their ranges, and this schedule
abbrev pub StopsCaseByWords : List (List ℕ) → Outside → Status → Type 0
StopsCaseByWords words o status = (options : StopOptions) (schedule : List ℕ) → command_of words ≡ Some (commands.StopCase options schedule) →
    AreStopped options × StopsCaseLeaving options schedule (ports_of o) status

-- those of `stop` of a saved text where they ask for that, with these options, which are in their ranges, and this schedule
abbrev pub StopsSavedByWords : List (List ℕ) → Outside → Status → Type 0
StopsSavedByWords words o status = (options : StopSavedOptions) (schedule : List ℕ) → command_of words ≡ Some (commands.StopSaved options schedule) →
    AreSavedStopped options × SavedStopRows options schedule (ports_of o) status

-- those of `replay` of a saved text where they ask for that, with these options, which are in their ranges, and this schedule; and when it ends
abbrev pub ReplaysSavedByWords : List (List ℕ) → Outside → Status → Type 0
ReplaysSavedByWords words o status = (options : ReplaySavedOptions) (schedule : List ℕ) → command_of words ≡ Some (commands.ReplaySaved options schedule)
    → AreSavedReplayed options × SavedReplayRows options schedule (ports_of o) status × SavedReplayEnds options schedule (ports_of o) status

-- and those of such a `replay` where they ask for its counts too
abbrev pub CountsSavedByWords : List (List ℕ) → Outside → Status → Type 0
CountsSavedByWords words o status =
    (options : ReplaySavedOptions) (schedule : List ℕ) → command_of words ≡ Some (commands.CountedReplaySaved options schedule)
    → AreSavedReplayed options × CountedSavedRows options schedule (ports_of o) status × CountedSavedReplayEnds options schedule (ports_of o) status

-- those of `trace` of a saved text where they ask for that, with these options, which are in their ranges, and this schedule
abbrev pub TracesSavedByWords : List (List ℕ) → Outside → Status → Type 0
TracesSavedByWords words o status = (options : TraceSavedOptions) (schedule : List ℕ) → command_of words ≡ Some (commands.TraceSaved options schedule) →
    AreSavedTraced options × SavedTraceRows options schedule (ports_of o) status

-- where they ask for the program's own example, with options in their ranges, nothing is read, and its rows hold
abbrev pub SumsByWords : List (List ℕ) → Outside → Status → Type 0
SumsByWords words o status = (options : SelfOptions) → command_of words ≡ Some (commands.Example options)
    → AreSelf options × IsUnread o.source × ExampleRows options o status

-- the words ask for a command whose plan or schedule is refused
pub data HasRefusedPlan (words : List (List ℕ)) (o : Outside) : Type 0 where
  OfPlan : (command : Command) (orders : Orders) → command_of words ≡ Some command → plan_of command ≡ Some orders
      → RefusesPlan plan_form orders.bytes orders.processors (ports_of o) → HasRefusedPlan words o
  OfSchedule : (command : Command) (orders : Orders) → command_of words ≡ Some command → schedule_of command ≡ Some orders
      → RefusesPlan schedule_form orders.bytes orders.processors (ports_of o) → HasRefusedPlan words o
  OfResume : (options : ResumeOptions) (plan : List ℕ) → command_of words ≡ Some (commands.Resume options plan)
      → RefusesResumed options plan o → HasRefusedPlan words o
  OfCountedResume : (options : ResumeOptions) (plan : List ℕ) → command_of words ≡ Some (commands.CountedResume options plan)
      → RefusesCountedResume options plan (ports_of o) → HasRefusedPlan words o
  OfSaved : (command : Command) (schedule : List ℕ) → command_of words ≡ Some command → saved_schedule_of command ≡ Some schedule
      → RefusesSchedule schedule (ports_of o) → HasRefusedPlan words o
  OfStrands : (options : StrandsOptions) (schedule : List ℕ) → command_of words ≡ Some (commands.Strands options schedule)
      → RefusesPlan strand_form schedule 1 (ports_of o) → HasRefusedPlan words o
  OfExplained : (options : ExplainOptions) (text : List ℕ) → command_of words ≡ Some (commands.ExplainOrders options text)
      → WritesNotes options text (ports_of o) → HasRefusedPlan words o

-- Status 3 comes only where the words give no command, or name a plan or a schedule that is refused. Where they give no command,
-- nothing is read, and the status is 3, or 8 or 9.
pub record RefusesWords (words : List (List ℕ)) (o : Outside) (status : Status) : Type 0 where
  pub only : status ≡ statuses.WordsRefused → (command_of words ≡ None) ⊎ HasRefusedPlan words o
  pub unread : command_of words ≡ None → IsUnread o.source
  pub always : command_of words ≡ None → IsOneOf status (statuses.WordsRefused ∷ statuses.WriteFault ∷ statuses.NoMemory ∷ [])

-- Status 7 comes only where the source failed, and 8 only where out or err did. A fault of the source makes it 7, or 8 where out or
-- err failed too; a fault of out or of err makes it 8, whatever else happened.
pub record ReportsFaults (o : Outside) (status : Status) : Type 0 where
  pub read_fault : status ≡ statuses.ReadFault → Fails o.source
  pub write_fault : status ≡ statuses.WriteFault → Fails o.out ⊎ Fails o.err
  pub source_fails : ¬ Holds o.source → IsOneOf status (statuses.ReadFault ∷ statuses.WriteFault ∷ [])
  pub out_fails : ¬ Holds o.out → status ≡ statuses.WriteFault
  pub err_fails : ¬ Holds o.err → status ≡ statuses.WriteFault

-- at each status but 0, 1 and 8 nothing is written on out
abbrev pub IsSilentOnOut : Outside → Status → Type 0
IsSilentOnOut o status =
    status ≢ statuses.Ended → status ≢ statuses.Trapped → status ≢ statuses.WriteFault → Keeps o.out.before o.out.now

-- the rows of the program: those of each command, those of words that give none, and those that all commands share
pub record ProgramRows (words : List (List ℕ)) (o : Outside) (status : Status) : Type 0 where
  pub run : RunsByWords words o status
  pub run_case : RunsCaseByWords words o status
  pub serial : InterpretsByWords words o status
  pub code : ListsByWords words o status
  pub case : ListsCaseByWords words o status
  pub check : ChecksByWords words o status
  pub racing_check : ChecksRacingByWords words o status
  pub show : ShowsByWords words o status
  pub explain : ExplainsByWords words o status
  pub explain_trap : ExplainsTrapByWords words o status
  pub explain_orders : ExplainsOrdersByWords words o status
  pub depth : RunsDepthFirstByWords words o status
  pub races : SeeksRacesByWords words o status
  pub strands : RunsStrandsByWords words o status
  pub drawn_strands : DrawsStrandsByWords words o status
  pub replay : ReplaysByWords words o status
  pub replay_case : ReplaysCaseByWords words o status
  pub counted : CountsByWords words o status
  pub counted_case : CountsCaseByWords words o status
  pub counted_run : CountsRunByWords words o status
  pub counted_run_case : CountsRunCaseByWords words o status
  pub counted_resume : CountsResumeByWords words o status
  pub sweep : SweepsByWords words o status
  pub sweep_case : SweepsCaseByWords words o status
  pub trace : TracesByWords words o status
  pub trace_case : TracesCaseByWords words o status
  pub ram : RunsRamByWords words o status
  pub resume : ResumesByWords words o status
  pub stop : StopsByWords words o status
  pub stop_case : StopsCaseByWords words o status
  pub stop_saved : StopsSavedByWords words o status
  pub replay_saved : ReplaysSavedByWords words o status
  pub counted_saved : CountsSavedByWords words o status
  pub trace_saved : TracesSavedByWords words o status
  pub example : SumsByWords words o status
  pub words_refused : RefusesWords words o status
  pub faults : ReportsFaults o status
  pub nothing_on_out : IsSilentOnOut o status
