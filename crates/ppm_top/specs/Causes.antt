-- When each answer may come, and what watchers are told with it: a line for each command.
use Rattle.std.specs.Prelude.{ℕ, List, Option, Some, None}
use Rattle.ppm_ports.specs.Outside.{ToldLists, Outside}
use Rattle.ppm_answers.specs.declared.answer.Answer.{Answer}
use Rattle.ppm_answers.specs.declared.answer.Answer.TheVariants as answers
use Rattle.ppm_answers.specs.declared.status.Status.{Status}
use Rattle.ppm_answers.specs.Reading.{IsUnread, TellsNothing, Answers}
use Rattle.ppm_cli.specs.declared.command.Command.{Command}
use Rattle.ppm_cli.specs.declared.command.Command.TheVariants as commands
use Rattle.ppm_cli.specs.Words.{command_of}
use Rattle.ppm_commands.specs.Case.{CaseMay}
use Rattle.ppm_commands.specs.Check.{CheckMay}
use Rattle.ppm_explained.specs.Explaining.{ExplainMay}
use Rattle.ppm_explained.specs.Orders.{OrdersMay}
use Rattle.ppm_explained.specs.Trapping.{TrapMay}
use Rattle.ppm_commands.specs.Code.{CodeMay}
use Rattle.ppm_commands.specs.Depth.{DepthMay}
use Rattle.ppm_commands.specs.Races.{RacesMay}
use Rattle.ppm_commands.specs.RacingCheck.{RacingCheckMay}
use Rattle.ppm_commands.specs.Serial.{SerialMay}
use Rattle.ppm_commands.specs.Show.{ShowMay}
use Rattle.ppm_replay_command.specs.CaseReplays.{ReplayCaseMay}
use Rattle.ppm_driver.specs.CaseRuns.{RunCaseMay, RunCaseTells}
use Rattle.ppm_stop_command.specs.CaseStops.{StopCaseMay}
use Rattle.ppm_sweep_command.specs.CaseSweeps.{SweepCaseMay}
use Rattle.ppm_trace_command.specs.CaseTraces.{TraceCaseMay}
use Rattle.ppm_replay_command.specs.CountedCases.{CountedCaseMay}
use Rattle.ppm_replay_command.specs.CountedReplays.{CountedMay}
use Rattle.ppm_driver.specs.CountedCaseRuns.{CountedRunCaseMay}
use Rattle.ppm_outcomes.specs.CountedResumes.{CountedResumeMay}
use Rattle.ppm_outcomes.specs.CountedRuns.{CountedRunMay}
use Rattle.ppm_driver.specs.Examples.{ExampleMay, ExampleTells}
use Rattle.ppm_driver.specs.RamRuns.{RamMay, RamTells}
use Rattle.ppm_outcomes.specs.Replays.{ReplayMay}
use Rattle.ppm_outcomes.specs.Resumes.{ResumeMay, ResumeTells}
use Rattle.ppm_outcomes.specs.Runs.{RunMay, RunTells}
use Rattle.ppm_outcomes.specs.Stops.{StopMay}
use Rattle.ppm_strands_command.specs.Drawn.{DrawnMay}
use Rattle.ppm_strands_command.specs.Strands.{StrandsMay}
use Rattle.ppm_sweep_command.specs.Sweeps.{SweepMay}
use Rattle.ppm_trace_command.specs.Traces.{TraceMay}
use Rattle.ppm_legs.specs.CountedReplays.{CountedMay as CountedReplaySavedMay}
use Rattle.ppm_legs.specs.SavedReplays.{ReplayMay as ReplaySavedMay}
use Rattle.ppm_legs.specs.SavedStops.{StopMay as StopSavedMay}
use Rattle.ppm_legs.specs.SavedTraces.{TraceMay as TraceSavedMay}

-- the answers where the words give no command
abbrev pub NoCommandMay : Outside → Answer → Type 0
NoCommandMay o answers.WordsRefused = IsUnread o.source
NoCommandMay o answers.NoMemory = IsUnread o.source
NoCommandMay o _ = ⊥

-- the answers of a command, or of none
abbrev pub CommandMay : Option Command → Outside → Answer → Type 0
CommandMay None o answer = NoCommandMay o answer
CommandMay (Some (commands.Run options plan)) o answer = RunMay options options.processors plan o.told_before o.told_now o.source answer
CommandMay (Some (commands.Serial options)) o answer = SerialMay options.turns o.source answer
CommandMay (Some commands.Code) o answer = CodeMay o.source answer
CommandMay (Some commands.CodeCase) o answer = CaseMay o.source answer
CommandMay (Some commands.Check) o answer = CheckMay o.source answer
CommandMay (Some commands.CheckRacing) o answer = RacingCheckMay o.source answer
CommandMay (Some commands.Show) o answer = ShowMay o.source answer
CommandMay (Some (commands.Explain text)) o answer = ExplainMay text o.source answer
CommandMay (Some (commands.ExplainTrap options)) o answer = TrapMay options.turns o.source answer
CommandMay (Some (commands.ExplainOrders options text)) o answer = OrdersMay options text o.source answer
CommandMay (Some (commands.Depth limit)) o answer = DepthMay limit.capsules o.source answer
CommandMay (Some (commands.Races limit)) o answer = RacesMay limit.capsules o.source answer
CommandMay (Some (commands.Strands options schedule)) o answer = StrandsMay options schedule o.source answer
CommandMay (Some (commands.DrawnStrands options)) o answer = DrawnMay options o.source answer
CommandMay (Some (commands.Replay options schedule)) o answer = ReplayMay options schedule o.source answer
CommandMay (Some (commands.Resume options plan)) o answer = ResumeMay options plan o.told_before o.told_now o.source answer
CommandMay (Some (commands.Stop options schedule)) o answer = StopMay options schedule o.source answer
CommandMay (Some (commands.ReplaySaved options schedule)) o answer = ReplaySavedMay options schedule o.source answer
CommandMay (Some (commands.StopSaved options schedule)) o answer = StopSavedMay options schedule o.source answer
CommandMay (Some (commands.TraceSaved options schedule)) o answer = TraceSavedMay options schedule o.source answer
CommandMay (Some (commands.RunCase options plan)) o answer = RunCaseMay options options.processors plan o.told_before o.told_now o.source answer
CommandMay (Some (commands.ReplayCase options schedule)) o answer = ReplayCaseMay options schedule o.source answer
CommandMay (Some (commands.CountedReplay options schedule)) o answer = CountedMay options schedule o.source answer
CommandMay (Some (commands.CountedReplayCase options schedule)) o answer = CountedCaseMay options schedule o.source answer
CommandMay (Some (commands.CountedReplaySaved options schedule)) o answer = CountedReplaySavedMay options schedule o.source answer
CommandMay (Some (commands.CountedRun options plan)) o answer = CountedRunMay options plan o.source answer
CommandMay (Some (commands.CountedRunCase options plan)) o answer = CountedRunCaseMay options plan o.source answer
CommandMay (Some (commands.CountedResume options plan)) o answer = CountedResumeMay options plan o.source answer
CommandMay (Some (commands.StopCase options schedule)) o answer = StopCaseMay options schedule o.source answer
CommandMay (Some (commands.Sweep options schedule)) o answer = SweepMay options schedule o.source answer
CommandMay (Some (commands.SweepCase options schedule)) o answer = SweepCaseMay options schedule o.source answer
CommandMay (Some (commands.Trace options schedule)) o answer = TraceMay options schedule o.source answer
CommandMay (Some (commands.TraceCase options schedule)) o answer = TraceCaseMay options schedule o.source answer
CommandMay (Some (commands.Ram options plan)) o answer = RamMay options options.processors plan o.told_before o.told_now o.source answer
CommandMay (Some (commands.Example options)) o answer = IsUnread o.source × ExampleMay options o.told_before o.told_now answer

-- What watchers are told with each answer of a command, or of none: a run tells them its turns. Where memory is wanting, what they were told is
-- nothing, or it is of one run: of one that was given up, or of a whole one.
abbrev pub CommandTells : Option Command → Outside → Answer → ToldLists → ToldLists → Type 0
CommandTells None o = TellsNothing
CommandTells (Some (commands.Run options plan)) o = RunTells options options.processors plan o.source
CommandTells (Some (commands.Serial options)) o = TellsNothing
CommandTells (Some commands.Code) o = TellsNothing
CommandTells (Some commands.CodeCase) o = TellsNothing
CommandTells (Some commands.Check) o = TellsNothing
CommandTells (Some commands.CheckRacing) o = TellsNothing
CommandTells (Some commands.Show) o = TellsNothing
CommandTells (Some (commands.Explain text)) o = TellsNothing
CommandTells (Some (commands.ExplainTrap options)) o = TellsNothing
CommandTells (Some (commands.ExplainOrders options text)) o = TellsNothing
CommandTells (Some (commands.Depth limit)) o = TellsNothing
CommandTells (Some (commands.Races limit)) o = TellsNothing
CommandTells (Some (commands.Strands options schedule)) o = TellsNothing
CommandTells (Some (commands.DrawnStrands options)) o = TellsNothing
CommandTells (Some (commands.Replay options schedule)) o = TellsNothing
CommandTells (Some (commands.Resume options plan)) o = ResumeTells options plan o.source
CommandTells (Some (commands.Stop options schedule)) o = TellsNothing
CommandTells (Some (commands.ReplaySaved options schedule)) o = TellsNothing
CommandTells (Some (commands.StopSaved options schedule)) o = TellsNothing
CommandTells (Some (commands.TraceSaved options schedule)) o = TellsNothing
CommandTells (Some (commands.RunCase options plan)) o = RunCaseTells options options.processors plan o.source
CommandTells (Some (commands.ReplayCase options schedule)) o = TellsNothing
CommandTells (Some (commands.CountedReplay options schedule)) o = TellsNothing
CommandTells (Some (commands.CountedReplayCase options schedule)) o = TellsNothing
CommandTells (Some (commands.CountedReplaySaved options schedule)) o = TellsNothing
CommandTells (Some (commands.CountedRun options plan)) o = TellsNothing
CommandTells (Some (commands.CountedRunCase options plan)) o = TellsNothing
CommandTells (Some (commands.CountedResume options plan)) o = TellsNothing
CommandTells (Some (commands.StopCase options schedule)) o = TellsNothing
CommandTells (Some (commands.Sweep options schedule)) o = TellsNothing
CommandTells (Some (commands.SweepCase options schedule)) o = TellsNothing
CommandTells (Some (commands.Trace options schedule)) o = TellsNothing
CommandTells (Some (commands.TraceCase options schedule)) o = TellsNothing
CommandTells (Some (commands.Ram options plan)) o = RamTells options options.processors plan o.source
CommandTells (Some (commands.Example options)) o = ExampleTells options

-- an answer of the command that the words give was delivered, and watchers were told what belongs to it
abbrev pub IsAnswered : List (List ℕ) → Outside → Status → Type 0
IsAnswered words o status = Answers (CommandMay (command_of words) o) (CommandTells (command_of words) o) o status
