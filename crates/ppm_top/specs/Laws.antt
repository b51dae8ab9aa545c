-- The laws on which the rows of the program rest.
use Rattle.ppm_plan.specs.Correct.{HaveOneAnswer as PlansHaveOneAnswer}
use Rattle.ppm_case.specs.Correct.{FaultsTellCases}
use Rattle.ppm_ram.specs.Correct.{TextsAreOfRams}
use Rattle.ppm_commands.specs.Case.{AreCases, HaveOneAnswer as CaseTextsHaveOneAnswer}
use Rattle.ppm_commands.specs.Check.{HaveOneAnswer as ListingsHaveOneAnswer}
use Rattle.ppm_commands.specs.RacingCheck.{HaveOneAnswer as RacingListingsHaveOneAnswer}
use Rattle.ppm_explained.specs.Explaining.{HaveOneAnswer as ExplainedTextsHaveOneAnswer}
use Rattle.ppm_explained.specs.Orders.{AllHaveOneAnswer as ExplainedOrdersHaveOneAnswer}
use Rattle.ppm_explained.specs.Trapping.{HaveOneAnswer as TrapsHaveOneAnswer}
use Rattle.ppm_commands.specs.Code.{CodesAreFaithful, HaveOneAnswer as CodesHaveOneAnswer}
use Rattle.ppm_commands.specs.Depth.{HaveOneAnswer as DepthRunsHaveOneAnswer}
use Rattle.ppm_commands.specs.Races.{HaveOneAnswer as CasesHaveOneAnswer}
use Rattle.ppm_commands.specs.Serial.{HaveOneAnswer as OutcomesHaveOneAnswer}
use Rattle.ppm_commands.specs.Show.{HaveOneAnswer as SavedTextsHaveOneAnswer}
use Rattle.ppm_replay_command.specs.CaseReplays.{HaveOneCaseAnswer}
use Rattle.ppm_driver.specs.CaseRuns.{CaseAnswersAreOne, CaseFrontsDecide}
use Rattle.ppm_stop_command.specs.CaseStops.{HaveOneStopAnswer}
use Rattle.ppm_sweep_command.specs.CaseSweeps.{HaveOneCaseAnswer as SweptCasesHaveOneAnswer}
use Rattle.ppm_trace_command.specs.CaseTraces.{HaveOneTraceAnswer}
use Rattle.ppm_outcomes.specs.CodeReplays.{ReplaysAreAsCode}
use Rattle.ppm_outcomes.specs.CodeResumes.{StopsOfCodeLeaveStates}
use Rattle.ppm_driver.specs.CodeRuns.{AnswersAreAsCode}
use Rattle.ppm_outcomes.specs.Completeness.{RunsComplete}
use Rattle.ppm_replay_command.specs.CountedCases.{HaveOneCountedAnswer}
use Rattle.ppm_replay_command.specs.CountedReplays.{HaveOneAnswer as CountedReplaysHaveOneAnswer}
use Rattle.ppm_driver.specs.Examples.{ExamplesSumUp}
use Rattle.ppm_outcomes.specs.Meant.{RunsAreAsPrograms}
use Rattle.ppm_outcomes.specs.ProgramsAsCode.{ProgramsAreAsCode}
use Rattle.ppm_driver.specs.RamEnds.{AnswersAreAsRams}
use Rattle.ppm_driver.specs.CountedCaseRuns.{CountedCaseAnswersAreOne}
use Rattle.ppm_outcomes.specs.CountedRuns.{CountedAnswersAreOne}
use Rattle.ppm_driver.specs.RamRuns.{RamAnswersAreOne, RamFrontsDecide}
use Rattle.ppm_outcomes.specs.Replays.{HaveOneAnswer as ReplaysHaveOneAnswer}
use Rattle.ppm_outcomes.specs.ResumeLaws.{ResumeLaws}
use Rattle.ppm_outcomes.specs.Resumes.{StopsLeaveStates}
use Rattle.ppm_outcomes.specs.Runs.{AnswersAreOne, FrontsDecideAnswers}
use Rattle.ppm_outcomes.specs.Stops.{HaveOneAnswer as StopsHaveOneAnswer}
use Rattle.ppm_strands_command.specs.Drawn.{HaveOneDrawnAnswer}
use Rattle.ppm_strands_command.specs.Strands.{HaveOneAnswer as StrandsHaveOneAnswer}
use Rattle.ppm_sweep_command.specs.SweepRows.{SweepsAreAsCode}
use Rattle.ppm_sweep_command.specs.Sweeps.{HaveOneAnswer as SweepsHaveOneAnswer}
use Rattle.ppm_trace_command.specs.Traces.{HaveOneAnswer as TracesHaveOneAnswer}
use Rattle.ppm_legs.specs.Chains.{StopsBeginChains, StopsGoOnChains}
use Rattle.ppm_legs.specs.CountedReplays.{HaveOneAnswer as CountedSavedReplaysHaveOneAnswer}
use Rattle.ppm_legs.specs.SavedReplays.{HaveOneAnswer as SavedReplaysHaveOneAnswer}
use Rattle.ppm_legs.specs.SavedStops.{HaveOneAnswer as SavedStopsHaveOneAnswer}
use Rattle.ppm_legs.specs.SavedTraces.{HaveOneAnswer as SavedTracesHaveOneAnswer}
use Rattle.ppm_replay_command.specs.ReplayLaws.{CaseReplaysComplete, ReplaysComplete, UnfinishedNeedMore, UnfinishedProgramsNeedMore}
use Rattle.ppm_top.specs.SavedReplayEnds.{UnfinishedSavedNeedMore}

-- what the crates of the commands show of every text
pub record ProgramLaws : Type 0 where
  pub runs : AnswersAreOne
  pub fronts : FrontsDecideAnswers
  pub meant : RunsAreAsPrograms
  pub complete : RunsComplete
  pub unfinished : UnfinishedProgramsNeedMore
  pub unfinished_codes : UnfinishedNeedMore
  pub unfinished_saved : UnfinishedSavedNeedMore
  pub complete_replays : ReplaysComplete
  pub complete_cases : CaseReplaysComplete
  pub sums : ExamplesSumUp
  pub resumes : ResumeLaws
  pub leave : StopsLeaveStates
  pub leave_cases : StopsOfCodeLeaveStates
  pub outcomes : OutcomesHaveOneAnswer
  pub codes : CodesHaveOneAnswer
  pub faithful : CodesAreFaithful
  pub listings : ListingsHaveOneAnswer
  pub racing_listings : RacingListingsHaveOneAnswer
  pub states : SavedTextsHaveOneAnswer
  pub explained : ExplainedTextsHaveOneAnswer
  pub explained_orders : ExplainedOrdersHaveOneAnswer
  pub explained_traps : TrapsHaveOneAnswer
  pub depths : DepthRunsHaveOneAnswer
  pub races : CasesHaveOneAnswer
  pub strands : StrandsHaveOneAnswer
  pub drawn_strands : HaveOneDrawnAnswer
  pub texts : CaseTextsHaveOneAnswer
  pub cases : AreCases
  pub plans : PlansHaveOneAnswer
  pub replays : ReplaysHaveOneAnswer
  pub stops : StopsHaveOneAnswer
  pub saved_stops : SavedStopsHaveOneAnswer
  pub saved_replays : SavedReplaysHaveOneAnswer
  pub counted_saved : CountedSavedReplaysHaveOneAnswer
  pub saved_traces : SavedTracesHaveOneAnswer
  pub begin_chains : StopsBeginChains
  pub chains : StopsGoOnChains
  pub case_runs : AnswersAreAsCode
  pub case_replays : ReplaysAreAsCode
  pub case_faults : FaultsTellCases
  pub case_answers : CaseAnswersAreOne
  pub case_fronts : CaseFrontsDecide
  pub replayed_cases : HaveOneCaseAnswer
  pub stopped_cases : HaveOneStopAnswer
  pub sweeps : SweepsHaveOneAnswer
  pub swept_cases : SweptCasesHaveOneAnswer
  pub swept_codes : SweepsAreAsCode
  pub traces : TracesHaveOneAnswer
  pub traced_cases : HaveOneTraceAnswer
  pub counted : CountedReplaysHaveOneAnswer
  pub counted_cases : HaveOneCountedAnswer
  pub counted_runs : CountedAnswersAreOne
  pub counted_run_cases : CountedCaseAnswersAreOne
  pub coded : ProgramsAreAsCode
  pub ram_runs : AnswersAreAsRams
  pub ram_answers : RamAnswersAreOne
  pub ram_fronts : RamFrontsDecide
  pub ram_texts : TextsAreOfRams
