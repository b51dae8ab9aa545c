-- Want of memory may always be answered before anything is read.
use Rattle.std.proofs.Common.{◌≡◌, ℕ, List, Option, Some, None, refl, sym, subst}
use Rattle.ppm_ports.specs.Outside.{ToldLists, Outside, ports_of}
use Rattle.ppm_text.specs.Limits.{text_limit}
use Rattle.ppm_listing_reader.specs.Limits.{listing_limit}
use Rattle.ppm_case.specs.Rules.{case_limit}
use Rattle.ppm_ram.specs.Limits.{text_limit as ram_limit}
use Rattle.ppm_answers.specs.declared.answer.Answer.{Answer}
use Rattle.ppm_answers.specs.declared.answer.Answer.TheVariants as answers
use Rattle.ppm_answers.specs.declared.status.Status.{Status}
use Rattle.ppm_answers.specs.Reading.{IsUnread, DeliversAnswer, TellsNothing, Answers}
use Rattle.ppm_answers.proofs.Delivered.{tells_nothing}
use Rattle.ppm_answers.proofs.Judged as judged
use Rattle.ppm_cli.specs.declared.command.Command.{Command}
use Rattle.ppm_cli.specs.declared.command.Command.TheVariants as commands
use Rattle.ppm_commands.specs.Case.{CaseReads}
use Rattle.ppm_commands.specs.Check.{CheckHas}
use Rattle.ppm_commands.specs.RacingCheck.{RacingHas}
use Rattle.ppm_explained.specs.Explaining.{ExplainHas}
use Rattle.ppm_explained.specs.Texts.{limit_of}
use Rattle.ppm_explained.specs.Trapping.{TrapHas}
use Rattle.ppm_commands.specs.Code.{CodeReads}
use Rattle.ppm_commands.specs.Depth.{DepthHas}
use Rattle.ppm_commands.specs.Races.{RacesHas}
use Rattle.ppm_commands.specs.Serial.{SerialHas}
use Rattle.ppm_commands.specs.Show.{ShowHas}
use Rattle.ppm_cli.specs.Words.{command_of}
use Rattle.ppm_top.specs.Causes.{CommandMay, CommandTells, IsAnswered}
use Rattle.ppm_plan.specs.Forms.{plan_form, schedule_form}
use Rattle.ppm_plan.specs.Strands.{strand_form}
use Rattle.ppm_cli.specs.declared.example.SelfOptions.{SelfOptions}
use Rattle.ppm_replay_command.specs.CaseReplays.{TextHas as ReplayCaseTextHas}
use Rattle.ppm_driver.specs.CaseRuns.{TextHas as RunCaseTextHas}
use Rattle.ppm_stop_command.specs.CaseStops.{TextReads as StopCaseTextReads}
use Rattle.ppm_sweep_command.specs.CaseSweeps.{TextHas as SweepCaseTextHas}
use Rattle.ppm_trace_command.specs.CaseTraces.{TextHas as TraceCaseTextHas}
use Rattle.ppm_replay_command.specs.CountedCases.{TextHas as CountedCaseTextHas}
use Rattle.ppm_replay_command.specs.CountedReplays.{TextHas as CountedTextHas}
use Rattle.ppm_driver.specs.CountedCaseRuns.{TextHas as CountedRunCaseTextHas}
use Rattle.ppm_outcomes.specs.CountedResumes.{TextHas as CountedResumeTextHas}
use Rattle.ppm_outcomes.specs.CountedRuns.{TextHas as CountedRunTextHas}
use Rattle.ppm_driver.specs.Examples.{ExampleMay, ExampleTells}
use Rattle.ppm_driver.specs.RamRuns.{TextHas as RamTextHas}
use Rattle.ppm_outcomes.specs.Replays.{TextHas as ReplayTextHas}
use Rattle.ppm_outcomes.specs.Resumes.{TextHas as ResumeTextHas}
use Rattle.ppm_outcomes.specs.Stops.{TextReads as StopTextReads}
use Rattle.ppm_strands_command.specs.Drawn.{DrawnHas}
use Rattle.ppm_strands_command.specs.Strands.{TextHas as StrandsTextHas}
use Rattle.ppm_sweep_command.specs.Sweeps.{TextHas as SweepTextHas}
use Rattle.ppm_trace_command.specs.Traces.{TextHas as TraceTextHas}
use Rattle.ppm_outcomes.specs.Runs.{TextHas as RunTextHas}
use Rattle.ppm_legs.specs.CountedReplays.{CountedHas as CountedSavedHas}
use Rattle.ppm_legs.specs.SavedReplays.{ReplayHas as ReplaySavedHas}
use Rattle.ppm_legs.specs.SavedStops.{StopReads as StopSavedReads}
use Rattle.ppm_legs.specs.SavedTraces.{TraceHas as TraceSavedHas}
use Rattle.ppm_loading.proofs.PlannedLemmas as planned
use Rattle.ppm_outcomes.proofs.ResumeLemmas.{untold_source}
use Rattle.ppm_outcomes.proofs.WatchLemmas.{untold}
use Rattle.ppm_saved_reader.specs.Rules.{saved_limit}

-- where nothing was read, out of memory may be the answer, whatever the command is
pub memory_before : (command : Option Command) (o : Outside) → IsUnread o.source → CommandMay command o answers.NoMemory
memory_before None o h = h
memory_before (Some (commands.Run options plan)) o h =
    planned.memory_before plan_form plan options.processors (RunTextHas options options.processors o.told_before o.told_now) text_limit o.source h
memory_before (Some (commands.Serial options)) o h = judged.memory_before text_limit (SerialHas options.turns) o.source h
memory_before (Some commands.Code) o h = judged.memory_before text_limit CodeReads o.source h
memory_before (Some commands.CodeCase) o h = judged.memory_before text_limit CaseReads o.source h
memory_before (Some commands.Check) o h = judged.memory_before listing_limit CheckHas o.source h
memory_before (Some commands.CheckRacing) o h = judged.memory_before listing_limit RacingHas o.source h
memory_before (Some commands.Show) o h = judged.memory_before saved_limit ShowHas o.source h
memory_before (Some (commands.Explain text)) o h = judged.memory_before (limit_of text) (ExplainHas text) o.source h
memory_before (Some (commands.ExplainTrap options)) o h = judged.memory_before text_limit (TrapHas options.turns) o.source h
memory_before (Some (commands.ExplainOrders options text)) o h = h
memory_before (Some (commands.Depth limit)) o h = judged.memory_before case_limit (DepthHas limit.capsules) o.source h
memory_before (Some (commands.Races limit)) o h = judged.memory_before case_limit (RacesHas limit.capsules) o.source h
memory_before (Some (commands.Strands options schedule)) o h =
    planned.memory_before strand_form schedule 1 (StrandsTextHas options) case_limit o.source h
memory_before (Some (commands.DrawnStrands options)) o h = judged.memory_before case_limit (DrawnHas options) o.source h
memory_before (Some (commands.Replay options schedule)) o h =
    planned.memory_before schedule_form schedule options.processors (ReplayTextHas options) text_limit o.source h
memory_before (Some (commands.Resume options plan)) o h =
    judged.memory_before saved_limit (ResumeTextHas options plan o.told_before o.told_now) o.source h
memory_before (Some (commands.Stop options schedule)) o h =
    planned.memory_before schedule_form schedule options.processors (StopTextReads options) text_limit o.source h
memory_before (Some (commands.ReplaySaved options schedule)) o h = judged.memory_before saved_limit (ReplaySavedHas options schedule) o.source h
memory_before (Some (commands.CountedReplaySaved options schedule)) o h =
    judged.memory_before saved_limit (CountedSavedHas options schedule) o.source h
memory_before (Some (commands.StopSaved options schedule)) o h = judged.memory_before saved_limit (StopSavedReads options schedule) o.source h
memory_before (Some (commands.TraceSaved options schedule)) o h = judged.memory_before saved_limit (TraceSavedHas options schedule) o.source h
memory_before (Some (commands.RunCase options plan)) o h =
    planned.memory_before plan_form plan options.processors (RunCaseTextHas options options.processors o.told_before o.told_now) case_limit o.source h
memory_before (Some (commands.ReplayCase options schedule)) o h =
    planned.memory_before schedule_form schedule options.processors (ReplayCaseTextHas options) case_limit o.source h
memory_before (Some (commands.StopCase options schedule)) o h =
    planned.memory_before schedule_form schedule options.processors (StopCaseTextReads options) case_limit o.source h
memory_before (Some (commands.Sweep options schedule)) o h =
    planned.memory_before schedule_form schedule options.processors (SweepTextHas options) text_limit o.source h
memory_before (Some (commands.SweepCase options schedule)) o h =
    planned.memory_before schedule_form schedule options.processors (SweepCaseTextHas options) case_limit o.source h
memory_before (Some (commands.Trace options schedule)) o h =
    planned.memory_before schedule_form schedule options.processors (TraceTextHas options) text_limit o.source h
memory_before (Some (commands.TraceCase options schedule)) o h =
    planned.memory_before schedule_form schedule options.processors (TraceCaseTextHas options) case_limit o.source h
memory_before (Some (commands.CountedReplay options schedule)) o h =
    planned.memory_before schedule_form schedule options.processors (CountedTextHas options) text_limit o.source h
memory_before (Some (commands.CountedReplayCase options schedule)) o h =
    planned.memory_before schedule_form schedule options.processors (CountedCaseTextHas options) case_limit o.source h
memory_before (Some (commands.CountedRun options plan)) o h =
    planned.memory_before plan_form plan options.processors (CountedRunTextHas options) text_limit o.source h
memory_before (Some (commands.CountedRunCase options plan)) o h =
    planned.memory_before plan_form plan options.processors (CountedRunCaseTextHas options) case_limit o.source h
memory_before (Some (commands.CountedResume options plan)) o h = judged.memory_before saved_limit (CountedResumeTextHas options plan) o.source h
memory_before (Some (commands.Ram options plan)) o h =
    planned.memory_before plan_form plan options.processors (RamTextHas options options.processors o.told_before o.told_now) ram_limit o.source h
memory_before (Some (commands.Example options)) o h = (h, tt)

-- an answer of the command that the words give answers the words
pub by_command : (words : List (List ℕ)) (o : Outside) (status : Status) (command : Option Command) → command_of words ≡ command →
    Answers (CommandMay command o) (CommandTells command o) o status → IsAnswered words o status
by_command words o status command e a = subst (λ c. Answers (CommandMay c o) (CommandTells c o) o status) (sym e) a

-- an answer that was delivered by a command without watchers answers the words
pub by_ports : (words : List (List ℕ)) (o : Outside) (status : Status) (command : Option Command) → command_of words ≡ command →
    CommandTells command o ≡ TellsNothing → o.told_now ≡ o.told_before → DeliversAnswer (CommandMay command o) (ports_of o) status →
    IsAnswered words o status
by_ports words o status command e tells told d =
    by_command words o status command e
    (subst (λ (t : Answer → ToldLists → ToldLists → Type 0). Answers (CommandMay command o) t o status) (sym tells)
    (tells_nothing (CommandMay command o) o status told d))

-- an answer of the example is one of its command, where nothing was read
pub of_example : (options : SelfOptions) (o : Outside) (status : Status) → IsUnread o.source
    → Answers (ExampleMay options o.told_before o.told_now) (ExampleTells options) o status
    → Answers (CommandMay (Some (commands.Example options)) o) (CommandTells (Some (commands.Example options)) o) o status
of_example options o status unread a =
    record { answer = a.answer; cause = (unread, a.cause); delivered = a.delivered; told = a.told }

-- where nobody was told anything, that belongs to each answer
pub told_nothing : (command : Option Command) (o : Outside) (answer : Answer) (lists : ToldLists) → CommandTells command o answer lists lists
told_nothing None o answer lists = refl
told_nothing (Some (commands.Run options plan)) o answer lists = untold options.processors _ _ answer lists
told_nothing (Some (commands.Serial options)) o answer lists = refl
told_nothing (Some commands.Code) o answer lists = refl
told_nothing (Some commands.CodeCase) o answer lists = refl
told_nothing (Some commands.Check) o answer lists = refl
told_nothing (Some commands.CheckRacing) o answer lists = refl
told_nothing (Some commands.Show) o answer lists = refl
told_nothing (Some (commands.Explain text)) o answer lists = refl
told_nothing (Some (commands.ExplainTrap options)) o answer lists = refl
told_nothing (Some (commands.ExplainOrders options text)) o answer lists = refl
told_nothing (Some (commands.Depth limit)) o answer lists = refl
told_nothing (Some (commands.Races limit)) o answer lists = refl
told_nothing (Some (commands.Strands options schedule)) o answer lists = refl
told_nothing (Some (commands.DrawnStrands options)) o answer lists = refl
told_nothing (Some (commands.Replay options schedule)) o answer lists = refl
told_nothing (Some (commands.Resume options plan)) o answer lists = untold_source options plan o.source answer lists
told_nothing (Some (commands.Stop options schedule)) o answer lists = refl
told_nothing (Some (commands.ReplaySaved options schedule)) o answer lists = refl
told_nothing (Some (commands.CountedReplaySaved options schedule)) o answer lists = refl
told_nothing (Some (commands.StopSaved options schedule)) o answer lists = refl
told_nothing (Some (commands.TraceSaved options schedule)) o answer lists = refl
told_nothing (Some (commands.RunCase options plan)) o answer lists = untold options.processors _ _ answer lists
told_nothing (Some (commands.ReplayCase options schedule)) o answer lists = refl
told_nothing (Some (commands.StopCase options schedule)) o answer lists = refl
told_nothing (Some (commands.Sweep options schedule)) o answer lists = refl
told_nothing (Some (commands.SweepCase options schedule)) o answer lists = refl
told_nothing (Some (commands.Trace options schedule)) o answer lists = refl
told_nothing (Some (commands.TraceCase options schedule)) o answer lists = refl
told_nothing (Some (commands.CountedReplay options schedule)) o answer lists = refl
told_nothing (Some (commands.CountedReplayCase options schedule)) o answer lists = refl
told_nothing (Some (commands.CountedRun options plan)) o answer lists = refl
told_nothing (Some (commands.CountedRunCase options plan)) o answer lists = refl
told_nothing (Some (commands.CountedResume options plan)) o answer lists = refl
told_nothing (Some (commands.Ram options plan)) o answer lists = untold options.processors _ _ answer lists
told_nothing (Some (commands.Example options)) o answer lists = untold options.processors _ _ answer lists
