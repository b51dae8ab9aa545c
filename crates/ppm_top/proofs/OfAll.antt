-- The rows of the program: those of each command, and those that all commands share.
use Rattle.std.proofs.Common.{◌≡◌, ◌⊎◌, ℕ, List, [], ◌∷◌, Option, Some, None}
use Rattle.std.proofs.Common.{sym, ◌∙◌, subst, inl, inr}
use Rattle.ppm_ports.specs.Ports.{Fails, Holds}
use Rattle.ppm_ports.specs.Outside.{Outside, ports_of}
use Rattle.ppm_text.specs.Limits.{text_limit}
use Rattle.ppm_listing_reader.specs.Limits.{listing_limit}
use Rattle.ppm_case.specs.Rules.{case_limit}
use Rattle.ppm_ram.specs.Limits.{text_limit as ram_limit}
use Rattle.ppm_answers.specs.declared.answer.Answer.{Answer}
use Rattle.ppm_answers.specs.declared.answer.Answer.TheVariants as answers
use Rattle.ppm_answers.specs.declared.status.Status.{Status}
use Rattle.ppm_answers.specs.declared.status.Status.TheVariants as statuses
use Rattle.ppm_answers.specs.Statuses.{status_of}
use Rattle.ppm_answers.specs.Delivery.{IsWritten}
use Rattle.ppm_cli.specs.declared.command.Command.{Command}
use Rattle.ppm_cli.specs.declared.command.Command.TheVariants as commands
use Rattle.ppm_cli.specs.declared.example.SelfOptions.{SelfOptions}
use Rattle.ppm_cli.specs.declared.explain.ExplainOptions.{ExplainOptions}
use Rattle.ppm_cli.specs.Words.{command_of}
use Rattle.ppm_cli.proofs.RangeLemmas.{is_in_range}
use Rattle.ppm_commands.specs.Case.{CaseReads}
use Rattle.ppm_commands.specs.Check.{CheckHas}
use Rattle.ppm_explained.specs.Explaining.{ExplainHas}
use Rattle.ppm_explained.specs.Texts.{limit_of}
use Rattle.ppm_explained.specs.Trapping.{TrapHas}
use Rattle.ppm_explained.proofs.ExplainRows.{explain_rows}
use Rattle.ppm_explained.proofs.OrdersRows.{orders_rows, unread as orders_unread}
use Rattle.ppm_explained.proofs.TrapRows.{trap_rows}
use Rattle.ppm_commands.specs.Code.{CodeReads}
use Rattle.ppm_commands.specs.Depth.{DepthHas}
use Rattle.ppm_commands.specs.Races.{RacesHas}
use Rattle.ppm_commands.specs.RacingCheck.{RacingHas}
use Rattle.ppm_commands.specs.Serial.{SerialHas}
use Rattle.ppm_commands.specs.Show.{ShowHas}
use Rattle.ppm_commands.proofs.CaseRows.{case_rows}
use Rattle.ppm_commands.proofs.CheckRows.{check_rows}
use Rattle.ppm_commands.proofs.CodeRows.{code_rows}
use Rattle.ppm_commands.proofs.DepthRows.{depth_rows}
use Rattle.ppm_commands.proofs.RacesRows.{races_rows}
use Rattle.ppm_commands.proofs.RacingRows.{racing_check_rows}
use Rattle.ppm_commands.proofs.SerialRows.{serial_rows}
use Rattle.ppm_commands.proofs.ShowRows.{show_rows}
use Rattle.ppm_plan.specs.Forms.{Form, plan_form, schedule_form}
use Rattle.ppm_plan.specs.Strands.{strand_form}
use Rattle.ppm_loading.specs.Planned.{PlannedMay}
use Rattle.ppm_replay_command.specs.CaseReplays.{TextHas as ReplayCaseTextHas}
use Rattle.ppm_driver.specs.CaseRuns.{TextHas as RunCaseTextHas}
use Rattle.ppm_stop_command.specs.CaseStops.{TextReads as StopCaseTextReads}
use Rattle.ppm_sweep_command.specs.CaseSweeps.{TextHas as SweepCaseTextHas}
use Rattle.ppm_trace_command.specs.CaseTraces.{TextHas as TraceCaseTextHas}
use Rattle.ppm_replay_command.specs.CountedCases.{TextHas as CountedCaseTextHas}
use Rattle.ppm_replay_command.specs.CountedReplays.{TextHas as CountedTextHas}
use Rattle.ppm_driver.specs.CountedCaseRuns.{TextHas as CountedRunCaseTextHas}
use Rattle.ppm_outcomes.specs.CountedResumes.{TextHas as CountedResumeTextHas}
use Rattle.ppm_outcomes.specs.CountedRuns.{TextHas as CountedRunTextHas}
use Rattle.ppm_driver.specs.RamRuns.{TextHas as RamTextHas}
use Rattle.ppm_outcomes.specs.Replays.{TextHas as ReplayTextHas}
use Rattle.ppm_outcomes.specs.Resumes.{TextHas as ResumeTextHas}
use Rattle.ppm_outcomes.specs.Runs.{TextHas as RunTextHas}
use Rattle.ppm_outcomes.specs.Stops.{TextReads as StopTextReads}
use Rattle.ppm_strands_command.specs.Drawn.{DrawnHas}
use Rattle.ppm_strands_command.specs.Strands.{TextHas as StrandsTextHas}
use Rattle.ppm_sweep_command.specs.Sweeps.{TextHas as SweepTextHas}
use Rattle.ppm_trace_command.specs.Traces.{TextHas as TraceTextHas}
use Rattle.ppm_legs.specs.CountedReplays.{CountedHas as CountedSavedHas}
use Rattle.ppm_legs.specs.SavedReplays.{ReplayHas as ReplaySavedHas}
use Rattle.ppm_legs.specs.SavedStops.{StopReads as StopSavedReads}
use Rattle.ppm_legs.specs.SavedTraces.{TraceHas as TraceSavedHas}
use Rattle.ppm_stop_command.proofs.OfStop as of_stop
use Rattle.ppm_driver.proofs.OfExample as of_example
use Rattle.ppm_replay_command.proofs.OfReplay as of_replay
use Rattle.ppm_stop_command.proofs.OfResume as of_resume
use Rattle.ppm_driver.proofs.OfRun as of_run
use Rattle.ppm_stop_command.proofs.StoppedLemmas.{saved_left}
use Rattle.ppm_saved_reader.specs.Rules.{saved_limit}
use Rattle.ppm_loading.proofs.PlannedLemmas as planned
use Rattle.ppm_answers.specs.Reading.{JudgingMay, DeliversAnswer, Answers}
use Rattle.ppm_answers.proofs.Delivered.{of_answers}
use Rattle.ppm_answers.specs.Rows.{IsOneOf}
use Rattle.ppm_top.specs.Causes.{NoCommandMay, CommandMay, CommandTells, IsAnswered}
use Rattle.ppm_top.specs.Laws.{ProgramLaws}
use Rattle.ppm_top.specs.Rows.{ReportsFaults, ProgramRows}
use Rattle.ppm_replay_command.proofs.CompleteReplay.{replay_ends}
use Rattle.ppm_top.proofs.OfCases as of_cases
use Rattle.ppm_top.proofs.OfCounts as of_counts
use Rattle.ppm_top.proofs.OfLegs as of_legs
use Rattle.ppm_top.proofs.OfRams as of_rams
use Rattle.ppm_top.proofs.OfStrands as of_strands
use Rattle.ppm_top.proofs.OfSweeps as of_sweeps
use Rattle.ppm_top.proofs.OfTraces as of_traces
use Rattle.ppm_top.proofs.Refusing.{refuses_words}
use Rattle.ppm_answers.proofs.Delivered as delivered
use Rattle.ppm_answers.proofs.Judged as judged

-- what the causes of a command say of the source: a read fault comes where it failed, and where it failed nothing else comes
pub record ReportsReads (o : Outside) (may : Answer → Type 0) : Type 0 where
  pub failed : may answers.ReadFault → Fails o.source
  pub fails : (answer : Answer) → may answer → ¬ Holds o.source → status_of answer ≡ statuses.ReadFault

judging_reports : (limit : ℕ) (Has : List ℕ → Answer → Type 0) (o : Outside) → ReportsReads o (JudgingMay limit Has o.source)
judging_reports limit Has o = record { failed = λ h. h.0; fails = λ answer h f. judged.source_failed limit Has o.source answer h f }

planned_reports : {A : Type 0} (form : Form A) (plan : List ℕ) (processors : ℕ) (Has : List A → List ℕ → Answer → Type 0) (limit : ℕ)
    (o : Outside) → ReportsReads o (PlannedMay form plan processors Has limit o.source)
planned_reports form plan processors Has limit o = record {
  failed = λ h. h.0.0;
  fails = λ answer h f. planned.source_failed form plan processors Has limit o.source answer h f;
}

example_reports : (options : SelfOptions) (o : Outside) → ReportsReads o (CommandMay (Some (commands.Example options)) o)
example_reports options o = record {
  failed = λ h. absurd (of_example.no_read_fault options o.told_before o.told_now h.1);
  fails = λ answer h f. absurd (f h.0.holds);
}

none_reports : (o : Outside) → ReportsReads o (NoCommandMay o)
none_reports o = record { failed = λ h. absurd h; fails = fails } where
  fails : (answer : Answer) → NoCommandMay o answer → ¬ Holds o.source → status_of answer ≡ statuses.ReadFault
  fails answers.WordsRefused h f = absurd (f h.holds)
  fails answers.NoMemory h f = absurd (f h.holds)
  fails answer h f = absurd h

orders_reports : (options : ExplainOptions) (text : List ℕ) (o : Outside) → ReportsReads o (CommandMay (Some (commands.ExplainOrders options text)) o)
orders_reports options text o = record {
  failed = λ h. absurd h.1;
  fails = λ answer h f. absurd (f (orders_unread options text o.source answer h).holds);
}

command_reports : (o : Outside) (command : Option Command) → ReportsReads o (CommandMay command o)
command_reports o None = none_reports o
command_reports o (Some (commands.Run options plan)) =
    planned_reports plan_form plan options.processors (RunTextHas options options.processors o.told_before o.told_now) text_limit o
command_reports o (Some (commands.RunCase options plan)) =
    planned_reports plan_form plan options.processors (RunCaseTextHas options options.processors o.told_before o.told_now) case_limit o
command_reports o (Some (commands.ReplayCase options schedule)) =
    planned_reports schedule_form schedule options.processors (ReplayCaseTextHas options) case_limit o
command_reports o (Some (commands.StopCase options schedule)) =
    planned_reports schedule_form schedule options.processors (StopCaseTextReads options) case_limit o
command_reports o (Some (commands.Sweep options schedule)) =
    planned_reports schedule_form schedule options.processors (SweepTextHas options) text_limit o
command_reports o (Some (commands.SweepCase options schedule)) =
    planned_reports schedule_form schedule options.processors (SweepCaseTextHas options) case_limit o
command_reports o (Some (commands.Trace options schedule)) =
    planned_reports schedule_form schedule options.processors (TraceTextHas options) text_limit o
command_reports o (Some (commands.TraceCase options schedule)) =
    planned_reports schedule_form schedule options.processors (TraceCaseTextHas options) case_limit o
command_reports o (Some (commands.CountedReplay options schedule)) =
    planned_reports schedule_form schedule options.processors (CountedTextHas options) text_limit o
command_reports o (Some (commands.CountedReplayCase options schedule)) =
    planned_reports schedule_form schedule options.processors (CountedCaseTextHas options) case_limit o
command_reports o (Some (commands.CountedRun options plan)) =
    planned_reports plan_form plan options.processors (CountedRunTextHas options) text_limit o
command_reports o (Some (commands.CountedRunCase options plan)) =
    planned_reports plan_form plan options.processors (CountedRunCaseTextHas options) case_limit o
command_reports o (Some (commands.CountedResume options plan)) = judging_reports saved_limit (CountedResumeTextHas options plan) o
command_reports o (Some (commands.Ram options plan)) =
    planned_reports plan_form plan options.processors (RamTextHas options options.processors o.told_before o.told_now) ram_limit o
command_reports o (Some (commands.Serial options)) = judging_reports text_limit (SerialHas options.turns) o
command_reports o (Some commands.Code) = judging_reports text_limit CodeReads o
command_reports o (Some commands.CodeCase) = judging_reports text_limit CaseReads o
command_reports o (Some commands.Check) = judging_reports listing_limit CheckHas o
command_reports o (Some commands.CheckRacing) = judging_reports listing_limit RacingHas o
command_reports o (Some commands.Show) = judging_reports saved_limit ShowHas o
command_reports o (Some (commands.Explain text)) = judging_reports (limit_of text) (ExplainHas text) o
command_reports o (Some (commands.ExplainTrap options)) = judging_reports text_limit (TrapHas options.turns) o
command_reports o (Some (commands.ExplainOrders options text)) = orders_reports options text o
command_reports o (Some (commands.Depth limit)) = judging_reports case_limit (DepthHas limit.capsules) o
command_reports o (Some (commands.Races limit)) = judging_reports case_limit (RacesHas limit.capsules) o
command_reports o (Some (commands.Strands options schedule)) =
    planned_reports strand_form schedule 1 (StrandsTextHas options) case_limit o
command_reports o (Some (commands.DrawnStrands options)) = judging_reports case_limit (DrawnHas options) o
command_reports o (Some (commands.Replay options schedule)) =
    planned_reports schedule_form schedule options.processors (ReplayTextHas options) text_limit o
command_reports o (Some (commands.Resume options plan)) = judging_reports saved_limit (ResumeTextHas options plan o.told_before o.told_now) o
command_reports o (Some (commands.Stop options schedule)) =
    planned_reports schedule_form schedule options.processors (StopTextReads options) text_limit o
command_reports o (Some (commands.ReplaySaved options schedule)) = judging_reports saved_limit (ReplaySavedHas options schedule) o
command_reports o (Some (commands.CountedReplaySaved options schedule)) = judging_reports saved_limit (CountedSavedHas options schedule) o
command_reports o (Some (commands.StopSaved options schedule)) = judging_reports saved_limit (StopSavedReads options schedule) o
command_reports o (Some (commands.TraceSaved options schedule)) = judging_reports saved_limit (TraceSavedHas options schedule) o
command_reports o (Some (commands.Example options)) = example_reports options o

-- an answer of status 7 is a read fault
read_answer : (may : Answer → Type 0) (answer : Answer) → may answer → status_of answer ≡ statuses.ReadFault → may answers.ReadFault
read_answer may answers.ReadFault h e = h
read_answer may (answers.ReplayedWith c counts) h e = absurd (delivered.came_no_fault c e)
read_answer may (answers.RanWith r counts) h e = absurd (delivered.ran_no_fault r e)
read_answer may (answers.Stood lines c) h e = absurd (delivered.came_no_fault c e)
read_answer may (answers.Explained r notes) h e = absurd (delivered.refused_no_fault r e)
read_answer may answer h e = cc

-- faults are reported exactly, whatever the command is
reports_faults : (o : Outside) (may : Answer → Type 0) (status : Status) → ReportsReads o may → DeliversAnswer may (ports_of o) status →
    ReportsFaults o status
reports_faults o may status reports a = record {
  read_fault = read_fault;
  write_fault = delivered.write_failed o.out o.err a.answer status a.delivered;
  source_fails = λ f. source_fails (reports.fails a.answer a.cause f) (delivered.own_or_fault o.out o.err a.answer status a.delivered);
  out_fails = λ f. delivered.fault_makes_8 o.out o.err a.answer status a.delivered (λ out err. f out);
  err_fails = λ f. delivered.fault_makes_8 o.out o.err a.answer status a.delivered (λ out err. f err);
} where
  read_fault : status ≡ statuses.ReadFault → Fails o.source
  read_fault e =
      let w = delivered.written o.out o.err a.answer status a.delivered (λ f. cc) in
      reports.failed (read_answer may a.answer a.cause (sym w.own ∙ e))

  source_fails : status_of a.answer ≡ statuses.ReadFault → (status ≡ statuses.WriteFault) ⊎ IsWritten o.out o.err a.answer status →
      IsOneOf status (statuses.ReadFault ∷ statuses.WriteFault ∷ [])
  source_fails r (inl w) = inr (inl w)
  source_fails r (inr w) = inl (w.own ∙ r)

-- what was delivered, without what watchers were told
delivers : (words : List (List ℕ)) (o : Outside) (status : Status) → IsAnswered words o status →
    DeliversAnswer (CommandMay (command_of words) o) (ports_of o) status
delivers words o status a = of_answers (CommandMay (command_of words) o) (CommandTells (command_of words) o) o status a

faults : (words : List (List ℕ)) (o : Outside) (status : Status) → IsAnswered words o status → ReportsFaults o status
faults words o status a =
    reports_faults o (CommandMay (command_of words) o) status (command_reports o (command_of words)) (delivers words o status a)

-- all rows of the program
pub program_rows : ProgramLaws → (words : List (List ℕ)) (o : Outside) (status : Status) → IsAnswered words o status → ProgramRows words o status
program_rows laws words o status a = record {
  run = λ options plan e. (
    is_in_range words (commands.Run options plan) e,
    of_run.run_rows laws.meant options (is_in_range words (commands.Run options plan) e) options.processors plan o status
        (answered (Some (commands.Run options plan)) e) laws.plans laws.runs laws.fronts laws.complete,
  );
  run_case = of_cases.runs_case laws words o status a;
  serial = λ options e. serial_rows options.turns (ports_of o) (laws.outcomes options.turns) status (by_words (Some (commands.Serial options)) e);
  code = λ e. code_rows laws.codes laws.faithful (ports_of o) status (by_words (Some commands.Code) e);
  case = λ e. case_rows laws.texts laws.cases laws.faithful (ports_of o) status (by_words (Some commands.CodeCase) e);
  check = λ e. check_rows (ports_of o) laws.listings status (by_words (Some commands.Check) e);
  racing_check = λ e. racing_check_rows (ports_of o) laws.racing_listings status (by_words (Some commands.CheckRacing) e);
  show = λ e. show_rows (ports_of o) laws.states status (by_words (Some commands.Show) e);
  explain = λ text e. explain_rows text (ports_of o) (laws.explained text) status (by_words (Some (commands.Explain text)) e);
  explain_trap = λ options e.
      trap_rows options.turns (ports_of o) (laws.explained_traps options.turns) status (by_words (Some (commands.ExplainTrap options)) e);
  explain_orders = λ options text e. (
    is_in_range words (commands.ExplainOrders options text) e,
    orders_rows options text (ports_of o) (laws.explained_orders options text) status (by_words (Some (commands.ExplainOrders options text)) e),
  );
  depth = λ limit e. (
    is_in_range words (commands.Depth limit) e,
    depth_rows limit.capsules (ports_of o) (laws.depths limit.capsules) status (by_words (Some (commands.Depth limit)) e),
  );
  races = λ limit e. (
    is_in_range words (commands.Races limit) e,
    races_rows limit.capsules (ports_of o) (laws.races limit.capsules) status (by_words (Some (commands.Races limit)) e),
  );
  strands = of_strands.runs_strands laws words o status a;
  drawn_strands = of_strands.draws_strands laws words o status a;
  replay = λ options schedule e.
      let are = is_in_range words (commands.Replay options schedule) e in
      let rows = of_replay.replay_rows laws.meant options are schedule (ports_of o) status (by_words (Some (commands.Replay options schedule)) e)
      laws.plans laws.replays in
      (are, rows, replay_ends options are schedule (ports_of o) status laws.unfinished laws.complete_replays rows);
  replay_case = of_cases.replays_case laws words o status a;
  sweep = of_sweeps.sweeps laws words o status a;
  sweep_case = of_sweeps.sweeps_case laws words o status a;
  counted = of_counts.counts laws words o status a;
  counted_case = of_counts.counts_case laws words o status a;
  counted_run = of_counts.counts_run laws words o status a;
  counted_run_case = of_counts.counts_run_case laws words o status a;
  counted_resume = of_counts.counts_resume laws words o status a;
  trace = of_traces.traces laws words o status a;
  trace_case = of_traces.traces_case laws words o status a;
  ram = of_rams.runs_ram laws words o status a;
  resume = λ options plan e. (
    is_in_range words (commands.Resume options plan) e,
    of_resume.resume_rows laws.resumes options plan o status (answered (Some (commands.Resume options plan)) e),
  );
  stop = λ options schedule e.
      let range = is_in_range words (commands.Stop options schedule) e in (
        range,
        record {
          says = of_stop.stop_rows options schedule (ports_of o) status (by_words (Some (commands.Stop options schedule)) e) laws.plans laws.stops;
          left = saved_left laws.leave options range schedule (ports_of o);
        },
      );
  stop_case = of_cases.stops_case laws words o status a;
  stop_saved = of_legs.stops_saved laws words o status a;
  replay_saved = of_legs.replays_saved laws words o status a;
  counted_saved = of_legs.counts_saved laws words o status a;
  trace_saved = of_legs.traces_saved laws words o status a;
  example = λ options e.
      let range = is_in_range words (commands.Example options) e in
      let x = answered (Some (commands.Example options)) e in (
        range,
        x.cause.0,
        of_example.example_rows laws.meant laws.sums options range o status
            (record { answer = x.answer; cause = x.cause.1; delivered = x.delivered; told = x.told }),
      );
  words_refused = refuses_words laws words o status a;
  faults = faults words o status a;
  nothing_on_out = delivered.nothing_on_out o.out o.err a.answer status a.delivered;
} where
  answered : (command : Option Command) → command_of words ≡ command → Answers (CommandMay command o) (CommandTells command o) o status
  answered command e = subst (λ c. Answers (CommandMay c o) (CommandTells c o) o status) e a

  by_words : (command : Option Command) → command_of words ≡ command → DeliversAnswer (CommandMay command o) (ports_of o) status
  by_words command e = subst (λ c. DeliversAnswer (CommandMay c o) (ports_of o) status) e (delivers words o status a)
