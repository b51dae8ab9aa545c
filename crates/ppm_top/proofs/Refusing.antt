-- Status 3: the words give no command, or one whose plan or schedule is refused.
use Rattle.std.proofs.Common.{◌≡◌, ◌⊎◌, ℕ, List, [], ◌∷◌, Option, Some, None}
use Rattle.std.proofs.Common.{refl, sym, ◌∙◌, subst, inl, inr}
use Rattle.ppm_ports.specs.Outside.{Outside, ports_of}
use Rattle.ppm_answers.specs.declared.answer.Answer.{Answer}
use Rattle.ppm_answers.specs.declared.answer.Answer.TheVariants as answers
use Rattle.ppm_answers.specs.declared.status.Status.{Status}
use Rattle.ppm_answers.specs.declared.status.Status.TheVariants as statuses
use Rattle.ppm_answers.specs.Statuses.{status_of}
use Rattle.ppm_answers.specs.Delivery.{IsWritten}
use Rattle.ppm_answers.specs.Reading.{IsUnread, DeliversAnswer, Answers}
use Rattle.ppm_answers.specs.Rows.{IsOneOf}
use Rattle.ppm_answers.proofs.Delivered as delivered
use Rattle.ppm_cli.specs.declared.command.Command.{Command}
use Rattle.ppm_cli.specs.declared.command.Command.TheVariants as commands
use Rattle.ppm_cli.specs.declared.resume.ResumeOptions.{ResumeOptions}
use Rattle.ppm_cli.specs.Words.{command_of}
use Rattle.ppm_cli.proofs.RangeLemmas.{is_in_range}
use Rattle.ppm_cli.specs.declared.strands.StrandsOptions.{StrandsOptions}
use Rattle.ppm_plan.specs.Forms.{plan_form, schedule_form}
use Rattle.ppm_loading.specs.MachineRows.{RefusesPlan}
use Rattle.ppm_driver.proofs.OfExample as of_example
use Rattle.ppm_replay_command.proofs.OfReplay as of_replay
use Rattle.ppm_stop_command.proofs.OfResume as of_resume
use Rattle.ppm_driver.proofs.OfRun as of_run
use Rattle.ppm_stop_command.proofs.OfStop as of_stop
use Rattle.ppm_legs.specs.SavedTexts.{RefusesSchedule}
use Rattle.ppm_strands_command.proofs.OneDrawnAnswer.{of_draws}
use Rattle.ppm_top.specs.Causes.{NoCommandMay, CommandMay, CommandTells, IsAnswered}
use Rattle.ppm_top.specs.Laws.{ProgramLaws}
use Rattle.ppm_top.specs.Orders.{Orders, plan_of, saved_schedule_of, schedule_of}
use Rattle.ppm_cli.specs.declared.explain.ExplainOptions.{ExplainOptions}
use Rattle.ppm_cli.specs.declared.explain.ExplainedText.TheVariants as texts
use Rattle.ppm_explained.specs.Orders.{OrdersSay, WritesNotes}
use Rattle.ppm_explained.specs.Texts.{IsRefused}
use Rattle.ppm_explained.proofs.ExplainRows.{no_plan}
use Rattle.ppm_explained.proofs.OrdersRows.{orders_rows}
use Rattle.ppm_top.specs.Rows.{HasRefusedPlan, OfPlan, OfSchedule, OfCountedResume, OfResume, OfSaved, OfStrands, OfExplained, RefusesWords}
use Rattle.ppm_top.proofs.OfCases as of_cases
use Rattle.ppm_top.proofs.OfCounts as of_counts
use Rattle.ppm_top.proofs.OfLegs as of_legs
use Rattle.ppm_top.proofs.OfRams as of_rams
use Rattle.ppm_top.proofs.OfStrands as of_strands
use Rattle.ppm_top.proofs.OfSweeps as of_sweeps
use Rattle.ppm_top.proofs.OfTraces as of_traces

-- an answer of status 3 comes without a command, or with one that names a plan or a schedule
data IsPlanned (command : Option Command) : Type 0 where
  ByPlan : (c : Command) (orders : Orders) → command ≡ Some c → plan_of c ≡ Some orders → IsPlanned command
  BySchedule : (c : Command) (orders : Orders) → command ≡ Some c → schedule_of c ≡ Some orders → IsPlanned command
  IsResume : (options : ResumeOptions) (plan : List ℕ) → command ≡ Some (commands.Resume options plan) → IsPlanned command
  IsCountedResume : (options : ResumeOptions) (plan : List ℕ) → command ≡ Some (commands.CountedResume options plan) → IsPlanned command
  IsStrands : (options : StrandsOptions) (schedule : List ℕ) → command ≡ Some (commands.Strands options schedule) → IsPlanned command
  ByExplained : (options : ExplainOptions) (text : List ℕ) → command ≡ Some (commands.ExplainOrders options text) → IsPlanned command
  BySaved : (c : Command) (schedule : List ℕ) → command ≡ Some c → saved_schedule_of c ≡ Some schedule → IsPlanned command

no_command : (command : Option Command) (o : Outside) (answer : Answer) → CommandMay command o answer →
    status_of answer ≡ statuses.WordsRefused → (command ≡ None) ⊎ IsPlanned command
no_command None o answer h e = inl refl
no_command (Some (commands.Run options plan)) o answer h e = inr (ByPlan (commands.Run options plan) _ refl refl)
no_command (Some (commands.RunCase options plan)) o answer h e = inr (ByPlan (commands.RunCase options plan) _ refl refl)
no_command (Some (commands.Resume options plan)) o answer h e = inr (IsResume options plan refl)
no_command (Some (commands.Strands options schedule)) o answer h e = inr (IsStrands options schedule refl)
no_command (Some (commands.ReplaySaved options schedule)) o answer h e = inr (BySaved (commands.ReplaySaved options schedule) schedule refl refl)
no_command (Some (commands.CountedReplaySaved options schedule)) o answer h e =
    inr (BySaved (commands.CountedReplaySaved options schedule) schedule refl refl)
no_command (Some (commands.StopSaved options schedule)) o answer h e = inr (BySaved (commands.StopSaved options schedule) schedule refl refl)
no_command (Some (commands.TraceSaved options schedule)) o answer h e = inr (BySaved (commands.TraceSaved options schedule) schedule refl refl)
no_command (Some (commands.Replay options schedule)) o answer h e = inr (BySchedule (commands.Replay options schedule) _ refl refl)
no_command (Some (commands.ReplayCase options schedule)) o answer h e = inr (BySchedule (commands.ReplayCase options schedule) _ refl refl)
no_command (Some (commands.Stop options schedule)) o answer h e = inr (BySchedule (commands.Stop options schedule) _ refl refl)
no_command (Some (commands.StopCase options schedule)) o answer h e = inr (BySchedule (commands.StopCase options schedule) _ refl refl)
no_command (Some (commands.Sweep options schedule)) o answer h e = inr (BySchedule (commands.Sweep options schedule) _ refl refl)
no_command (Some (commands.SweepCase options schedule)) o answer h e = inr (BySchedule (commands.SweepCase options schedule) _ refl refl)
no_command (Some (commands.Trace options schedule)) o answer h e = inr (BySchedule (commands.Trace options schedule) _ refl refl)
no_command (Some (commands.TraceCase options schedule)) o answer h e = inr (BySchedule (commands.TraceCase options schedule) _ refl refl)
no_command (Some (commands.CountedReplay options schedule)) o answer h e = inr (BySchedule (commands.CountedReplay options schedule) _ refl refl)
no_command (Some (commands.CountedReplayCase options schedule)) o answer h e =
    inr (BySchedule (commands.CountedReplayCase options schedule) _ refl refl)
no_command (Some (commands.CountedRun options plan)) o answer h e = inr (ByPlan (commands.CountedRun options plan) _ refl refl)
no_command (Some (commands.CountedRunCase options plan)) o answer h e = inr (ByPlan (commands.CountedRunCase options plan) _ refl refl)
no_command (Some (commands.CountedResume options plan)) o answer h e = inr (IsCountedResume options plan refl)
no_command (Some (commands.Ram options plan)) o answer h e = inr (ByPlan (commands.Ram options plan) _ refl refl)
no_command (Some (commands.ExplainOrders options text)) o answer h e = inr (ByExplained options text refl)
no_command (Some (commands.Serial options)) o answers.WordsRefused h e = absurd h.2
no_command (Some commands.Code) o answers.WordsRefused h e = absurd h.2
no_command (Some commands.CodeCase) o answers.WordsRefused h e = absurd h.2
no_command (Some commands.Check) o answers.WordsRefused h e = absurd h.2
no_command (Some commands.CheckRacing) o answers.WordsRefused h e = absurd h.2
no_command (Some commands.Show) o answers.WordsRefused h e = absurd h.2
no_command (Some (commands.Explain text)) o answers.WordsRefused h e = absurd h.2
no_command (Some (commands.ExplainTrap options)) o answers.WordsRefused h e = absurd h.2
no_command (Some (commands.Depth limit)) o answers.WordsRefused h e = absurd h.2.1
no_command (Some (commands.Races limit)) o answers.WordsRefused h e = absurd h.2.1
no_command (Some (commands.DrawnStrands options)) o answers.WordsRefused h e =
    absurd (of_draws options h.2.0.code h.2.0.input answers.WordsRefused h.2.1)
no_command (Some (commands.Example options)) o answers.WordsRefused h e =
    absurd (of_example.no_words_refused options o.told_before o.told_now h.1)
no_command (Some (commands.Serial options)) o (answers.PlanRefused number) h e = absurd h.2
no_command (Some commands.Code) o (answers.PlanRefused number) h e = absurd h.2
no_command (Some commands.CodeCase) o (answers.PlanRefused number) h e = absurd h.2
no_command (Some commands.Check) o (answers.PlanRefused number) h e = absurd h.2
no_command (Some commands.CheckRacing) o (answers.PlanRefused number) h e = absurd h.2
no_command (Some commands.Show) o (answers.PlanRefused number) h e = absurd h.2
no_command (Some (commands.Explain text)) o (answers.PlanRefused number) h e = absurd h.2
no_command (Some (commands.ExplainTrap options)) o (answers.PlanRefused number) h e = absurd h.2
no_command (Some (commands.Depth limit)) o (answers.PlanRefused number) h e = absurd h.2.1
no_command (Some (commands.Races limit)) o (answers.PlanRefused number) h e = absurd h.2.1
no_command (Some (commands.DrawnStrands options)) o (answers.PlanRefused number) h e =
    absurd (of_draws options h.2.0.code h.2.0.input (answers.PlanRefused number) h.2.1)
no_command (Some (commands.Example options)) o (answers.PlanRefused number) h e =
    absurd (of_example.no_plan_refused options o.told_before o.told_now number h.1)
no_command command o (answers.ReplayedWith c counts) h e = absurd (delivered.came_no_refusal c e)
no_command command o (answers.RanWith r counts) h e = absurd (delivered.ran_no_refusal r e)
no_command command o (answers.Stood lines c) h e = absurd (delivered.came_no_refusal c e)
no_command (Some (commands.Serial options)) o (answers.Explained r notes) h e = absurd h.2
no_command (Some commands.Code) o (answers.Explained r notes) h e = absurd h.2
no_command (Some commands.CodeCase) o (answers.Explained r notes) h e = absurd h.2
no_command (Some commands.Check) o (answers.Explained r notes) h e = absurd h.2
no_command (Some commands.CheckRacing) o (answers.Explained r notes) h e = absurd h.2
no_command (Some commands.Show) o (answers.Explained r notes) h e = absurd h.2
no_command (Some (commands.Explain text)) o (answers.Explained r notes) h e =
    let p = delivered.is_plan r e in
    absurd (no_plan text h.0 p.0 (subst (λ x. IsRefused text h.0 x) p.1 h.2.refusal))
no_command (Some (commands.ExplainTrap options)) o (answers.Explained r notes) h e =
    let p = delivered.is_plan r e in
    absurd (no_plan texts.Source h.0 p.0 (subst (λ x. IsRefused texts.Source h.0 x) p.1 h.2.refusal))
no_command (Some (commands.Depth limit)) o (answers.Explained r notes) h e = absurd h.2.1
no_command (Some (commands.Races limit)) o (answers.Explained r notes) h e = absurd h.2.1
no_command (Some (commands.DrawnStrands options)) o (answers.Explained r notes) h e =
    absurd (of_draws options h.2.0.code h.2.0.input (answers.Explained r notes) h.2.1)
no_command (Some (commands.Example options)) o (answers.Explained r notes) h e =
    absurd (of_example.none_explained options o.told_before o.told_now r notes h.1)
no_command command o answer h e = cc

-- without a command nothing is read, and the words are refused or memory is
refusal : (o : Outside) (answer : Answer) → NoCommandMay o answer →
    IsUnread o.source × ((status_of answer ≡ statuses.WordsRefused) ⊎ (status_of answer ≡ statuses.NoMemory))
refusal o answers.WordsRefused h = (h, inl refl)
refusal o answers.NoMemory h = (h, inr refl)
refusal o answer h = absurd h

some_is : {a b : Orders} → Some a ≡ Some b → a ≡ b
some_is e = cc

same_bytes : {a b : List ℕ} → Some a ≡ Some b → a ≡ b
same_bytes e = cc

module _ (laws : ProgramLaws) (words : List (List ℕ)) (o : Outside) (status : Status) (a : IsAnswered words o status) where
  -- what was answered of the command that the words give
  answered : (command : Option Command) → command_of words ≡ command → Answers (CommandMay command o) (CommandTells command o) o status
  answered command e = subst (λ c. Answers (CommandMay c o) (CommandTells c o) o status) e a

  -- without what watchers were told
  delivers : (command : Option Command) → command_of words ≡ command → DeliversAnswer (CommandMay command o) (ports_of o) status
  delivers command e =
      delivered.of_answers (CommandMay command o) (CommandTells command o) o status (answered command e)

  module _ (refused : status ≡ statuses.WordsRefused) where
    -- a plan by which threads run is refused
    plan_refused : (command : Command) (orders : Orders) → command_of words ≡ Some command → plan_of command ≡ Some orders
        → RefusesPlan plan_form orders.bytes orders.processors (ports_of o)
    plan_refused (commands.Run options plan) orders c is =
        subst (λ (x : Orders). RefusesPlan plan_form x.bytes x.processors (ports_of o)) (some_is is)
        (of_run.plan_refused laws.meant options (is_in_range words (commands.Run options plan) c) options.processors plan o status
        (answered (Some (commands.Run options plan)) c) laws.fronts refused)
    plan_refused (commands.RunCase options plan) orders c is =
        subst (λ (x : Orders). RefusesPlan plan_form x.bytes x.processors (ports_of o)) (some_is is)
        (of_cases.case_plan_refused laws words o status a options plan c refused)
    plan_refused (commands.CountedRun options plan) orders c is =
        subst (λ (x : Orders). RefusesPlan plan_form x.bytes x.processors (ports_of o)) (some_is is)
        (of_counts.counted_run_refused laws words o status a options plan c refused)
    plan_refused (commands.CountedRunCase options plan) orders c is =
        subst (λ (x : Orders). RefusesPlan plan_form x.bytes x.processors (ports_of o)) (some_is is)
        (of_counts.counted_run_case_refused laws words o status a options plan c refused)
    plan_refused (commands.Ram options plan) orders c is =
        subst (λ (x : Orders). RefusesPlan plan_form x.bytes x.processors (ports_of o)) (some_is is)
        (of_rams.ram_plan_refused laws words o status a options plan c refused)
    plan_refused command orders c is = cc

    -- a schedule is refused
    schedule_refused : (command : Command) (orders : Orders) → command_of words ≡ Some command → schedule_of command ≡ Some orders
        → RefusesPlan schedule_form orders.bytes orders.processors (ports_of o)
    schedule_refused (commands.Replay options schedule) orders c is =
        subst (λ (x : Orders). RefusesPlan schedule_form x.bytes x.processors (ports_of o)) (some_is is)
        (of_replay.schedule_refused laws.meant options (is_in_range words (commands.Replay options schedule) c) schedule (ports_of o) status
        (delivers (Some (commands.Replay options schedule)) c) refused)
    schedule_refused (commands.ReplayCase options schedule) orders c is =
        subst (λ (x : Orders). RefusesPlan schedule_form x.bytes x.processors (ports_of o)) (some_is is)
        (of_cases.case_schedule_refused laws words o status a options schedule c refused)
    schedule_refused (commands.Stop options schedule) orders c is =
        subst (λ (x : Orders). RefusesPlan schedule_form x.bytes x.processors (ports_of o)) (some_is is)
        (of_stop.schedule_refused options schedule (ports_of o) status (delivers (Some (commands.Stop options schedule)) c) refused)
    schedule_refused (commands.StopCase options schedule) orders c is =
        subst (λ (x : Orders). RefusesPlan schedule_form x.bytes x.processors (ports_of o)) (some_is is)
        (of_cases.case_stop_refused laws words o status a options schedule c refused)
    schedule_refused (commands.Sweep options schedule) orders c is =
        subst (λ (x : Orders). RefusesPlan schedule_form x.bytes x.processors (ports_of o)) (some_is is)
        (of_sweeps.sweep_refused laws words o status a options schedule c refused)
    schedule_refused (commands.SweepCase options schedule) orders c is =
        subst (λ (x : Orders). RefusesPlan schedule_form x.bytes x.processors (ports_of o)) (some_is is)
        (of_sweeps.case_sweep_refused laws words o status a options schedule c refused)
    schedule_refused (commands.Trace options schedule) orders c is =
        subst (λ (x : Orders). RefusesPlan schedule_form x.bytes x.processors (ports_of o)) (some_is is)
        (of_traces.trace_refused laws words o status a options schedule c refused)
    schedule_refused (commands.TraceCase options schedule) orders c is =
        subst (λ (x : Orders). RefusesPlan schedule_form x.bytes x.processors (ports_of o)) (some_is is)
        (of_traces.case_trace_refused laws words o status a options schedule c refused)
    schedule_refused (commands.CountedReplay options schedule) orders c is =
        subst (λ (x : Orders). RefusesPlan schedule_form x.bytes x.processors (ports_of o)) (some_is is)
        (of_counts.counted_refused laws words o status a options schedule c refused)
    schedule_refused (commands.CountedReplayCase options schedule) orders c is =
        subst (λ (x : Orders). RefusesPlan schedule_form x.bytes x.processors (ports_of o)) (some_is is)
        (of_counts.counted_case_refused laws words o status a options schedule c refused)
    schedule_refused command orders c is = cc

    -- a schedule by which a command goes on from a saved text is refused
    saved_refused : (command : Command) (schedule : List ℕ) → command_of words ≡ Some command → saved_schedule_of command ≡ Some schedule
        → RefusesSchedule schedule (ports_of o)
    saved_refused (commands.StopSaved options given) schedule c is =
        subst (λ (x : List ℕ). RefusesSchedule x (ports_of o)) (same_bytes is) (of_legs.stop_refused laws words o status a options given c refused)
    saved_refused (commands.ReplaySaved options given) schedule c is =
        subst (λ (x : List ℕ). RefusesSchedule x (ports_of o)) (same_bytes is) (of_legs.replay_refused laws words o status a options given c refused)
    saved_refused (commands.CountedReplaySaved options given) schedule c is =
        subst (λ (x : List ℕ). RefusesSchedule x (ports_of o)) (same_bytes is) (of_legs.counted_refused laws words o status a options given c refused)
    saved_refused (commands.TraceSaved options given) schedule c is =
        subst (λ (x : List ℕ). RefusesSchedule x (ports_of o)) (same_bytes is) (of_legs.trace_refused laws words o status a options given c refused)
    saved_refused command schedule c is = cc

    -- a plan or a schedule that is explained is refused
    orders_refused : (options : ExplainOptions) (text : List ℕ) → command_of words ≡ Some (commands.ExplainOrders options text)
        → WritesNotes options text (ports_of o)
    orders_refused options text c =
        let d = delivers (Some (commands.ExplainOrders options text)) c in
        let r = orders_rows options text (ports_of o) (laws.explained_orders options text) status d in
        subst (OrdersSay options text (ports_of o)) refused r.rows.says

    -- whichever plan or schedule the words name
    by_words : (command_of words ≡ None) ⊎ IsPlanned (command_of words) → (command_of words ≡ None) ⊎ HasRefusedPlan words o
    by_words (inl n) = inl n
    by_words (inr (ByPlan command orders c is)) = inr (OfPlan command orders c is (plan_refused command orders c is))
    by_words (inr (BySchedule command orders c is)) = inr (OfSchedule command orders c is (schedule_refused command orders c is))
    by_words (inr (IsResume options plan c)) =
        inr (OfResume options plan c
        (of_resume.plan_refused laws.resumes options plan o status (answered (Some (commands.Resume options plan)) c) refused))
    by_words (inr (IsCountedResume options plan c)) =
        inr (OfCountedResume options plan c (of_counts.counted_resume_refused laws words o status a options plan c refused))
    by_words (inr (IsStrands options schedule c)) =
        inr (OfStrands options schedule c (of_strands.strands_refused laws words o status a options schedule c refused))
    by_words (inr (ByExplained options text c)) = inr (OfExplained options text c (orders_refused options text c))
    by_words (inr (BySaved command schedule c is)) = inr (OfSaved command schedule c is (saved_refused command schedule c is))

  -- status 3 comes only of words without a command, or of a plan or a schedule
  only : status ≡ statuses.WordsRefused → (command_of words ≡ None) ⊎ HasRefusedPlan words o
  only refused =
      let w = delivered.written o.out o.err a.answer status a.delivered (λ f. cc) in
      by_words refused (no_command (command_of words) o a.answer a.cause (sym w.own ∙ refused))

  -- where there is no command, this may be answered
  cause : command_of words ≡ None → NoCommandMay o a.answer
  cause e = subst (λ c. CommandMay c o a.answer) e a.cause

  -- and the status is 3, or 8 or 9
  always : (status_of a.answer ≡ statuses.WordsRefused) ⊎ (status_of a.answer ≡ statuses.NoMemory) →
      (status ≡ statuses.WriteFault) ⊎ IsWritten o.out o.err a.answer status →
      IsOneOf status (statuses.WordsRefused ∷ statuses.WriteFault ∷ statuses.NoMemory ∷ [])
  always r (inl f) = inr (inl f)
  always (inl r) (inr w) = inl (w.own ∙ r)
  always (inr r) (inr w) = inr (inr (inl (w.own ∙ r)))

  pub refuses_words : RefusesWords words o status
  refuses_words = record {
    only = only;
    unread = λ e. (refusal o a.answer (cause e)).0;
    always = λ e. always (refusal o a.answer (cause e)).1 (delivered.own_or_fault o.out o.err a.answer status a.delivered);
  }
