-- A text has one answer where its run is told: its program, or its case, begins one run, with the one keeper of the schedule.
use Rattle.std.proofs.Common.{◌≡◌, ℕ, List, [], sym, ap, ◌∙◌, subst}
use Rattle.ppm_text.specs.Limits.{text_limit}
use Rattle.ppm_case.specs.Correct.{FaultsTellCases}
use Rattle.ppm_case.specs.Faults.{HasFault}
use Rattle.ppm_case.specs.Rules.{case_limit}
use Rattle.ppm_case.specs.declared.case_error.CaseFault.{CaseFault}
use Rattle.ppm_core.specs.Situation.{Situation}
use Rattle.ppm_layout.specs.Correct.{ImagesAreOne}
use Rattle.ppm_plan.specs.declared.schedule_item.ScheduleItem.{ScheduleItem}
use Rattle.ppm_plan.specs.Correct.{HaveOneAnswer as PlansHaveOneAnswer}
use Rattle.ppm_choice.proofs.KeeperLemmas.{one_keeper}
use Rattle.ppm_plan.specs.Forms.{schedule_form}
use Rattle.ppm_plan.specs.Refusals.{IsAccepted}
use Rattle.ppm_tree.specs.Tree.{ProgramTree}
use Rattle.ppm_tree.specs.Program.{initial_arrays}
use Rattle.ppm_rows.specs.Correct.{TreesAreWithin}
use Rattle.ppm_cut_code.specs.Routines.{code_of}
use Rattle.ppm_code.specs.declared.code.CodeParts.{CodeParts}
use Rattle.ppm_words.specs.Inputs.{IsInput}
use Rattle.ppm_words.specs.declared.named_array.NamedArray.{NamedArray}
use Rattle.ppm_regions.proofs.Inputs.{input_fits}
use Rattle.ppm_program.specs.Programs.{HasProgram}
use Rattle.ppm_program.proofs.WithinLemmas.{tree_within}
use Rattle.ppm_program.specs.Refusals.{IsRefusal}
use Rattle.ppm_program.specs.Correct.{HaveOneAnswer as TextsHaveOneProgram}
use Rattle.ppm_answers.specs.declared.refusal.Refusal.{Refusal}
use Rattle.ppm_answers.specs.declared.answer.Answer.{Answer}
use Rattle.ppm_answers.specs.declared.answer.Answer.TheVariants as answers
use Rattle.ppm_cli.specs.declared.trace.TraceOptions.{TraceOptions}
use Rattle.ppm_cli.specs.Words.{AreTraced}
use Rattle.ppm_loading.specs.Loading.{OpensRun}
use Rattle.ppm_loading.proofs.CaseInputLemmas.{case_input}
use Rattle.ppm_loading.proofs.CaseLemmas as cases
use Rattle.ppm_loading.proofs.LoadingLemmas.{one_opening, some_opening}
use Rattle.ppm_loading.proofs.PlannedLemmas.{IsSteady, planned_one, planned_front, some_answer}
use Rattle.ppm_loading.proofs.ProgramLemmas.{text_one, text_front, of_text, plain}
use Rattle.ppm_naming.specs.declared.names.Names.{Names}
use Rattle.ppm_trace_command.specs.TraceNames.{case_names, program_names}
use Rattle.ppm_trace_command.specs.Traces.{sizes_of, text_of, CodeHas, ProgramHas, TextHas, HaveOneAnswer}
use Rattle.ppm_trace_command.specs.CaseTraces as case_traces
use Rattle.ppm_orders.proofs.ScheduledLemmas.{some_scheduled}
use Rattle.ppm_trace_command.proofs.TraceLemmas.{traced_sizes, kinds, case_kinds, of_program, of_case, some_has}

-- what the crates below show of every text, every image and every schedule
pub record Laws : Type 0 where
  pub texts : TextsHaveOneProgram
  pub within : TreesAreWithin
  pub images : ImagesAreOne
  pub plans : PlansHaveOneAnswer

-- no answer by items is that a schedule is refused
steady : (options : TraceOptions) → IsSteady schedule_form [] options.processors (TextHas options) text_limit
steady options items text number = plain (ProgramHas options items) kinds (of_program options items) text number

case_steady : (options : TraceOptions) (items : List ScheduleItem) (text : List ℕ) (number : ℕ)
    → ¬ case_traces.TextHas options items text (answers.PlanRefused number)
case_steady options items text number h = cases.plain (case_traces.CaseHas options items) case_kinds (of_case options items) text number h

-- a code has one answer by items and names
code_one : ImagesAreOne → (options : TraceOptions) (names : Names) (items : List ScheduleItem) (code : CodeParts) (input : List NamedArray)
    (a b : Answer) → CodeHas options names items code input a → CodeHas options names items code input b → a ≡ b
code_one images options names items code input a b h k =
    let keeper : k.keeper ≡ h.keeper = one_keeper schedule_form items k.keeper h.keeper k.spared h.spared in
    let begins = subst (λ (n : ℕ). OpensRun (sizes_of options) code input n k.start) keeper k.opens in
    let start : h.start ≡ k.start = one_opening (sizes_of options) code input h.keeper images h.start k.start h.opens begins in
    h.tells ∙ ap (λ (m : Situation). answers.Traced (text_of options names items m)) start ∙ sym k.tells

module _ (laws : Laws) (options : TraceOptions) where
  -- and so has a program
  program_one : (items : List ScheduleItem) (t : ProgramTree) (a b : Answer) → ProgramHas options items t a → ProgramHas options items t b
      → a ≡ b
  program_one items t a b h k = code_one laws.images options (program_names t) items (code_of t) (initial_arrays t) a b h k

  -- a text that is not refused has an answer by items that may be obeyed
  some : AreTraced options → (schedule : List ℕ) (items : List ScheduleItem) (text : List ℕ)
      → IsAccepted schedule_form schedule options.processors items → ((r : Refusal) → ¬ IsRefusal text r)
      → (a : Answer) × TextHas options items text a
  some are schedule items text accepted free =
      let has : (t : ProgramTree) × HasProgram text t = (laws.texts text).none free in
      let within = tree_within laws.within text has.0 has.1.admitted.tree in
      let fits : IsInput (initial_arrays has.0) = input_fits has.0 within has.1.admitted.admitted in
      let m = some_opening (sizes_of options) (code_of has.0) (initial_arrays has.0) accepted.keeper (traced_sizes options are)
      accepted.obeyed.below fits in
      let a = some_has options items (program_names has.0) (code_of has.0) (initial_arrays has.0) accepted.keeper m.0 accepted.obeyed.kept m.1 in
      (a.0, of_text (ProgramHas options items) kinds (of_program options items) text has.0 has.1 a.0 a.1)

-- this holds with all options and all schedules
pub have_one_answer : Laws → HaveOneAnswer
have_one_answer laws = record {
  one = λ options schedule.
      planned_one schedule_form schedule options.processors (TextHas options) text_limit laws.plans.schedules
      (λ items. text_one (ProgramHas options items) laws.texts (program_one laws options items));
  front = λ options schedule.
      planned_front schedule_form schedule options.processors (TextHas options) text_limit (steady options)
      (λ items. text_front (ProgramHas options items) laws.texts);
  some = λ options schedule are.
      some_answer schedule_form schedule options.processors (TextHas options) text_limit laws.plans.schedules (steady options)
      (some laws options are schedule);
}

module _ (texts : FaultsTellCases) (images : ImagesAreOne) (plans : PlansHaveOneAnswer) where
  -- and so has a case
  case_one : (options : TraceOptions) (items : List ScheduleItem) (code : CodeParts) (input : List NamedArray) (a b : Answer)
      → case_traces.CaseHas options items code input a → case_traces.CaseHas options items code input b → a ≡ b
  case_one options items code input a b h k = code_one images options (case_names code input) items code input a b h k

  -- a text without a fault has an answer by items that may be obeyed
  case_some : (options : TraceOptions) → AreTraced options → (schedule : List ℕ) (items : List ScheduleItem) (text : List ℕ)
      → IsAccepted schedule_form schedule options.processors items → ((f : CaseFault) (line : ℕ) → ¬ HasFault text f line)
      → (a : Answer) × case_traces.TextHas options items text a
  case_some options are schedule items text accepted free =
      let has = texts.covers text free in
      let m = some_opening (sizes_of options) has.code has.input accepted.keeper (traced_sizes options are) accepted.obeyed.below
      (case_input text has.code has.input has.is) in
      let a = some_has options items (case_names has.code has.input) has.code has.input accepted.keeper m.0 accepted.obeyed.kept m.1 in
      (a.0, cases.of_text (case_traces.CaseHas options items) case_kinds (of_case options items) text has.code has.input has.is a.0 a.1)

  -- with all options and all schedules
  pub have_one_case_answer : case_traces.HaveOneTraceAnswer
  have_one_case_answer = record {
    one = λ options schedule.
        planned_one schedule_form schedule options.processors (case_traces.TextHas options) case_limit plans.schedules
        (λ items. cases.text_one (case_traces.CaseHas options items) texts (case_one options items));
    front = λ options schedule.
        planned_front schedule_form schedule options.processors (case_traces.TextHas options) case_limit (case_steady options)
        (λ items. cases.text_front (case_traces.CaseHas options items) texts);
    some = λ options schedule are text free.
        some_scheduled (case_traces.TextHas options) (case_steady options) plans schedule options.processors text
        (λ items accepted. case_some options are schedule items text accepted free);
  }
