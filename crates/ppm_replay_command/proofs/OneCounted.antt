-- A text has one answer where its replay's counts are told.
use Rattle.std.proofs.Common.{◌≡◌, ℕ, List, [], sym, ap, ◌∙◌, subst}
use Rattle.ppm_text.specs.Limits.{text_limit}
use Rattle.ppm_case.specs.Correct.{FaultsTellCases}
use Rattle.ppm_case.specs.Faults.{HasFault}
use Rattle.ppm_case.specs.Rules.{case_limit}
use Rattle.ppm_case.specs.declared.case_error.CaseFault.{CaseFault}
use Rattle.ppm_core.specs.Situation.{Situation}
use Rattle.ppm_trace.specs.RunCounts.{CountsAreOfTurns, run_counts}
use Rattle.ppm_following.specs.OrderedFaults.{ordered_faults}
use Rattle.ppm_layout.specs.Correct.{ImagesAreOne}
use Rattle.ppm_plan.specs.declared.schedule_item.ScheduleItem.{ScheduleItem}
use Rattle.ppm_plan.specs.Correct.{HaveOneAnswer as PlansHaveOneAnswer}
use Rattle.ppm_choice.proofs.KeeperLemmas.{one_keeper}
use Rattle.ppm_plan.specs.Forms.{schedule_form}
use Rattle.ppm_plan.specs.Refusals.{IsAccepted}
use Rattle.ppm_tree.specs.Program.{initial_arrays}
use Rattle.ppm_code.specs.Code.{IsCode}
use Rattle.ppm_code.specs.declared.code.CodeParts.{CodeParts}
use Rattle.ppm_cut_code.specs.Routines.{code_of}
use Rattle.ppm_words.specs.Inputs.{IsInput}
use Rattle.ppm_words.specs.declared.named_array.NamedArray.{NamedArray}
use Rattle.ppm_regions.proofs.Inputs.{input_fits}
use Rattle.ppm_tree.specs.Tree.{ProgramTree}
use Rattle.ppm_program.specs.Programs.{HasProgram}
use Rattle.ppm_program.proofs.WithinLemmas.{tree_within}
use Rattle.ppm_program.specs.Refusals.{IsRefusal}
use Rattle.ppm_answers.specs.declared.refusal.Refusal.{Refusal}
use Rattle.ppm_answers.specs.declared.answer.Answer.{Answer}
use Rattle.ppm_answers.specs.declared.answer.Answer.TheVariants as answers
use Rattle.ppm_answers.specs.declared.run_counts.RunCounts.{RunCounts}
use Rattle.ppm_answers.specs.declared.sweep.Came.{Came}
use Rattle.ppm_answers.specs.Texts.{tally_in}
use Rattle.ppm_cli.specs.declared.replay.ReplayOptions.{ReplayOptions}
use Rattle.ppm_cli.specs.Words.{AreReplayed}
use Rattle.ppm_loading.specs.Loading.{OpensRun}
use Rattle.ppm_loading.proofs.CaseInputLemmas.{case_input}
use Rattle.ppm_loading.proofs.CaseLemmas as cases
use Rattle.ppm_loading.proofs.LoadingLemmas.{one_opening, some_opening}
use Rattle.ppm_loading.proofs.PlannedLemmas.{IsSteady, planned_one, planned_front, some_answer}
use Rattle.ppm_loading.proofs.ProgramLemmas.{text_one, text_front, of_text, plain}
use Rattle.ppm_outcomes.specs.CodeReplays.{turns_in}
use Rattle.ppm_replay_command.specs.CountedCases as counted_cases
use Rattle.ppm_replay_command.specs.CountedReplays.{IsCounted, CodeHas, ProgramHas, TextHas, HaveOneAnswer}
use Rattle.ppm_outcomes.specs.Replays.{with_tally}
use Rattle.ppm_outcomes.specs.Replays.{sizes_of}
use Rattle.ppm_replay_command.proofs.CountedLemmas.{kinds, case_kinds, of_code, of_program, some_counted}
use Rattle.ppm_orders.proofs.ScheduledLemmas.{some_scheduled}
use Rattle.ppm_outcomes.proofs.CameLemmas.{one_came}
use Rattle.ppm_outcomes.proofs.OneReplay as replays
use Rattle.ppm_outcomes.proofs.ReplayLemmas.{replayed_sizes}

-- no answer by items is that a schedule is refused
steady : (options : ReplayOptions) → IsSteady schedule_form [] options.processors (TextHas options) text_limit
steady options items text number = plain (ProgramHas options items) kinds (of_program options items) text number

case_steady : (options : ReplayOptions) (items : List ScheduleItem) (text : List ℕ) (number : ℕ)
    → ¬ counted_cases.TextHas options items text (answers.PlanRefused number)
case_steady options items text number h = cases.plain (CodeHas options items) case_kinds (of_code options items) text number h

module _ (images : ImagesAreOne) (options : ReplayOptions) (items : List ScheduleItem) (code : CodeParts) (input : List NamedArray) where
  -- two counts of a code's replay are one, and what it came to is one thing
  one : (c d : Came) (n k : RunCounts) → IsCounted options items code input c n → IsCounted options items code input d k
      → answers.ReplayedWith c n ≡ answers.ReplayedWith d k
  one c d n k h l =
      let keeper : l.has.keeper ≡ h.has.keeper = one_keeper schedule_form items l.has.keeper h.has.keeper l.has.spared h.has.spared in
      let begins = subst (λ (x : ℕ). OpensRun (sizes_of options) code input x l.has.start) keeper l.has.opens in
      let start : h.has.start ≡ l.has.start = one_opening (sizes_of options) code input h.has.keeper images h.has.start l.has.start h.has.opens begins in
      let same : c ≡ d = one_came c d (tally_in n) (tally_in k)
      (replays.code_one images options items code input (with_tally c (tally_in n)) (with_tally d (tally_in k)) h.has l.has) in
      let counts : n ≡ k = h.counted ∙ ap (λ (m : Situation). run_counts (ordered_faults items) m (turns_in options items m)) start ∙ sym l.counted in
      ap (λ (x : Came). answers.ReplayedWith x n) same ∙ ap (λ (x : RunCounts). answers.ReplayedWith d x) counts

  -- a code has one answer
  code_one : (a b : Answer) → CodeHas options items code input a → CodeHas options items code input b → a ≡ b
  code_one (answers.ReplayedWith c n) (answers.ReplayedWith d k) h l = one c d n k h l
  code_one (answers.ReplayedWith c n) b h l = absurd (of_code options items code input b l)
  code_one a b h l = absurd (of_code options items code input a h)

module _ (law : CountsAreOfTurns) (laws : replays.Laws) (options : ReplayOptions) where
  -- a text that is not refused has an answer by items that may be obeyed
  some : AreReplayed options → (schedule : List ℕ) (items : List ScheduleItem) (text : List ℕ)
      → IsAccepted schedule_form schedule options.processors items → ((r : Refusal) → ¬ IsRefusal text r)
      → (a : Answer) × TextHas options items text a
  some are schedule items text accepted free =
      let has : (t : ProgramTree) × HasProgram text t = (laws.texts text).none free in
      let within = tree_within laws.within text has.0 has.1.admitted.tree in
      let fits : IsInput (initial_arrays has.0) = input_fits has.0 within has.1.admitted.admitted in
      let m = some_opening (sizes_of options) (code_of has.0) (initial_arrays has.0) accepted.keeper (replayed_sizes options are)
      accepted.obeyed.below fits in
      let is : IsCode (code_of has.0) = laws.rules has.0 within has.1.admitted.admitted has.1.bounded in
      let a = some_counted law options items (code_of has.0) (initial_arrays has.0) accepted.keeper m.0 accepted.obeyed.kept m.1 is in
      (a.0, of_text (ProgramHas options items) kinds (of_program options items) text has.0 has.1 a.0 a.1)

-- this holds with all options and all schedules
pub have_one_answer : CountsAreOfTurns → replays.Laws → HaveOneAnswer
have_one_answer law laws = record {
  one = λ options schedule.
      planned_one schedule_form schedule options.processors (TextHas options) text_limit laws.plans.schedules
      (λ items. text_one (ProgramHas options items) laws.texts (λ t. code_one laws.images options items (code_of t) (initial_arrays t)));
  front = λ options schedule.
      planned_front schedule_form schedule options.processors (TextHas options) text_limit (steady options)
      (λ items. text_front (ProgramHas options items) laws.texts);
  some = λ options schedule are.
      some_answer schedule_form schedule options.processors (TextHas options) text_limit laws.plans.schedules (steady options)
      (some law laws options are schedule);
}

module _ (law : CountsAreOfTurns) (texts : FaultsTellCases) (images : ImagesAreOne) (plans : PlansHaveOneAnswer) where
  -- a text without a fault has an answer by items that may be obeyed
  case_some : (options : ReplayOptions) → AreReplayed options → (schedule : List ℕ) (items : List ScheduleItem) (text : List ℕ)
      → IsAccepted schedule_form schedule options.processors items → ((f : CaseFault) (line : ℕ) → ¬ HasFault text f line)
      → (a : Answer) × counted_cases.TextHas options items text a
  case_some options are schedule items text accepted free =
      let has = texts.covers text free in
      let m = some_opening (sizes_of options) has.code has.input accepted.keeper (replayed_sizes options are) accepted.obeyed.below
      (case_input text has.code has.input has.is) in
      let a = some_counted law options items has.code has.input accepted.keeper m.0 accepted.obeyed.kept m.1 has.is.listed.code in
      (a.0, cases.of_text (CodeHas options items) case_kinds (of_code options items) text has.code has.input has.is a.0 a.1)

  -- with all options and all schedules
  pub have_one_case_answer : counted_cases.HaveOneCountedAnswer
  have_one_case_answer = record {
    one = λ options schedule.
        planned_one schedule_form schedule options.processors (counted_cases.TextHas options) case_limit plans.schedules
        (λ items. cases.text_one (CodeHas options items) texts (λ code input. code_one images options items code input));
    front = λ options schedule.
        planned_front schedule_form schedule options.processors (counted_cases.TextHas options) case_limit (case_steady options)
        (λ items. cases.text_front (CodeHas options items) texts);
    some = λ options schedule are text free.
        some_scheduled (counted_cases.TextHas options) (case_steady options) plans schedule options.processors text
        (λ items accepted. case_some options are schedule items text accepted free);
  }
