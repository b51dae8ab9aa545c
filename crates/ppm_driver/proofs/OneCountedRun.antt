-- A text has one answer where the run by one processor, of its program or of its case, is counted.
use Rattle.std.proofs.Common.{◌≡◌, ◌∙◌, List, [], refl, sym, ap}
use Rattle.ppm_words.specs.declared.named_array.NamedArray.{NamedArray}
use Rattle.ppm_text.specs.Limits.{text_limit}
use Rattle.ppm_case.specs.Correct.{FaultsTellCases}
use Rattle.ppm_case.specs.Rules.{case_limit}
use Rattle.ppm_code.specs.declared.code.CodeParts.{CodeParts}
use Rattle.ppm_core.specs.Situation.{Situation}
use Rattle.ppm_layout.specs.Correct.{ImagesAreOne}
use Rattle.ppm_plan.specs.Correct.{HaveOneAnswer as PlansHaveOneAnswer}
use Rattle.ppm_plan.specs.declared.plan_item.PlanItem.{PlanItem}
use Rattle.ppm_plan.specs.Forms.{plan_form}
use Rattle.ppm_step.specs.declared.turn.Turn.{Turn}
use Rattle.ppm_tree.specs.Program.{initial_arrays}
use Rattle.ppm_cut_code.specs.Routines.{code_of}
use Rattle.ppm_answers.specs.declared.answer.Answer.{Answer}
use Rattle.ppm_answers.specs.declared.answer.Answer.TheVariants as answers
use Rattle.ppm_answers.specs.declared.ran.Ran.{Ran}
use Rattle.ppm_answers.specs.declared.ran.Ran.TheVariants as ran
use Rattle.ppm_answers.specs.declared.run_counts.RunCounts.{RunCounts}
use Rattle.ppm_cli.specs.declared.run.RunOptions.{RunOptions}
use Rattle.ppm_loading.proofs.CaseLemmas as cases
use Rattle.ppm_loading.proofs.PlannedLemmas.{planned_one, planned_front}
use Rattle.ppm_loading.proofs.ProgramLemmas.{text_one, text_front, plain}
use Rattle.ppm_outcomes.specs.CountedRuns.{answer_of, IsCounted, CodeHas, ProgramHas, TextHas, CountedAnswersAreOne}
use Rattle.ppm_outcomes.specs.RunCounts.{made_counts}
use Rattle.ppm_outcomes.specs.Strikes.{fault_count}
use Rattle.ppm_outcomes.proofs.CountedLemmas.{kinds, case_kinds, of_code, of_program}
use Rattle.ppm_driver.specs.CountedCaseRuns as counted_cases
use Rattle.ppm_driver.proofs.OneRun as runs

-- what a run came to, by its answer
abbrev ran_by : Answer → Ran
ran_by (answers.Ended arrays) = ran.Ended arrays
ran_by (answers.Trapped trap line) = ran.Trapped trap line
ran_by (answers.OutOfTurns processor) = ran.OutOfTurns processor
ran_by (answers.OutOfRoom place) = ran.OutOfRoom place
ran_by (answers.Broken place) = ran.Broken place
ran_by _ = ran.Broken 0

ran_back : (r : Ran) → r ≡ ran_by (answer_of r)
ran_back (ran.Ended arrays) = refl
ran_back (ran.Trapped trap line) = refl
ran_back (ran.OutOfTurns processor) = refl
ran_back (ran.OutOfRoom place) = refl
ran_back (ran.Broken place) = refl

-- answers that are one came to one thing
one_ran : (r s : Ran) → answer_of r ≡ answer_of s → r ≡ s
one_ran r s same = ran_back r ∙ ap ran_by same ∙ sym (ran_back s)

module _ (images : ImagesAreOne) (one_run : runs.RunsAreOne) (options : RunOptions) (alone : options.processors ≡ 1) (items : List PlanItem)
    (code : CodeParts) (input : List NamedArray) where
  one : (r s : Ran) (n k : RunCounts) → IsCounted options items code input r n → IsCounted options items code input s k
      → answers.RanWith r n ≡ answers.RanWith s k
  one r s n k h l =
      let same : r ≡ s = one_ran r s (runs.code_one images one_run options alone items code input (answer_of r) (answer_of s) h.has l.has) in
      let made = runs.one_made images one_run options alone items code input (answer_of r) (answer_of s) h.has l.has in
      let faults = fault_count items in
      let counts : n ≡ k =
      h.counted.are ∙ ap (λ (turns : List Turn). made_counts faults h.has.start turns) (sym made.1)
      ∙ ap (λ (m : Situation). made_counts faults m l.has.run.turns) (sym made.0) ∙ sym l.counted.are in
      ap (λ (x : Ran). answers.RanWith x n) same ∙ ap (λ (x : RunCounts). answers.RanWith s x) counts

  -- a code has one answer
  pub code_one : (a b : Answer) → CodeHas options items code input a → CodeHas options items code input b → a ≡ b
  code_one (answers.RanWith r n) (answers.RanWith s k) h l = one r s n k h l
  code_one (answers.RanWith r n) b h l = absurd (of_code options items code input b l)
  code_one a b h l = absurd (of_code options items code input a h)

-- this holds with all plans, and a text that is too long has a front with its answer
pub counted_answers_are_one : runs.Laws → CountedAnswersAreOne
counted_answers_are_one laws = record {
  one = λ options plan alone.
      planned_one plan_form plan options.processors (TextHas options) text_limit laws.plans.plans
      (λ items. text_one (ProgramHas options items) laws.texts
      (λ t. code_one laws.images laws.runs options alone items (code_of t) (initial_arrays t)));
  front = λ options plan.
      planned_front plan_form plan options.processors (TextHas options) text_limit
      (λ items. plain (ProgramHas options items) kinds (of_program options items)) (λ items. text_front (ProgramHas options items) laws.texts);
}

pub counted_case_answers_are_one : FaultsTellCases → ImagesAreOne → PlansHaveOneAnswer → runs.RunsAreOne → counted_cases.CountedCaseAnswersAreOne
counted_case_answers_are_one texts images plans one_run = record {
  one = λ options plan alone.
      planned_one plan_form plan options.processors (counted_cases.TextHas options) case_limit plans.plans
      (λ items. cases.text_one (CodeHas options items) texts (λ code input. code_one images one_run options alone items code input));
  front = λ options plan.
      planned_front plan_form plan options.processors (counted_cases.TextHas options) case_limit
      (λ items. cases.plain (CodeHas options items) case_kinds (of_code options items)) (λ items. cases.text_front (CodeHas options items) texts);
}
