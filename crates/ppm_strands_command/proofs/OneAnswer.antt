-- A text has one answer where its strands are run by a schedule.
use Rattle.std.proofs.Common.{◌≡◌, ◌++◌, ℕ, List, [], sym, ◌∙◌, subst, inl, inr}
use Rattle.ppm_words.specs.declared.named_array.NamedArray.{NamedArray}
use Rattle.ppm_case.specs.Rules.{case_limit}
use Rattle.ppm_plan.specs.declared.strand_item.StrandItem.{StrandItem}
use Rattle.ppm_plan.specs.Correct.{HaveOneAnswer as PlansHaveOneAnswer}
use Rattle.ppm_plan.specs.Refusals.{IsAccepted}
use Rattle.ppm_plan.specs.Strands.{strand_form}
use Rattle.ppm_ports.specs.Ports.{Port}
use Rattle.ppm_racy.specs.declared.code.RacyParts.{RacyParts}
use Rattle.ppm_racy_case.specs.Correct.{RacyFaultsTellCases}
use Rattle.ppm_strand_runs.specs.Correct.{RunsAreOne}
use Rattle.ppm_answers.specs.declared.answer.Answer.{Answer}
use Rattle.ppm_answers.specs.declared.answer.Answer.TheVariants as answers
use Rattle.ppm_answers.specs.Reading.{JudgingMay}
use Rattle.ppm_cli.specs.declared.strands.StrandsOptions.{StrandsOptions}
use Rattle.ppm_loading.proofs.PlannedLemmas.{by_items, planned_one, planned_front}
use Rattle.ppm_strands_command.specs.Cases.{OfTidy}
use Rattle.ppm_strands_command.specs.Strands.{OfSchedule, StrandsMay, TextHas, HaveOneAnswer, lines_of}
use Rattle.ppm_strands_command.proofs.CaseAnswers as case_answers
use Rattle.ppm_strands_command.proofs.RunAnswers.{IsOfRun, by_is, one_answer}
use Rattle.ppm_strands_command.proofs.TidyAnswers.{one_of}

module _ (options : StrandsOptions) (items : List StrandItem) (code : RacyParts) (input : List NamedArray) where
  -- each answer of a case is one of runs, or tells a store
  pub of_run : (a : Answer) → OfTidy (OfSchedule options items) code input a → IsOfRun a
  of_run a (inl h) = subst IsOfRun (sym h.1.tells) (by_is ([] ++ lines_of options.form input h.1.run) input h.1.run h.1.run.fall)
  of_run a (inr h) = subst IsOfRun (sym h.tells) tt

  case_one : RunsAreOne → (a b : Answer) → OfSchedule options items code input a → OfSchedule options items code input b → a ≡ b
  case_one runs a b h k =
      h.tells ∙ one_answer [] options.form input h.run k.run (runs code input items options.turns h.run k.run h.is k.is) ∙ sym k.tells

-- no answer of a text is that a schedule is refused
pub steady : (options : StrandsOptions) (items : List StrandItem) (text : List ℕ) (number : ℕ) → ¬ TextHas options items text (answers.PlanRefused number)
steady options items text number h =
    case_answers.no_plan (OfTidy (OfSchedule options items)) (λ code input n k. of_run options items code input (answers.PlanRefused n) k) text number h

-- with a schedule that is accepted, an answer by its items may be given
pub by_schedule : PlansHaveOneAnswer → (options : StrandsOptions) (schedule : List ℕ) (items given : List StrandItem)
    → IsAccepted strand_form schedule 1 items → given ≡ items → (source : Port) (a : Answer) → JudgingMay case_limit (TextHas options given) source a
    → StrandsMay options schedule source a
by_schedule plans options schedule items given accepted same source a h =
    by_items strand_form schedule 1 (TextHas options) case_limit plans.strands (steady options) items accepted source a
    (subst (λ (l : List StrandItem). JudgingMay case_limit (TextHas options l) source a) same h)

-- with all options and all schedules
pub have_one_answer : RacyFaultsTellCases → PlansHaveOneAnswer → RunsAreOne → HaveOneAnswer
have_one_answer law plans runs = record {
  one = λ options schedule.
      planned_one strand_form schedule 1 (TextHas options) case_limit plans.strands
      (λ items. case_answers.one (OfTidy (OfSchedule options items)) law
      (λ code input a b. one_of (OfSchedule options items) code input a b (case_one options items code input runs a b)));
  front = λ options schedule.
      planned_front strand_form schedule 1 (TextHas options) case_limit (steady options)
      (λ items. case_answers.front (OfTidy (OfSchedule options items)) law);
}
