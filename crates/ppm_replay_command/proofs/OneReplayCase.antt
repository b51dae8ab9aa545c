-- A text has one answer where its case is replayed.
use Rattle.std.proofs.Common.{ℕ, List}
use Rattle.ppm_case.specs.Correct.{FaultsTellCases}
use Rattle.ppm_case.specs.Faults.{HasFault}
use Rattle.ppm_case.specs.Rules.{case_limit}
use Rattle.ppm_case.specs.declared.case_error.CaseFault.{CaseFault}
use Rattle.ppm_layout.specs.Correct.{ImagesAreOne}
use Rattle.ppm_plan.specs.Correct.{HaveOneAnswer as PlansHaveOneAnswer}
use Rattle.ppm_plan.specs.Forms.{schedule_form}
use Rattle.ppm_plan.specs.Refusals.{IsAccepted}
use Rattle.ppm_plan.specs.declared.schedule_item.ScheduleItem.{ScheduleItem}
use Rattle.ppm_answers.specs.declared.answer.Answer.{Answer}
use Rattle.ppm_answers.specs.declared.answer.Answer.TheVariants as answers
use Rattle.ppm_cli.specs.declared.replay.ReplayOptions.{ReplayOptions}
use Rattle.ppm_cli.specs.Words.{AreReplayed}
use Rattle.ppm_loading.proofs.CaseInputLemmas.{case_input}
use Rattle.ppm_loading.proofs.LoadingLemmas.{some_opening}
use Rattle.ppm_loading.proofs.PlannedLemmas.{planned_one, planned_front}
use Rattle.ppm_loading.proofs.CaseLemmas.{text_one, text_front, plain, of_text}
use Rattle.ppm_replay_command.specs.CaseReplays.{HaveOneCaseAnswer, ReplayCaseHas}
use Rattle.ppm_replay_command.specs.CaseReplays as replays
use Rattle.ppm_outcomes.specs.Replays as replays_of
use Rattle.ppm_outcomes.proofs.OneReplay as replay_one
use Rattle.ppm_outcomes.proofs.ReplayLemmas.{replayed_sizes, some_has}
use Rattle.ppm_outcomes.proofs.ReplayLemmas as replay_lemmas
use Rattle.ppm_loading.proofs.CaseLemmas.{AreCaseKinds}
use Rattle.ppm_orders.proofs.ScheduledLemmas.{some_scheduled}

-- answers of codes are of kinds that no refusal is
pub replay_kinds : (processors turns : ℕ) → AreCaseKinds (replay_lemmas.IsOfProgram processors turns)
replay_kinds processors turns =
    record { no_input = λ r k. k; no_listing = λ r k. k; no_fault = λ k. k; no_memory = λ k. k; no_plan = λ number k. k }

-- no answer of a replayed text by items is that a schedule is refused
steady : (options : ReplayOptions) (items : List ScheduleItem) (text : List ℕ) (number : ℕ)
    → ¬ replays.TextHas options items text (answers.PlanRefused number)
steady options items text number h =
    plain (replays_of.CodeHas options items) (replay_kinds options.processors options.turns) (replay_lemmas.of_code options items) text number h

module _ (texts : FaultsTellCases) (images : ImagesAreOne) (plans : PlansHaveOneAnswer) where
  -- a text without a fault has an answer by items that may be obeyed
  some_by_items : (options : ReplayOptions) → AreReplayed options → (schedule : List ℕ) (items : List ScheduleItem) (text : List ℕ)
      → IsAccepted schedule_form schedule options.processors items → ((f : CaseFault) (line : ℕ) → ¬ HasFault text f line)
      → (a : Answer) × replays.TextHas options items text a
  some_by_items options are schedule items text accepted free =
      let has = texts.covers text free in
      let m = some_opening (replays_of.sizes_of options) has.code has.input accepted.keeper (replayed_sizes options are) accepted.obeyed.below
      (case_input text has.code has.input has.is) in
      let a = some_has options items has.code has.input accepted.keeper m.0 accepted.obeyed.kept m.1 has.is.listed.code in (
        a.0,
        of_text (replays_of.CodeHas options items) (replay_kinds options.processors options.turns) (replay_lemmas.of_code options items) text has.code
            has.input has.is a.0 a.1,
      )

  -- and so it has one with each schedule
  some_answer : (options : ReplayOptions) (schedule : List ℕ) → AreReplayed options → (text : List ℕ)
      → ((f : CaseFault) (line : ℕ) → ¬ HasFault text f line) → (a : Answer) × ReplayCaseHas options schedule text a
  some_answer options schedule are text free =
      some_scheduled (replays.TextHas options) (steady options) plans schedule options.processors text
      (λ items accepted. some_by_items options are schedule items text accepted free)

  -- with all options and all schedules
  pub have_one_case_answer : HaveOneCaseAnswer
  have_one_case_answer = record {
    one = λ options schedule.
        planned_one schedule_form schedule options.processors (replays.TextHas options) case_limit plans.schedules
        (λ items. text_one (replays_of.CodeHas options items) texts (replay_one.code_one images options items));
    front = λ options schedule.
        planned_front schedule_form schedule options.processors (replays.TextHas options) case_limit (steady options)
        (λ items. text_front (replays_of.CodeHas options items) texts);
    some = some_answer;
  }
