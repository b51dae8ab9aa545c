-- A text that `races` calls sound runs as `depth` says: the text is of one case, that has one depth-first end, and each run of it ends so.
use Rattle.std.proofs.Common.{◌<◌, ℕ, ◌+◌, ◌*◌, List, ◌∙◌, ap, subst, arith}
use Rattle.ppm_words.specs.declared.named_array.NamedArray.{NamedArray}
use Rattle.ppm_words.specs.declared.outcome.Outcome.{Outcome}
use Rattle.ppm_words.specs.declared.outcome.Outcome.TheVariants as outcome
use Rattle.ppm_ports.specs.Outside.{ToldLists}
use Rattle.ppm_code.specs.declared.code.CodeParts.{CodeParts}
use Rattle.ppm_case.specs.Case.{IsCaseOf}
use Rattle.ppm_case.specs.Correct.{FaultsTellCases, HasCase}
use Rattle.ppm_plan.specs.Correct.{HaveOneAnswer as PlansHaveOneAnswer}
use Rattle.ppm_plan.specs.Forms.{plan_form}
use Rattle.ppm_plan.specs.Refusals.{IsAccepted}
use Rattle.ppm_plan.specs.declared.plan_item.PlanItem.{PlanItem}
use Rattle.ppm_answers.specs.declared.counts.Counts.{Counts}
use Rattle.ppm_answers.specs.declared.answer.Answer.{Answer}
use Rattle.ppm_answers.specs.declared.answer.Answer.TheVariants as answers
use Rattle.ppm_cli.specs.declared.run.RunOptions.{RunOptions}
use Rattle.ppm_cli.specs.Words.{AreRun}
use Rattle.ppm_commands.specs.Depth.{EndsWithin}
use Rattle.ppm_commands.specs.Races.{IsSoundWithin}
use Rattle.ppm_commands.proofs.DepthAnswers.{same_end}
use Rattle.ppm_loading.specs.Planned.{PlannedHas}
use Rattle.ppm_outcomes.specs.AsCode.{CodeEnds, CodeNeedsMoreRoom, CodeNeedsMoreTurns}
use Rattle.ppm_driver.specs.CaseRuns.{TextHas}
use Rattle.ppm_driver.specs.CodeRuns.{AnswersAreAsCode, SaysAsCode}
use Rattle.ppm_outcomes.specs.Runs.{CodeHas}
use Rattle.ppm_outcomes.specs.Strikes.{fault_count}
use Rattle.ppm_outcomes.proofs.MayRunLemmas.{may_run}
use Rattle.ppm_top.specs.SoundCases.{ComesToDepth, SoundCasesRunAsDepth}

-- what is sound within so many capsules, and whose depth-first run ends with this outcome, ends so within them, with these counts
ends_within : (capsules : ℕ) (code : CodeParts) (input : List NamedArray) (k : Counts) → IsSoundWithin capsules code input k
    → (o : Outcome) → CodeEnds code input o → EndsWithin capsules code input o k
ends_within capsules code input k sound o ends =
    let same = same_end code input sound.within.end ends.0 sound.within.comes ends.1 in
    let told = sound.within.outcome in
    let said = ends.2 in
    record { tidy = sound.sound.tidy; run = sound.run; within = sound.within; outcome = cc; counts = sound.counts }

module _ (runs : AnswersAreAsCode) (texts : FaultsTellCases) (plans : PlansHaveOneAnswer) (capsules : ℕ) (text : List ℕ) (k : Counts)
    (case : HasCase text) (sound : IsSoundWithin capsules case.code case.input k) (options : RunOptions) (are : AreRun options) (plan : List ℕ)
    (items : List PlanItem) (accepted : IsAccepted plan_form plan options.processors items) where
  -- what the code needs, in the counts that are told
  few_turns : CodeNeedsMoreTurns case.code case.input (fault_count items) options.turns → options.turns < 256 * (k.capsules + fault_count items)
  few_turns needs =
      let few = needs sound.within.end sound.within.comes in
      let told = ap (λ (c : Counts). c.capsules) sound.counts ∙ sound.within.counts.capsules in
      omega (arith, few, told)

  little_room : CodeNeedsMoreRoom case.code case.input options.room → options.room < k.pool_words
  little_room needs =
      let more = needs sound.within.end sound.within.comes in
      let told = ap (λ (c : Counts). c.pool_words) sound.counts ∙ sound.within.counts.pool_words in
      omega (arith, more, told)

  module _ (watching : ℕ) (before now : ToldLists) where
    -- the result of a run of the case, which is what the code says
    by_answer : (a : Answer) (h : CodeHas options watching before now items case.code case.input a)
        → SaysAsCode options items case.code case.input h.start h.run.turns a → ComesToDepth options (fault_count items) capsules text k a
    by_answer (answers.Ended arrays) h said = (case, ends_within capsules case.code case.input k sound (outcome.Ended arrays) said.depth_first)
    by_answer (answers.Trapped trap line) h said =
        (case, ends_within capsules case.code case.input k sound (outcome.Trapped trap line) said.depth_first)
    by_answer (answers.OutOfTurns c) h said = few_turns said
    by_answer (answers.OutOfRoom place) h said = little_room said
    by_answer a h said = absurd said

    -- the text is of one case, and the plan has one list of items
    by_case : (a : Answer) (others : List PlanItem) → IsAccepted plan_form plan options.processors others → (c : CodeParts) (l : List NamedArray)
        → IsCaseOf text c l → CodeHas options watching before now others c l a → ComesToDepth options (fault_count items) capsules text k a
    by_case a others also c l other h =
        let same = texts.one_case text c case.code l case.input other case.is in
        let with_items = subst (λ (x : List PlanItem). CodeHas options watching before now x c l a)
        (plans.plans.items plan others items also.has accepted.has) h in
        let has : CodeHas options watching before now items case.code case.input a =
        subst (λ (x : CodeParts). CodeHas options watching before now items x case.input a) same.0
        (subst (λ (x : List NamedArray). CodeHas options watching before now items c x a) same.1 with_items) in
        by_answer a has (runs options are items case.code case.input (may_run text case.code case.input case.is sound.sound) watching before now a has).1

    -- the plan is not refused, and the text is not
    comes : (a : Answer) → PlannedHas plan_form plan options.processors (TextHas options watching before now) text a
        → ComesToDepth options (fault_count items) capsules text k a
    comes (answers.PlanRefused number) h = absurd (plans.plans.apart plan options.processors items h.error h.of_text accepted h.refused)
    comes (answers.InputRefused r) h = absurd (texts.excludes text case.code case.input _ r.line case.is h.has.there)
    comes (answers.ListingRefused r) h = absurd (texts.excludes text case.code case.input _ r.line case.is h.has.there)
    comes a h = by_case a h.items h.accepted h.has.code h.has.input h.has.is h.has.has

-- by the laws of runs, of cases and of plans
pub sound_cases_run_as_depth : AnswersAreAsCode → FaultsTellCases → PlansHaveOneAnswer → SoundCasesRunAsDepth
sound_cases_run_as_depth runs texts plans capsules text k has options are plan items accepted watching before now answer h =
    comes runs texts plans capsules text k has.0 has.1 options are plan items accepted watching before now answer h
