-- What follows from each status of `run` of a case.
use Rattle.std.specs.Prelude.{◌≡◌, ℕ, ◌≤◌, List, [], ◌∷◌, Some}
use Rattle.ppm_words.specs.declared.named_array.NamedArray.{NamedArray}
use Rattle.ppm_ports.specs.Outside.{Outside, ports_of}
use Rattle.ppm_code.specs.declared.code.CodeParts.{CodeParts}
use Rattle.ppm_depth.specs.Sound.{IsSound}
use Rattle.ppm_case.specs.Case.{IsCaseOf}
use Rattle.ppm_plan.specs.Forms.{plan_form}
use Rattle.ppm_plan.specs.declared.plan_item.PlanItem.{PlanItem}
use Rattle.ppm_plan.specs.Refusals.{IsAccepted}
use Rattle.ppm_answers.specs.declared.answer.Answer.{Answer}
use Rattle.ppm_answers.specs.declared.status.Status.{Status}
use Rattle.ppm_answers.specs.declared.status.Status.TheVariants as statuses
use Rattle.ppm_answers.specs.Rows.{IsJudged, IsShown, IsOneOf, GoesWell}
use Rattle.ppm_cli.specs.declared.run.RunOptions.{RunOptions}
use Rattle.ppm_outcomes.specs.AsCode.{MayRun, IsAsCode}
use Rattle.ppm_driver.specs.CaseHeadline.{CaseHeadline}
use Rattle.ppm_driver.specs.CaseRuns.{RunCaseHas}
use Rattle.ppm_driver.specs.CodeRuns.{SaysAsCode}
use Rattle.ppm_outcomes.specs.CompleteAsCode.{CodeIsEnough}
use Rattle.ppm_outcomes.specs.Meant.{undone_in}
use Rattle.ppm_driver.specs.RunRows.{Refuses}
use Rattle.ppm_outcomes.specs.Runs.{CodeHas}
use Rattle.ppm_outcomes.specs.Strikes.{fault_count}

module _ (options : RunOptions) (watching : ℕ) (plan : List ℕ) (o : Outside) where
  -- a run of a sound code that an answer is of is as the code is, no more faults undid work than the plan has, and the answer says an outcome or that
  -- a limit is too low for the code
  pub record IsAsPlanned (items : List PlanItem) (code : CodeParts) (input : List NamedArray) (answer : Answer)
      (h : CodeHas options watching o.told_before o.told_now items code input answer) : Type 0 where
    pub as_code : IsAsCode h.start h.run.turns code input
    pub undone : undone_in h.start h.run.turns ≤ fault_count items
    pub says : SaysAsCode options items code input h.start h.run.turns answer

  -- each run is so: a law, in which no status occurs
  abbrev pub AreAsCode : Type 0
  AreAsCode = (items : List PlanItem) (code : CodeParts) (input : List NamedArray) → MayRun code input → (answer : Answer)
      (h : CodeHas options watching o.told_before o.told_now items code input answer) → IsAsPlanned items code input answer h

  -- completeness: with a plan that is accepted, and turns and room enough for its faults and for the sound case of the source's bytes, which are
  -- known, the run ends with arrays or in a trap, where the ports hold and memory is there
  abbrev pub Completes : Status → Type 0
  Completes status = (items : List PlanItem) → IsAccepted plan_form plan options.processors items
      → (all : List ℕ) → o.source.before ≡ Some all → (code : CodeParts) (input : List NamedArray) → IsCaseOf all code input → IsSound code input
      → CodeIsEnough code input (fault_count items) options.turns options.room → GoesWell (ports_of o) status
      → IsOneOf status (statuses.Ended ∷ statuses.Trapped ∷ [])

  -- The rows of `run` of a case with such options, in their ranges, and such a plan, where so many watchers are told what their processors do. The
  -- first is the theorem. Where all goes well, something is judged, and so written. Where there is one processor, the answer that a text has is
  -- written, whichever it is and whatever watchers were told. What is in `meant` is a law: it holds of every answer of a run.
  pub record RunCaseRows (status : Status) : Type 0 where
    pub headline : CaseHeadline options watching plan o status
    pub judged : GoesWell (ports_of o) status → IsJudged status
    pub refuses : Refuses options watching plan o status
    pub shown : options.processors ≡ 1 → IsShown (RunCaseHas options plan) (ports_of o) status
    pub meant : AreAsCode
    pub completes : Completes status
