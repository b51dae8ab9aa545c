-- What follows from each status of `resume` where a run of a sound code left the state, whoever wrote the code: a case, or a program's code.
use Rattle.std.specs.Prelude.{◌≡◌, ℕ, List, [], ◌∷◌, Some}
use Rattle.ppm_words.specs.declared.named_array.NamedArray.{NamedArray}
use Rattle.ppm_ports.specs.Outside.{Outside, ports_of}
use Rattle.ppm_code.specs.declared.code.CodeParts.{CodeParts}
use Rattle.ppm_plan.specs.declared.plan_item.PlanItem.{PlanItem}
use Rattle.ppm_plan.specs.Forms.{plan_form}
use Rattle.ppm_plan.specs.Refusals.{IsAccepted}
use Rattle.ppm_answers.specs.declared.status.Status.{Status}
use Rattle.ppm_answers.specs.declared.status.Status.TheVariants as statuses
use Rattle.ppm_answers.specs.Rows.{IsOneOf, GoesWell}
use Rattle.ppm_cli.specs.declared.resume.ResumeOptions.{ResumeOptions}
use Rattle.ppm_cli.specs.Words.{AreResumed}
use Rattle.ppm_outcomes.specs.AsCode.{MayRun}
use Rattle.ppm_outcomes.specs.CodeResumes.{IsLeftByCode, LeftWordsStand, ResumesAreAsCode, faults_of}
use Rattle.ppm_outcomes.specs.CompleteAsCode.{CodeIsEnough}
use Rattle.ppm_outcomes.specs.Resumes.{SavedState, IsTextOf}

module _ (options : ResumeOptions) (plan : List ℕ) (o : Outside) where
  -- completeness: with options in their ranges, a source's bytes that are known and are the text of a state that a sound code left, a plan that is
  -- accepted for its processors, and turns and room enough for that code, the run ends with arrays or in a trap, where the ports hold and memory is
  -- there
  abbrev pub CompletesAsCode : Status → Type 0
  CompletesAsCode status = AreResumed options → (all : List ℕ) → o.source.before ≡ Some all → (z : SavedState) → IsTextOf all z
      → (items : List PlanItem) → IsAccepted plan_form plan z.shape.processors items
      → (code : CodeParts) (input : List NamedArray) → MayRun code input → (left : IsLeftByCode code input z)
      → CodeIsEnough code input (faults_of left items) options.turns z.shape.room → GoesWell (ports_of o) status
      → IsOneOf status (statuses.Ended ∷ statuses.Trapped ∷ [])

  -- The rows of `resume` over sound codes, beside those over programs. What is in `as_code` and `stand` are laws, in which no status occurs: each
  -- run that an answer is of is as each sound code that left its state, and the answer says so; and from the words that such a code left there is a
  -- run, so that words are broken comes of a run alone.
  pub record ResumeCodeRows (status : Status) : Type 0 where
    pub as_code : ResumesAreAsCode options o.told_before o.told_now
    pub stand : LeftWordsStand
    pub completes : CompletesAsCode status
