-- What `resume` answers where what is counted in its run is told, and when it may: what it answers without the counts, and these.
use Rattle.std.specs.Prelude.{◌≡◌, ℕ, List, [], None}
use Rattle.ppm_ports.specs.Ports.{Port}
use Rattle.ppm_cells.specs.Finish.{finish_of}
use Rattle.ppm_plan.specs.declared.plan_item.PlanItem.{PlanItem}
use Rattle.ppm_plan.specs.Forms.{plan_form}
use Rattle.ppm_saved_reader.specs.Rules.{saved_limit}
use Rattle.ppm_step.specs.Standings.{unknown_place}
use Rattle.ppm_answers.specs.declared.answer.Answer.{Answer}
use Rattle.ppm_answers.specs.declared.answer.Answer.TheVariants as answers
use Rattle.ppm_answers.specs.declared.ran.Ran.{Ran}
use Rattle.ppm_answers.specs.declared.run_counts.RunCounts.{RunCounts}
use Rattle.ppm_answers.specs.Reading.{JudgingMay}
use Rattle.ppm_cli.specs.declared.resume.ResumeOptions.{ResumeOptions}
use Rattle.ppm_loading.specs.Planned.{IsRefusedBy}
use Rattle.ppm_outcomes.specs.CountedRuns.{answer_of}
use Rattle.ppm_outcomes.specs.Resumes.{SavedState, saved_finish, IsNoText, OfState, ByItems, ResumedHas}
use Rattle.ppm_outcomes.specs.RunCounts.{AreOfRun}
use Rattle.ppm_outcomes.specs.Strikes.{fault_count}

-- The run from a state by the items of a plan comes to this, and so much is counted in it: what it came to is the answer without counts of a run in
-- which each processor obeys; and the counts are those of the turns of this very run, from the words that fresh processors find.
pub record IsCounted (options : ResumeOptions) (items : List PlanItem) (z : SavedState) (r : Ran) (counts : RunCounts) : Type 0 where
  pub has : ResumedHas options [] [] items z (answer_of r)
  pub counted : AreOfRun (fault_count items) has.start has.run.turns counts

-- The answer of a state by the items of a plan: that of such a run. Where the saved finish word stands for nothing there is no run, nothing is counted,
-- and the words are broken at a place that isn't known.
abbrev pub ItemsHave : ResumeOptions → List PlanItem → SavedState → Answer → Type 0
ItemsHave options items z (answers.RanWith r counts) = IsCounted options items z r counts
ItemsHave options items z (answers.Broken place) = (finish_of (saved_finish z) ≡ None) × (place ≡ unknown_place)
ItemsHave options items z answer = ⊥

-- its answer with a plan: that the plan is refused for its processors, or that by the items
abbrev pub StateHas : ResumeOptions → (plan : List ℕ) → SavedState → Answer → Type 0
StateHas options plan z (answers.PlanRefused number) = IsRefusedBy plan_form plan z.shape.processors number
StateHas options plan z answer = ByItems plan (λ items z. ItemsHave options items z answer) z

-- the answer of a text, with such options and such a plan: that it is refused, or that of its state
abbrev pub TextHas : ResumeOptions → (plan : List ℕ) → List ℕ → Answer → Type 0
TextHas options plan text (answers.SavedRefused r) = IsNoText text r
TextHas options plan text answer = OfState (λ z. StateHas options plan z answer) text

-- the answers of such a `resume` with such options and such a plan
abbrev pub CountedResumeMay : ResumeOptions → (plan : List ℕ) → Port → Answer → Type 0
CountedResumeMay options plan source answer = JudgingMay saved_limit (TextHas options plan) source answer
