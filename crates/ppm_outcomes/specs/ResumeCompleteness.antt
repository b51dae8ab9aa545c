-- A resumed run with turns and room enough ends as its program does.
use Rattle.std.specs.Prelude.{ℕ, ◌+◌, List}
use Rattle.ppm_ports.specs.Outside.{ToldLists}
use Rattle.ppm_plan.specs.declared.plan_item.PlanItem.{PlanItem}
use Rattle.ppm_plan.specs.Forms.{plan_form}
use Rattle.ppm_plan.specs.Refusals.{IsAccepted}
use Rattle.ppm_answers.specs.declared.answer.Answer.{Answer}
use Rattle.ppm_cli.specs.declared.resume.ResumeOptions.{ResumeOptions}
use Rattle.ppm_cli.specs.Words.{AreResumed}
use Rattle.ppm_outcomes.specs.Completeness.{IsEnough, IsEnd}
use Rattle.ppm_outcomes.specs.Legs.{lost_in_all}
use Rattle.ppm_outcomes.specs.Resumes.{SavedState, IsTextOf, TextHas, IsLeftBy}
use Rattle.ppm_outcomes.specs.Strikes.{fault_count}

-- How many rows of work a run may lose that goes on by the items of a plan after so many that were lost: one of each place, whose processor is a
-- fresh one, and one by each fault of the plan.
abbrev pub lost_with : (lost processors : ℕ) → List PlanItem → ℕ
lost_with lost processors items = lost + processors + fault_count items

-- how many rows of work a program's run may lose, after all legs that left its state
abbrev pub faults_with : {source : List ℕ} {z : SavedState} → IsLeftBy source z → List PlanItem → ℕ
faults_with left items = lost_with (lost_in_all left.start left.legs left.turns) left.start.shape.processors items

-- with options in their ranges, the text of a state that a program left, and a plan that is accepted for its processors: where turns and room are
-- enough for the program and its faults, each answer of the text is that the run ended
abbrev pub ResumesComplete : Type 0
ResumesComplete = (options : ResumeOptions) → AreResumed options → (text : List ℕ) (z : SavedState) → IsTextOf text z
    → (plan : List ℕ) (items : List PlanItem) → IsAccepted plan_form plan z.shape.processors items
    → (source : List ℕ) (left : IsLeftBy source z) → IsEnough left.tree (faults_with left items) options.turns z.shape.room
    → (before now : ToldLists) (answer : Answer) → TextHas options plan before now text answer → IsEnd answer
