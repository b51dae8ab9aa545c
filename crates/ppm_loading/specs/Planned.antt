-- A command that has a plan or a schedule among its words: what it answers, and when it may.
use Rattle.std.specs.Prelude.{◌≡◌, ℕ, true, List}
use Rattle.ppm_ports.specs.Ports.{Port}
use Rattle.ppm_plan.specs.declared.plan_error.PlanError.{PlanError}
use Rattle.ppm_plan.specs.declared.plan_error.PlanError.TheVariants as errors
use Rattle.ppm_plan.specs.Correct.{is_of_text, SomeAccepted}
use Rattle.ppm_plan.specs.Forms.{Form}
use Rattle.ppm_plan.specs.Refusals.{IsAccepted, IsRefused, number_of}
use Rattle.ppm_answers.specs.declared.refusal.Refusal.{Refusal}
use Rattle.ppm_answers.specs.declared.answer.Answer.{Answer}
use Rattle.ppm_answers.specs.declared.answer.Answer.TheVariants as answers
use Rattle.ppm_answers.specs.Reading.{IsUnread, ReadingMay, ReadHas}
use Rattle.ppm_answers.specs.Rows.{HasOrRefused}
use Rattle.ppm_program.specs.Refusals.{IsRefusal}

-- the plan, a text of this form for so many processors, is refused by this number
pub record IsRefusedBy {A : Type 0} (form : Form A) (plan : List ℕ) (processors number : ℕ) : Type 0 where
  pub error : PlanError
  pub of_text : is_of_text error ≡ true
  pub refused : IsRefused form plan processors error
  pub number_is : number ≡ number_of error

-- the answer where there is no plan: that it is refused, or that memory was
abbrev pub refusal_of : PlanError → Answer
refusal_of errors.NoMemory = answers.NoMemory
refusal_of (errors.BadItem item) = answers.PlanRefused (number_of (errors.BadItem item))
refusal_of (errors.NoSuchProcessor item) = answers.PlanRefused (number_of (errors.NoSuchProcessor item))
refusal_of errors.TooManyFaults = answers.PlanRefused (number_of errors.TooManyFaults)
refusal_of errors.AllKilled = answers.PlanRefused (number_of errors.AllKilled)

module _ {A : Type 0} (form : Form A) (plan : List ℕ) (processors : ℕ) (Has : List A → List ℕ → Answer → Type 0) where
  -- the answer of a text by the items of the plan, which may be obeyed
  pub record HasByItems (text : List ℕ) (answer : Answer) : Type 0 where
    pub items : List A
    pub accepted : IsAccepted form plan processors items
    pub has : Has items text answer

  -- the answer of a text with such a plan: that the plan is refused, or the answer by its items
  abbrev pub PlannedHas : List ℕ → Answer → Type 0
  PlannedHas text answer = HasOrRefused (IsRefusedBy form plan processors) HasByItems text answer

  -- nothing was read where the plan is refused
  abbrev pub IsUnreadIfRefused : Port → Type 0
  IsUnreadIfRefused source = (number : ℕ) → IsRefusedBy form plan processors number → IsUnread source

  -- The answers of a command that reads its plan first, and then up to a limit, and judges what it has read by the plan: that the plan is
  -- refused, and nothing was read; want of memory; a read fault, where the plan may be obeyed; and the answer of the text that was read, by
  -- the plan's items.
  abbrev pub PlannedMay : (limit : ℕ) → Port → Answer → Type 0
  PlannedMay limit source (answers.PlanRefused number) = IsRefusedBy form plan processors number × IsUnread source
  PlannedMay limit source answers.NoMemory = ReadingMay limit source answers.NoMemory × IsUnreadIfRefused source
  PlannedMay limit source answers.ReadFault = ReadingMay limit source answers.ReadFault × SomeAccepted form plan processors
  PlannedMay limit source answer = ReadHas limit HasByItems source answer

  -- a text that is not refused has an answer
  abbrev pub HasSomeAnswer : Type 0
  HasSomeAnswer = (text : List ℕ) → ((r : Refusal) → ¬ IsRefusal text r) → (a : Answer) × PlannedHas text a
