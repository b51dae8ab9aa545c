-- A text has one answer: items that may be obeyed, or one refusal.
use Rattle.std.specs.Prelude.{◌≡◌, ◌⊎◌, ℕ, Bool, true, false, List}
use Rattle.ppm_plan.specs.declared.plan_error.PlanError.{PlanError}
use Rattle.ppm_plan.specs.declared.plan_error.PlanError.TheVariants.{BadItem, NoSuchProcessor, TooManyFaults, AllKilled, NoMemory}
use Rattle.ppm_plan.specs.Forms.{Form, plan_form, schedule_form}
use Rattle.ppm_plan.specs.Strands.{strand_form}
use Rattle.ppm_plan.specs.Refusals.{HasItems, IsAccepted, IsRefused}

-- an error that says something of the text: memory that was refused says nothing
abbrev pub is_of_text : PlanError → Bool
is_of_text (BadItem n) = true
is_of_text (NoSuchProcessor n) = true
is_of_text TooManyFaults = true
is_of_text AllKilled = true
is_of_text NoMemory = false

-- a text has some items that are accepted
pub record SomeAccepted {A : Type 0} (form : Form A) (text : List ℕ) (p : ℕ) : Type 0 where
  pub items : List A
  pub accepted : IsAccepted form text p items

-- a text is refused
pub record SomeRefused {A : Type 0} (form : Form A) (text : List ℕ) (p : ℕ) : Type 0 where
  pub error : PlanError
  pub refused : IsRefused form text p error
  pub of_text : is_of_text error ≡ true

-- the answers of one form: there is one, items are the only ones, what is accepted is not refused, and two refusals are one
pub record HasOneAnswer {A : Type 0} (form : Form A) : Type 0 where
  pub some : (text : List ℕ) (p : ℕ) → SomeAccepted form text p ⊎ SomeRefused form text p
  pub items : (text : List ℕ) (a b : List A) → HasItems form text a → HasItems form text b → a ≡ b
  pub apart : (text : List ℕ) (p : ℕ) (a : List A) (e : PlanError) → is_of_text e ≡ true
      → IsAccepted form text p a → IsRefused form text p e → ⊥
  pub refusals : (text : List ℕ) (p : ℕ) (e f : PlanError) → is_of_text e ≡ true → is_of_text f ≡ true
      → IsRefused form text p e → IsRefused form text p f → e ≡ f

-- plans, schedules, and schedules of strands have one answer each
pub record HaveOneAnswer : Type 0 where
  pub plans : HasOneAnswer plan_form
  pub schedules : HasOneAnswer schedule_form
  pub strands : HasOneAnswer strand_form
