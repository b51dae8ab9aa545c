-- What is known of a reader that has read some items.
use Rattle.std.specs.Prelude.{◌≡◌, ℕ, ◌+◌, List, length, None}
use Rattle.ppm_plan.specs.declared.plan_error.PlanError.{PlanError}
use Rattle.ppm_plan.specs.declared.plan_error.PlanError.TheVariants.{BadItem, NoSuchProcessor, TooManyFaults, AllKilled, NoMemory}
use Rattle.ppm_plan.specs.Forms.{Form}

-- the piece after some items reads as none, or memory was refused
abbrev pub StopsAt : {A : Type 0} → Form A → List A → List ℕ → PlanError → Type 0
StopsAt form items piece (BadItem n) = (n ≡ length items + 1) × (form.reading piece ≡ None)
StopsAt form items piece (NoSuchProcessor n) = ⊥
StopsAt form items piece TooManyFaults = ⊥
StopsAt form items piece AllKilled = ⊥
StopsAt form items piece NoMemory = Unit {0}
