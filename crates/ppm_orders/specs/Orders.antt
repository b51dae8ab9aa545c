-- What a command has to run: its orders come first, and then what a text says; and what it answers where there is nothing to run.
use Rattle.std.specs.Prelude.{ℕ, List}
use Rattle.ppm_ports.specs.Ports.{Port}
use Rattle.ppm_plan.specs.Forms.{Form}
use Rattle.ppm_answers.specs.declared.answer.Answer.{Answer}
use Rattle.ppm_answers.specs.Reading.{Reads}
use Rattle.ppm_loading.specs.Planned.{PlannedMay}

-- the text that was read, up to a limit, says this
abbrev pub ReadsTask : (limit : ℕ) → (Says : List ℕ → Type 0) → Port → Type 0
ReadsTask limit Says source = (text : List ℕ) × Reads limit source text × Says text

-- the answers where a plan or a schedule of this form comes first, and nothing is run: that it is refused, or that what was read is
abbrev pub NoTaskMay : {A : Type 0} → Form A → (orders : List ℕ) → (processors limit : ℕ) → (Refused : List ℕ → Answer → Type 0) → Port → Answer
    → Type 0
NoTaskMay form orders processors limit Refused source answer = PlannedMay form orders processors (λ items. Refused) limit source answer
