-- The RAM of a text that a command reads, or the refusal for its first fault.
use Rattle.std.specs.Prelude.{◌≡◌, ℕ, List, Err}
use Rattle.ppm_ports.specs.Ports.{Port}
use Rattle.ppm_ram.specs.declared.ram.RamParts.{RamParts}
use Rattle.ppm_ram.specs.Limits.{text_limit}
use Rattle.ppm_ram.specs.Lines.{Fault, fault_number, ram_in}
use Rattle.ppm_ram.specs.Text.{IsTextOf}
use Rattle.ppm_answers.specs.declared.answer.Answer.{Answer}
use Rattle.ppm_answers.specs.declared.answer.Answer.TheVariants as answers
use Rattle.ppm_answers.specs.declared.refusal.Pass.TheVariants as pass
use Rattle.ppm_answers.specs.declared.refusal.Refusal.{Refusal}
use Rattle.ppm_answers.specs.Reading.{JudgingMay, Reads}

-- the refusal for a fault: its number, and the line that breaks the rule
abbrev pub ram_refusal : Fault → Refusal
ram_refusal f = record { pass = pass.Ram; number = fault_number f.0; place = f.1 }

-- the text is of no RAM, and this refusal is for its first fault
pub record RefusesRam (text : List ℕ) (r : Refusal) : Type 0 where
  pub fault : Fault
  pub there : ram_in text ≡ Err fault
  pub same : r ≡ ram_refusal fault

-- the text is that of a RAM, and this holds of it
pub record OfRam (text : List ℕ) (Has : RamParts → Type 0) : Type 0 where
  pub ram : RamParts
  pub is : IsTextOf text ram
  pub has : Has ram

-- the answer of a text, by those of RAMs: its RAM's, or its refusal
abbrev pub OfText : (Has : RamParts → Answer → Type 0) → List ℕ → Answer → Type 0
OfText Has text (answers.SourceRefused r) = RefusesRam text r
OfText Has text answer = OfRam text (λ ram. Has ram answer)

-- the answer of a text that has none: its refusal
abbrev pub RefusedHas : List ℕ → Answer → Type 0
RefusedHas text answer = OfText (λ ram a. ⊥) text answer

-- the text that was read is that of this RAM
abbrev pub ReadsRam : Port → RamParts → Type 0
ReadsRam source ram = (text : List ℕ) × Reads text_limit source text × IsTextOf text ram

-- the answers where the text that was read is of no RAM, or was not read
abbrev pub NoRamMay : Port → Answer → Type 0
NoRamMay source answer = JudgingMay text_limit RefusedHas source answer
