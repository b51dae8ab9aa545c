-- What a command answers of a text that runs its program.
use Rattle.std.specs.Prelude.{ℕ, List, ⊤}
use Rattle.ppm_ports.specs.Ports.{Port}
use Rattle.ppm_text.specs.Limits.{text_limit}
use Rattle.ppm_tree.specs.Tree.{ProgramTree}
use Rattle.ppm_program.specs.Programs.{HasProgram}
use Rattle.ppm_program.specs.Refusals.{IsRefusal}
use Rattle.ppm_answers.specs.declared.answer.Answer.{Answer}
use Rattle.ppm_answers.specs.declared.answer.Answer.TheVariants as answers
use Rattle.ppm_answers.specs.Reading.{Reads, JudgingMay}

-- the answer of a text, by those of programs: its program's, or its refusal
abbrev pub TextHas : (Has : ProgramTree → Answer → Type 0) → List ℕ → Answer → Type 0
TextHas Has text (answers.SourceRefused r) = IsRefusal text r
TextHas Has text answer = (t : ProgramTree) × HasProgram text t × Has t answer

-- the text that was read has this program
abbrev pub ReadsProgram : Port → ProgramTree → Type 0
ReadsProgram source t = (text : List ℕ) × Reads text_limit source text × HasProgram text t

-- the answer of a text that has none: its refusal
abbrev pub RefusedHas : List ℕ → Answer → Type 0
RefusedHas text answer = TextHas (λ t a. ⊥) text answer

-- the answers where the text that was read has none, or was not read
abbrev pub NoProgramMay : Port → Answer → Type 0
NoProgramMay source answer = JudgingMay text_limit RefusedHas source answer

-- the answer of a program, or want of memory
abbrev pub ProgramMay : (Answer → Type 0) → Answer → Type 0
ProgramMay Has answers.NoMemory = ⊤
ProgramMay Has answer = Has answer
