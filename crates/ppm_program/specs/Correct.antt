-- A text has one program, or is refused for one reason, and never both.
use Rattle.std.specs.Prelude.{◌≡◌, ℕ, ◌<◌, List, ◌++◌, length}
use Rattle.ppm_text.specs.Limits.{text_limit}
use Rattle.ppm_tree.specs.Tree.{ProgramTree}
use Rattle.ppm_answers.specs.declared.refusal.Refusal.{Refusal}
use Rattle.ppm_program.specs.Programs.{HasProgram}
use Rattle.ppm_program.specs.Refusals.{IsRefusal}

-- the text has no program
abbrev pub HasNoProgram : List ℕ → Type 0
HasNoProgram text = (t : ProgramTree) → ¬ HasProgram text t

-- two programs of a text are one, and so are two refusals; a text that is refused has no program, and one that is not has one; and what
-- stands after more bytes than a text may have changes no refusal
pub record HasOneAnswer (text : List ℕ) : Type 0 where
  pub program : (t u : ProgramTree) → HasProgram text t → HasProgram text u → t ≡ u
  pub refusal : (r s : Refusal) → IsRefusal text r → IsRefusal text s → r ≡ s
  pub either : (r : Refusal) → IsRefusal text r → HasNoProgram text
  pub none : ((r : Refusal) → ¬ IsRefusal text r) → (t : ProgramTree) × HasProgram text t
  pub front : (rest : List ℕ) (r : Refusal) → text_limit < length text → IsRefusal text r → IsRefusal (text ++ rest) r

-- every text has one answer: a program or a refusal
abbrev pub HaveOneAnswer : Type 0
HaveOneAnswer = (text : List ℕ) → HasOneAnswer text
