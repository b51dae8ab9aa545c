-- The command `code` with arrays: what it says of a text, when it may give each answer, and what follows from each status.
use Rattle.std.specs.Prelude.{◌≡◌, ℕ, List, ⊤}
use Rattle.ppm_ports.specs.Ports.{Port, Gets}
use Rattle.ppm_ports.specs.Outside.{Ports}
use Rattle.ppm_text.specs.Limits.{text_limit}
use Rattle.ppm_depth.specs.Sound.{IsSound}
use Rattle.ppm_tree.specs.Tree.{ProgramTree}
use Rattle.ppm_tree.specs.Program.{initial_arrays}
use Rattle.ppm_listing.specs.Correct.{NumbersFit}
use Rattle.ppm_cut_code.specs.Inputs.{IsInputOf}
use Rattle.ppm_cut_code.specs.Routines.{code_of}
use Rattle.ppm_program.specs.Programs.{HasProgram}
use Rattle.ppm_program.specs.Refusals.{IsRefusal}
use Rattle.ppm_case.specs.Case.{IsCaseOf}
use Rattle.ppm_case.specs.Text.{case_text}
use Rattle.ppm_answers.specs.declared.refusal.Refusal.{Refusal}
use Rattle.ppm_answers.specs.declared.answer.Answer.{Answer}
use Rattle.ppm_answers.specs.declared.answer.Answer.TheVariants as answers
use Rattle.ppm_answers.specs.declared.status.Status.{Status}
use Rattle.ppm_answers.specs.declared.status.Status.TheVariants as statuses
use Rattle.ppm_answers.specs.Texts.{refusal_text}
use Rattle.ppm_answers.specs.Reading.{ReadHas, JudgingMay, AreOne, FrontsDecide}
use Rattle.ppm_answers.specs.Rows.{PortsSay, JudgedRows, IsShown, IsDone}
use Rattle.ppm_commands.specs.Code.{IsFaithful}

-- the text that a program is written as: its code, with the arrays that it starts with
abbrev pub text_of : ProgramTree → List ℕ
text_of t = case_text (code_of t) (initial_arrays t)

-- the text has a program, and this is the text of its code with its arrays
pub record HasCaseText (text written : List ℕ) : Type 0 where
  pub tree : ProgramTree
  pub program : HasProgram text tree
  pub written_is : written ≡ text_of tree

-- the answer that a text has where its code is written with its arrays
abbrev pub CaseHas : List ℕ → Answer → Type 0
CaseHas text (answers.Listed written) = HasCaseText text written
CaseHas text (answers.SourceRefused r) = IsRefusal text r
CaseHas text _ = ⊥

-- it is so, and the numbers of this code fit 64 bits
pub record WritesCase (text written : List ℕ) : Type 0 where
  pub writes : HasCaseText text written
  pub fits : NumbersFit (code_of writes.tree)

-- the answer of the text that was read: of a code in memory it is known that its numbers fit
abbrev pub CaseReads : List ℕ → Answer → Type 0
CaseReads text (answers.Listed written) = WritesCase text written
CaseReads text (answers.SourceRefused r) = IsRefusal text r
CaseReads text _ = ⊥

-- the answers of a program whose code is written with its arrays; and memory can always be refused
abbrev pub ProgramMay : ProgramTree → Answer → Type 0
ProgramMay t (answers.Listed written) = (written ≡ text_of t) × NumbersFit (code_of t)
ProgramMay t answers.NoMemory = ⊤
ProgramMay t _ = ⊥

-- Two answers of a text are one, and what stands after more bytes than a text may have changes none. Each text has one: it is refused, or
-- its code is written with its arrays.
pub record HaveOneAnswer : Type 0 where
  pub one : AreOne CaseHas
  pub front : FrontsDecide text_limit CaseHas
  pub some : (text : List ℕ) → ((r : Refusal) → ¬ IsRefusal text r) → (a : Answer) × CaseHas text a

-- What is written of a program whose code's numbers fit 64 bits is of its code and its arrays, and never too long; and these are an input for the
-- program's arrays.
pub record AreCases : Type 0 where
  pub cases : (text : List ℕ) (t : ProgramTree) → HasProgram text t → NumbersFit (code_of t) → IsCaseOf (text_of t) (code_of t) (initial_arrays t)
  pub inputs : (text : List ℕ) (t : ProgramTree) → HasProgram text t → IsInputOf t (initial_arrays t)

-- the answers of `code` with arrays
abbrev pub CaseMay : Port → Answer → Type 0
CaseMay source answer = JudgingMay text_limit CaseReads source answer

-- the text that was read has this answer
abbrev pub HasRead : Port → Answer → Type 0
HasRead source answer = ReadHas text_limit CaseReads source answer

-- The text that was read has a program, and out got exactly the text of its code with its arrays. That text is of just this code and these arrays.
-- They are an input of the program, the code is sound with them, and what is true of each program's code is true of it: run depth first it ends
-- as the program does.
pub record WritesCode (o : Ports) : Type 0 where
  pub written : List ℕ
  pub read : HasRead o.source (answers.Listed written)
  pub gets : Gets o.out written
  pub case : IsCaseOf written (code_of read.2.writes.tree) (initial_arrays read.2.writes.tree)
  pub input : IsInputOf read.2.writes.tree (initial_arrays read.2.writes.tree)
  pub sound : IsSound (code_of read.2.writes.tree) (initial_arrays read.2.writes.tree)
  pub faithful : IsFaithful read.2.writes.tree

-- the text that was read is refused, and err got exactly the refusal's text
abbrev pub WritesRefusal : Ports → Type 0
WritesRefusal o = (r : Refusal) × HasRead o.source (answers.SourceRefused r) × Gets o.err (refusal_text r)

-- what each status of `code` with arrays says: 0 and 2 come only where the text that was read has a code or is refused
abbrev pub CaseSays : Ports → Status → Type 0
CaseSays o statuses.Ended = WritesCode o
CaseSays o statuses.SourceRefused = WritesRefusal o
CaseSays o status = PortsSay o status

-- The rows of `code` with arrays: what each status says; where all goes well, the answer that the text has is written, and of a source whose
-- bytes are known, the one that they have.
pub record CaseRows (o : Ports) (status : Status) : Type 0 where
  pub rows : JudgedRows HasRead CaseHas (CaseSays o) o status
  pub shown : IsShown CaseHas o status

-- `code` with arrays is done
abbrev pub IsWrittenAsCase : Ports → Status → Type 0
IsWrittenAsCase o status = IsDone CaseMay CaseRows o status
