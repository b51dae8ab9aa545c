-- The command `show`: what it says of a saved text, when it may give each answer, and what follows from each status.
use Rattle.std.specs.Prelude.{◌≡◌, ℕ, List, ⊤}
use Rattle.ppm_ports.specs.Ports.{Port, Gets}
use Rattle.ppm_ports.specs.Outside.{Ports}
use Rattle.ppm_cells.specs.declared.shape.Shape.{Shape}
use Rattle.ppm_code.specs.declared.code.CodeParts.{CodeParts}
use Rattle.ppm_lines.specs.Scene.{Scene}
use Rattle.ppm_saved.specs.Names.{lengths_of}
use Rattle.ppm_saved.specs.declared.names.NamedLength.{NamedLength}
use Rattle.ppm_saved_reader.specs.declared.saved_error.Fault.{Fault}
use Rattle.ppm_saved_reader.specs.declared.saved_error.SavedError.{SavedError}
use Rattle.ppm_saved_reader.specs.declared.saved_error.SavedError.TheVariants as error
use Rattle.ppm_saved_reader.specs.Correct.{IsSavedText, IsWrongAt}
use Rattle.ppm_saved_reader.specs.ErrorNumbers.{fault_number, number_of, line_of}
use Rattle.ppm_saved_reader.specs.Rules.{saved_limit}
use Rattle.ppm_show.specs.Names.{scene_of}
use Rattle.ppm_show.specs.Show.{show_text}
use Rattle.ppm_answers.specs.declared.answer.Answer.{Answer}
use Rattle.ppm_answers.specs.declared.answer.Answer.TheVariants as answers
use Rattle.ppm_answers.specs.declared.saved.SavedRefusal.{SavedRefusal}
use Rattle.ppm_answers.specs.declared.status.Status.{Status}
use Rattle.ppm_answers.specs.declared.status.Status.TheVariants as statuses
use Rattle.ppm_answers.specs.Texts.{saved_line}
use Rattle.ppm_answers.specs.Reading.{ReadHas, JudgingMay, AreOne, FrontsDecide}
use Rattle.ppm_answers.specs.Rows.{PortsSay, TextRows, IsShown, IsDone}

-- the text is that of a state, and these are the state's lines
pub record IsShownBy (text shown : List ℕ) : Type 0 where
  pub shape : Shape
  pub arrays : List NamedLength
  pub code : CodeParts
  pub words : List ℕ
  pub saved : IsSavedText text shape arrays code words
  pub tells : shown ≡ show_text (scene_of shape arrays (lengths_of arrays) code words)

-- the text is that of no state, for this fault of its first wrong line
pub record IsUnsaved (text : List ℕ) (r : SavedRefusal) : Type 0 where
  pub rule : Fault
  pub wrong : IsWrongAt text rule r.line
  pub number : r.number ≡ fault_number rule

-- the answer that a text has where it is shown
abbrev pub ShowHas : List ℕ → Answer → Type 0
ShowHas text (answers.Shown shown) = IsShownBy text shown
ShowHas text (answers.SavedRefused r) = IsUnsaved text r
ShowHas text _ = ⊥

-- the answer that a state has, or want of memory
abbrev pub SceneMay : Scene → Answer → Type 0
SceneMay scene (answers.Shown shown) = shown ≡ show_text scene
SceneMay scene answers.NoMemory = ⊤
SceneMay scene _ = ⊥

-- a fault of a saved text as an answer
abbrev pub saved_refused : SavedError → Answer
saved_refused e = answers.SavedRefused (record { number = number_of e; line = line_of e })

-- and want of memory, which is none
abbrev pub error_answer : SavedError → Answer
error_answer error.NoMemory = answers.NoMemory
error_answer (error.NoSuchForm line) = saved_refused (error.NoSuchForm line)
error_answer (error.OutOfRange line) = saved_refused (error.OutOfRange line)
error_answer (error.BadListing line) = saved_refused (error.BadListing line)
error_answer (error.BadCode line) = saved_refused (error.BadCode line)
error_answer (error.WrongCount line) = saved_refused (error.WrongCount line)

-- Two answers of a text are one, and what stands after more bytes than a saved text may have changes none. Each text has one: it is refused for
-- its fault, or it is that of a state, which has its lines.
pub record HaveOneAnswer : Type 0 where
  pub one : AreOne ShowHas
  pub front : FrontsDecide saved_limit ShowHas
  pub some : (text : List ℕ) → ((r : SavedRefusal) → ¬ IsUnsaved text r) → (shown : List ℕ) × IsShownBy text shown

-- the answers of `show`
abbrev pub ShowMay : Port → Answer → Type 0
ShowMay source answer = JudgingMay saved_limit ShowHas source answer

module _ (o : Ports) where
  -- the text that was read has this answer
  abbrev pub HasRead : Answer → Type 0
  HasRead answer = ReadHas saved_limit ShowHas o.source answer

  -- the text that was read is that of a state, and out got exactly the state's lines
  pub record WritesState : Type 0 where
    pub shown : List ℕ
    pub read : HasRead (answers.Shown shown)
    pub gets : Gets o.out shown

  -- it is that of no state, for this fault, and err got exactly its line
  abbrev pub WritesFault : Type 0
  WritesFault = (r : SavedRefusal) × HasRead (answers.SavedRefused r) × Gets o.err (saved_line r)

  -- what each status of `show` says: 0 comes only where a state is shown, and 12 only where the text is that of none
  abbrev pub ShowSays : Status → Type 0
  ShowSays statuses.Ended = WritesState
  ShowSays statuses.SavedRefused = WritesFault
  ShowSays status = PortsSay o status

-- The rows of `show`: what each status says; where all goes well, the answer that the text has is written, and of a source whose bytes are known,
-- the one that they have.
pub record ShowRows (o : Ports) (status : Status) : Type 0 where
  pub rows : TextRows saved_limit ShowHas (ShowSays o) o status
  pub shown : IsShown ShowHas o status

-- `show` is done
abbrev pub IsSaid : Ports → Status → Type 0
IsSaid o status = IsDone ShowMay ShowRows o status
