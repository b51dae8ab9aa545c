-- The command `serial`: what it says of a text, when it may give each answer, and what follows from each status.
use Rattle.std.specs.Prelude.{◌≡◌, ℕ, List, ⊤}
use Rattle.ppm_words.specs.declared.named_array.NamedArray.{NamedArray}
use Rattle.ppm_words.specs.declared.outcome.Outcome.{Outcome}
use Rattle.ppm_words.specs.declared.outcome.Outcome.TheVariants as outcome
use Rattle.ppm_words.specs.declared.trap.Trap.{Trap}
use Rattle.ppm_ports.specs.Ports.{Port, Gets}
use Rattle.ppm_ports.specs.Outside.{Ports}
use Rattle.ppm_text.specs.Limits.{text_limit}
use Rattle.ppm_tree.specs.Tree.{ProgramTree}
use Rattle.ppm_tree.specs.Program.{Serial}
use Rattle.ppm_program.specs.Programs.{HasProgram}
use Rattle.ppm_program.specs.Refusals.{IsRefusal}
use Rattle.ppm_answers.specs.declared.refusal.Refusal.{Refusal}
use Rattle.ppm_answers.specs.declared.answer.Answer.{Answer}
use Rattle.ppm_answers.specs.declared.answer.Answer.TheVariants as answers
use Rattle.ppm_answers.specs.declared.status.Status.{Status}
use Rattle.ppm_answers.specs.declared.status.Status.TheVariants as statuses
use Rattle.ppm_answers.specs.Texts.{arrays_text, trap_text, refusal_text, not_within_text}
use Rattle.ppm_answers.specs.Reading.{ReadHas, JudgingMay, AreOne, FrontsDecide}
use Rattle.ppm_answers.specs.Rows.{PortsSay, TextRows, IsShown, IsDone}

-- the text has a program, and by the serial meaning this is its outcome within so many turns
pub record ComesTo (turns : ℕ) (text : List ℕ) (o : Outcome) : Type 0 where
  pub tree : ProgramTree
  pub program : HasProgram text tree
  pub serial : Serial tree turns o

-- the answer that a text has where it is run for so many turns
abbrev pub SerialHas : ℕ → List ℕ → Answer → Type 0
SerialHas turns text (answers.Ended arrays) = ComesTo turns text (outcome.Ended arrays)
SerialHas turns text (answers.Trapped t line) = ComesTo turns text (outcome.Trapped t line)
SerialHas turns text (answers.NotWithin n) = (n ≡ turns) × ComesTo turns text outcome.NotWithin
SerialHas turns text (answers.SourceRefused r) = IsRefusal text r
SerialHas turns text _ = ⊥

-- the outcome of a program within so many turns as an answer, or want of memory
abbrev pub TreeMay : ℕ → ProgramTree → Answer → Type 0
TreeMay turns t (answers.Ended arrays) = Serial t turns (outcome.Ended arrays)
TreeMay turns t (answers.Trapped trap line) = Serial t turns (outcome.Trapped trap line)
TreeMay turns t (answers.NotWithin n) = (n ≡ turns) × Serial t turns outcome.NotWithin
TreeMay turns t answers.NoMemory = ⊤
TreeMay turns t _ = ⊥

-- Within each number of turns two answers of a text are one, and what stands after more bytes than a text may have changes none. Each text
-- has one: it is refused, or its program has an outcome.
pub record HasOneAnswer (turns : ℕ) : Type 0 where
  pub one : AreOne (SerialHas turns)
  pub front : FrontsDecide text_limit (SerialHas turns)
  pub some : (text : List ℕ) → ((r : Refusal) → ¬ IsRefusal text r) → (a : Answer) × SerialHas turns text a

-- `serial` has one answer, whatever the number of turns
abbrev pub HaveOneAnswer : Type 0
HaveOneAnswer = (turns : ℕ) → HasOneAnswer turns

-- the answers of `serial` with so many turns
abbrev pub SerialMay : ℕ → Port → Answer → Type 0
SerialMay turns source answer = JudgingMay text_limit (SerialHas turns) source answer

module _ (turns : ℕ) (o : Ports) where
  -- the text that was read has this answer within so many turns
  abbrev pub HasRead : Answer → Type 0
  HasRead answer = ReadHas text_limit (SerialHas turns) o.source answer

  -- the text that was read ends with arrays within the turns, and out got exactly their text
  abbrev pub WritesArrays : Type 0
  WritesArrays = (arrays : List NamedArray) × HasRead (answers.Ended arrays) × Gets o.out (arrays_text arrays)

  -- the text that was read ends in a trap within the turns, and out got exactly its text
  abbrev pub WritesTrap : Type 0
  WritesTrap = (t : Trap) × (line : ℕ) × HasRead (answers.Trapped t line) × Gets o.out (trap_text t line)

  -- the text that was read is refused, and err got exactly the refusal's text
  abbrev pub WritesRefusal : Type 0
  WritesRefusal = (r : Refusal) × HasRead (answers.SourceRefused r) × Gets o.err (refusal_text r)

  -- the program of the text that was read spends more turns, and err got exactly the line that says so
  abbrev pub WritesNotWithin : Type 0
  WritesNotWithin = HasRead (answers.NotWithin turns) × Gets o.err (not_within_text turns)

  -- what each status of `serial` says: 0, 1, 2 and 11 come only where the text that was read ends so
  abbrev pub SerialSays : Status → Type 0
  SerialSays statuses.Ended = WritesArrays
  SerialSays statuses.Trapped = WritesTrap
  SerialSays statuses.SourceRefused = WritesRefusal
  SerialSays statuses.NotWithin = WritesNotWithin
  SerialSays status = PortsSay o status

-- The rows of `serial` with so many turns: what each status says; where all goes well, the answer that the text has is written, and of a
-- source whose bytes are known, the one that they have.
pub record SerialRows (turns : ℕ) (o : Ports) (status : Status) : Type 0 where
  pub rows : TextRows text_limit (SerialHas turns) (SerialSays turns o) o status
  pub shown : IsShown (SerialHas turns) o status

-- `serial` is done
abbrev pub IsInterpreted : ℕ → Ports → Status → Type 0
IsInterpreted turns o status = IsDone (SerialMay turns) (SerialRows turns) o status
