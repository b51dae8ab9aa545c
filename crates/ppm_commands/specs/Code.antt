-- The command `code`: what it says of a text, when it may give each answer, and what follows from each status.
use Rattle.std.specs.Prelude.{◌≡◌, ℕ, List, ⊤}
use Rattle.ppm_words.specs.declared.named_array.NamedArray.{NamedArray}
use Rattle.ppm_ports.specs.Ports.{Port, Gets}
use Rattle.ppm_ports.specs.Outside.{Ports}
use Rattle.ppm_text.specs.Limits.{text_limit}
use Rattle.ppm_code.specs.Code.{IsCode}
use Rattle.ppm_code.specs.Tidy.{IsTidy}
use Rattle.ppm_war.specs.Conflicts.{IsFree}
use Rattle.ppm_depth.specs.Sound.{IsSound}
use Rattle.ppm_listing.specs.Listing.{listing_of}
use Rattle.ppm_listing.specs.Correct.{NumbersFit}
use Rattle.ppm_tree.specs.Tree.{ProgramTree}
use Rattle.ppm_cut_code.specs.Inputs.{IsInputOf}
use Rattle.ppm_cut_code.specs.Routines.{code_of}
use Rattle.ppm_cut_correct.specs.Correct.{EndsAsMeant}
use Rattle.ppm_program.specs.Programs.{HasProgram}
use Rattle.ppm_program.specs.Refusals.{IsRefusal}
use Rattle.ppm_answers.specs.declared.refusal.Refusal.{Refusal}
use Rattle.ppm_answers.specs.declared.answer.Answer.{Answer}
use Rattle.ppm_answers.specs.declared.answer.Answer.TheVariants as answers
use Rattle.ppm_answers.specs.declared.status.Status.{Status}
use Rattle.ppm_answers.specs.declared.status.Status.TheVariants as statuses
use Rattle.ppm_answers.specs.Texts.{refusal_text}
use Rattle.ppm_answers.specs.Reading.{ReadHas, JudgingMay, AreOne, FrontsDecide}
use Rattle.ppm_answers.specs.Rows.{PortsSay, JudgedRows, IsShown, IsDone}
use Rattle.ppm_commands.specs.Check.{CheckHas}

-- the text has a program, and this is the listing of its code
pub record HasListing (text listing : List ℕ) : Type 0 where
  pub tree : ProgramTree
  pub program : HasProgram text tree
  pub listed : listing ≡ listing_of (code_of tree)

-- the answer that a text has where its code is listed
abbrev pub CodeHas : List ℕ → Answer → Type 0
CodeHas text (answers.Listed listing) = HasListing text listing
CodeHas text (answers.SourceRefused r) = IsRefusal text r
CodeHas text _ = ⊥

-- it is so, and the numbers of this code fit 64 bits
pub record ListsCode (text listing : List ℕ) : Type 0 where
  pub lists : HasListing text listing
  pub fits : NumbersFit (code_of lists.tree)

-- the answer of the text that was read: of a code in memory it is known that its numbers fit
abbrev pub CodeReads : List ℕ → Answer → Type 0
CodeReads text (answers.Listed listing) = ListsCode text listing
CodeReads text (answers.SourceRefused r) = IsRefusal text r
CodeReads text _ = ⊥

-- the answers of a program whose code is listed; and memory can always be refused
abbrev pub ProgramMay : ProgramTree → Answer → Type 0
ProgramMay t (answers.Listed listing) = (listing ≡ listing_of (code_of t)) × NumbersFit (code_of t)
ProgramMay t answers.NoMemory = ⊤
ProgramMay t _ = ⊥

-- Two answers of a text are one, and what stands after more bytes than a text may have changes none. Each text has one: it is refused, or
-- its code is listed.
pub record HaveOneAnswer : Type 0 where
  pub one : AreOne CodeHas
  pub front : FrontsDecide text_limit CodeHas
  pub some : (text : List ℕ) → ((r : Refusal) → ¬ IsRefusal text r) → (a : Answer) × CodeHas text a

-- What is true of the code of a program: it keeps all rules of a code; no path through a capsule of it has a write-after-read conflict, so
-- that each may be stopped anywhere and begun again; it is tidy; with every input for the program's arrays no two branches of a fork race;
-- and from each the code, run depth first, ends as the program does.
pub record IsFaithful (t : ProgramTree) : Type 0 where
  pub rules : IsCode (code_of t)
  pub free : IsFree (code_of t)
  pub tidy : IsTidy (code_of t)
  pub sound : (input : List NamedArray) → IsInputOf t input → IsSound (code_of t) input
  pub ends_as_meant : (input : List NamedArray) → IsInputOf t input → EndsAsMeant t input

-- the code of each text's program is true to it
abbrev pub CodesAreFaithful : Type 0
CodesAreFaithful = (text : List ℕ) (t : ProgramTree) → HasProgram text t → IsFaithful t

-- the answers of `code`
abbrev pub CodeMay : Port → Answer → Type 0
CodeMay source answer = JudgingMay text_limit CodeReads source answer

-- the text that was read has this answer
abbrev pub HasRead : Port → Answer → Type 0
HasRead source answer = ReadHas text_limit CodeReads source answer

-- The text that was read has a program, and out got exactly the listing of its code. What is in the last two fields are laws of all such listings:
-- `check` accepts the listing, and the code is faithful, so it is tidy, sound with every input, and ends as the program does.
pub record WritesListing (o : Ports) : Type 0 where
  pub listing : List ℕ
  pub read : HasRead o.source (answers.Listed listing)
  pub gets : Gets o.out listing
  pub accepted : CheckHas listing answers.Accepted
  pub faithful : IsFaithful read.2.lists.tree

-- the text that was read is refused, and err got exactly the refusal's text
abbrev pub WritesRefusal : Ports → Type 0
WritesRefusal o = (r : Refusal) × HasRead o.source (answers.SourceRefused r) × Gets o.err (refusal_text r)

-- what each status of `code` says: 0 and 2 come only where the text that was read has a code or is refused
abbrev pub CodeSays : Ports → Status → Type 0
CodeSays o statuses.Ended = WritesListing o
CodeSays o statuses.SourceRefused = WritesRefusal o
CodeSays o status = PortsSay o status

-- The rows of `code`: what each status says; where all goes well, the answer that the text has is written, and of a source whose bytes are
-- known, the one that they have.
pub record CodeRows (o : Ports) (status : Status) : Type 0 where
  pub rows : JudgedRows HasRead CodeHas (CodeSays o) o status
  pub shown : IsShown CodeHas o status

-- `code` is done
abbrev pub IsListed : Ports → Status → Type 0
IsListed o status = IsDone CodeMay CodeRows o status
