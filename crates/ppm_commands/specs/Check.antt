-- The command `check`: what it says of a text, when it may give each answer, and what follows from each status.
use Rattle.std.specs.Prelude.{◌≡◌, ◌⊎◌, ℕ, List}
use Rattle.ppm_ports.specs.Ports.{Port, Gets}
use Rattle.ppm_ports.specs.Outside.{Ports}
use Rattle.ppm_code.specs.declared.class.Class.{Class}
use Rattle.ppm_code.specs.declared.class.Class.TheVariants as class
use Rattle.ppm_code.specs.declared.code.CodeParts.{CodeParts}
use Rattle.ppm_war.specs.declared.checked.Conflict.{Conflict}
use Rattle.ppm_war.specs.Conflicts.{IsFree, IsFirstConflictOf}
use Rattle.ppm_listing_reader.specs.declared.listing_error.Fault.{Fault}
use Rattle.ppm_listing_reader.specs.declared.listing_error.ListingError.{ListingError}
use Rattle.ppm_listing_reader.specs.declared.listing_error.ListingError.TheVariants as error
use Rattle.ppm_listing_reader.specs.Limits.{listing_limit}
use Rattle.ppm_listing_reader.specs.ErrorNumbers.{fault_number, number_of, line_of}
use Rattle.ppm_listing_reader.specs.Correct.{IsListing, IsFirstFault}
use Rattle.ppm_answers.specs.declared.conflict.Class.{Class as ToldClass}
use Rattle.ppm_answers.specs.declared.conflict.Class.TheVariants as told
use Rattle.ppm_answers.specs.declared.conflict.Conflict.{Conflict as ToldConflict}
use Rattle.ppm_answers.specs.declared.conflict.ListingRefusal.{ListingRefusal}
use Rattle.ppm_answers.specs.declared.answer.Answer.{Answer}
use Rattle.ppm_answers.specs.declared.answer.Answer.TheVariants as answers
use Rattle.ppm_answers.specs.declared.status.Status.{Status}
use Rattle.ppm_answers.specs.declared.status.Status.TheVariants as statuses
use Rattle.ppm_answers.specs.Texts.{accepted_text, conflict_text, listing_text}
use Rattle.ppm_answers.specs.Reading.{ReadHas, JudgingMay, AreOne, FrontsDecide}
use Rattle.ppm_answers.specs.Rows.{PortsSay, TextRows, IsShown, IsDone}

-- a class as an answer tells it
abbrev pub class_told : Class → ToldClass
class_told (class.Slot slot) = told.Cur slot
class_told (class.New word) = told.New word
class_told class.Value = told.Value
class_told class.Room = told.Room
class_told class.Array = told.Array

-- a conflict as an answer tells it
abbrev pub conflict_told : Conflict → ToldConflict
conflict_told c = record { capsule = c.capsule; read_at = c.read_at; write_at = c.write_at; class = class_told c.class }

-- the text is the listing of a code without conflicts: no path through a capsule has one
pub record IsAccepted (text : List ℕ) : Type 0 where
  pub code : CodeParts
  pub listed : IsListing text code
  pub free : IsFree code

-- the text is the listing of a code with conflicts, and this is the first: of the least capsule, there the least read, then the least write
pub record IsConflicting (text : List ℕ) (told : ToldConflict) : Type 0 where
  pub code : CodeParts
  pub listed : IsListing text code
  pub conflict : Conflict
  pub first : IsFirstConflictOf code conflict
  pub tells : told ≡ conflict_told conflict

-- the text is no listing, and this is the first fault: at the least line, and there of the least number
pub record IsUnlisted (text : List ℕ) (r : ListingRefusal) : Type 0 where
  pub rule : Fault
  pub first : IsFirstFault text rule r.line
  pub number : r.number ≡ fault_number rule

-- the answer that a text has where it is checked
abbrev pub CheckHas : List ℕ → Answer → Type 0
CheckHas text answers.Accepted = IsAccepted text
CheckHas text (answers.Conflicting c) = IsConflicting text c
CheckHas text (answers.ListingRefused r) = IsUnlisted text r
CheckHas text _ = ⊥

-- the answer that a code has
abbrev pub VerdictOf : CodeParts → Answer → Type 0
VerdictOf code answers.Accepted = IsFree code
VerdictOf code (answers.Conflicting c) = (conflict : Conflict) × IsFirstConflictOf code conflict × (c ≡ conflict_told conflict)
VerdictOf code _ = ⊥

-- a fault of a listing as an answer
abbrev pub listing_refused : ListingError → Answer
listing_refused e = answers.ListingRefused (record { number = number_of e; line = line_of e })

-- and want of memory, which is none
abbrev pub error_answer : ListingError → Answer
error_answer error.NoMemory = answers.NoMemory
error_answer (error.NoSuchForm line) = listing_refused (error.NoSuchForm line)
error_answer (error.OutOfRange line) = listing_refused (error.OutOfRange line)
error_answer (error.NotForward line) = listing_refused (error.NotForward line)
error_answer (error.NoEnd line) = listing_refused (error.NoEnd line)
error_answer (error.WrongRoom line) = listing_refused (error.WrongRoom line)
error_answer (error.NotThere line) = listing_refused (error.NotThere line)

-- Two answers of a text are one, and what stands after more bytes than a listing may have changes none. Each text has one: it is refused
-- for its first fault, or its code has a first conflict, or it is accepted.
pub record HaveOneAnswer : Type 0 where
  pub one : AreOne CheckHas
  pub front : FrontsDecide listing_limit CheckHas
  pub some : (text : List ℕ) → ((r : ListingRefusal) → ¬ IsUnlisted text r) → ((c : ToldConflict) → ¬ IsConflicting text c) → IsAccepted text

-- the answers of `check`
abbrev pub CheckMay : Port → Answer → Type 0
CheckMay source answer = JudgingMay listing_limit CheckHas source answer

module _ (o : Ports) where
  -- the text that was read has this answer
  abbrev pub HasRead : Answer → Type 0
  HasRead answer = ReadHas listing_limit CheckHas o.source answer

  -- the text that was read is the listing of a code without conflicts, and out got exactly `ok`
  abbrev pub WritesOk : Type 0
  WritesOk = HasRead answers.Accepted × Gets o.out accepted_text

  -- the text that was read is the listing of a code with this first conflict, and err got exactly its line
  abbrev pub WritesConflict : Type 0
  WritesConflict = (c : ToldConflict) × HasRead (answers.Conflicting c) × Gets o.err (conflict_text c)

  -- the text that was read is no listing, for this first fault, and err got exactly its line
  abbrev pub WritesFault : Type 0
  WritesFault = (r : ListingRefusal) × HasRead (answers.ListingRefused r) × Gets o.err (listing_text r)

  -- what each status of `check` says: 0 comes only where a code is accepted, and 10 only where it has a conflict or the text a fault
  abbrev pub CheckSays : Status → Type 0
  CheckSays statuses.Ended = WritesOk
  CheckSays statuses.CodeRefused = WritesConflict ⊎ WritesFault
  CheckSays status = PortsSay o status

-- The rows of `check`: what each status says; where all goes well, the answer that the text has is written, and of a source whose bytes are
-- known, the one that they have.
pub record CheckRows (o : Ports) (status : Status) : Type 0 where
  pub rows : TextRows listing_limit CheckHas (CheckSays o) o status
  pub shown : IsShown CheckHas o status

-- `check` is done
abbrev pub IsChecked : Ports → Status → Type 0
IsChecked o status = IsDone CheckMay CheckRows o status
