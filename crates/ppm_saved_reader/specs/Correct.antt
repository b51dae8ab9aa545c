-- What a reader of saved texts answers: the state whose text it is, or the fault of the first wrong line.
use Rattle.std.specs.Prelude.{◌≡◌, ◌<◌, ◌≤◌, ℕ, ◌+◌, true, List, [], length}
use Rattle.ppm_cells.specs.declared.shape.Shape.{Shape}
use Rattle.ppm_cells.specs.declared.shape.Takeover.TheVariants.{ByPlaces}
use Rattle.ppm_code.specs.Code.{IsCode}
use Rattle.ppm_code.specs.Free.{IsFree}
use Rattle.ppm_code.specs.Tidy.{IsTidy}
use Rattle.ppm_code.specs.declared.code.CodeParts.{CodeParts}
use Rattle.ppm_saved.specs.Correct.{StateFits}
use Rattle.ppm_saved.specs.Saved.{IsWhole}
use Rattle.ppm_saved.specs.Names.{lengths_of}
use Rattle.ppm_saved.specs.Runs.{words_of}
use Rattle.ppm_saved.specs.Text.{saved_text}
use Rattle.ppm_saved.specs.declared.names.NamedLength.{NamedLength}
use Rattle.ppm_saved.specs.declared.run.Run.{Run}
use Rattle.ppm_saved_reader.specs.declared.lines.Sizes.{Sizes}
use Rattle.ppm_saved_reader.specs.declared.saved_error.Fault.{Fault}
use Rattle.ppm_saved_reader.specs.declared.saved_error.Fault.TheVariants as fault
use Rattle.ppm_saved_reader.specs.declared.saved_error.SavedError.{SavedError}
use Rattle.ppm_saved_reader.specs.declared.saved_error.SavedError.TheVariants as error
use Rattle.ppm_saved_reader.specs.Rules.{saved_limit, sizes_fit}
use Rattle.ppm_saved_reader.specs.Places.{Place, AtVersion, AtRuns, LeadsTo, IsWrong}

-- a text that is not too long was read up to a place
pub record IsRead (text : List ℕ) (place : Place) (line : ℕ) (rest : List ℕ) : Type 0 where
  pub short : length text ≤ saved_limit
  pub lines : ℕ
  pub leads : LeadsTo AtVersion text lines place rest
  pub counted : line ≡ 1 + lines

-- words are those of all runs of a text that stands at a line, as many as were asked for
pub record AreRunsRead (text : List ℕ) (line count : ℕ) (words : List ℕ) : Type 0 where
  pub runs : List Run
  pub last : ℕ
  pub words_are : words ≡ words_of runs
  pub many : length words ≡ count
  pub leads : (whole : List ℕ) (z : Sizes) (arrays : List NamedLength) (code : CodeParts) → IsRead whole (AtRuns z arrays code []) line text
      → IsRead whole (AtRuns z arrays code runs) last []

-- a text is wrong at a line: reading leads there, and its line breaks a rule, this one the first; or the text is too long, which is a fault of its
-- first line
pub data IsWrongAt (text : List ℕ) : Fault → (line : ℕ) → Type 0 where
  Breaks : {place : Place} {rest : List ℕ} {f : Fault} {line : ℕ} → IsRead text place line rest → IsWrong place rest f → IsWrongAt text f line
  TooLong : saved_limit < length text → IsWrongAt text fault.NoSuchForm 1

-- a refusal is the fault of the text; that memory was refused is none
abbrev pub IsRefusal : List ℕ → SavedError → Type 0
IsRefusal text (error.NoSuchForm line) = IsWrongAt text fault.NoSuchForm line
IsRefusal text (error.OutOfRange line) = IsWrongAt text fault.OutOfRange line
IsRefusal text (error.BadListing line) = IsWrongAt text fault.BadListing line
IsRefusal text (error.BadCode line) = IsWrongAt text fault.BadCode line
IsRefusal text (error.WrongCount line) = IsWrongAt text fault.WrongCount line
IsRefusal text error.NoMemory = Unit {0}

-- the sizes of a shape
abbrev pub sizes_of : Shape → Sizes
sizes_of s = record { processors = s.processors; room = s.room; slots = s.slots }

-- a text is that of a state that may be resumed: within the sizes of `stop`, with takeover by places, and a code that is tidy and has no conflict
pub record IsSavedText (text : List ℕ) (s : Shape) (arrays : List NamedLength) (code : CodeParts) (words : List ℕ) : Type 0 where
  pub sizes : sizes_fit (sizes_of s) ≡ true
  pub by_places : s.takeover ≡ ByPlaces
  pub code_is : IsCode code
  pub whole : IsWhole s arrays (lengths_of arrays) code words
  pub fits : StateFits arrays code words
  pub free : IsFree code
  pub tidy : IsTidy code
  pub same : text ≡ saved_text s arrays code words

-- the text of a state
pub record HasState (text : List ℕ) : Type 0 where
  pub shape : Shape
  pub arrays : List NamedLength
  pub code : CodeParts
  pub words : List ℕ
  pub is : IsSavedText text shape arrays code words

-- The text of a state is wrong nowhere, and so it is not too long; a text that is wrong nowhere is that of a state. It is that of one state, and no
-- text is wrong in two ways.
pub record FaultsTellSavedTexts : Type 0 where
  pub excludes : (text : List ℕ) (s : Shape) (arrays : List NamedLength) (code : CodeParts) (words : List ℕ) (f : Fault) (line : ℕ)
      → IsSavedText text s arrays code words → IsWrongAt text f line → ⊥
  pub covers : (text : List ℕ) → ((f : Fault) (line : ℕ) → IsWrongAt text f line → ⊥) → HasState text
  pub short : (text : List ℕ) (s : Shape) (arrays : List NamedLength) (code : CodeParts) (words : List ℕ) → IsSavedText text s arrays code words
      → length text ≤ saved_limit
  pub one_state : (text : List ℕ) (s t : Shape) (xs ys : List NamedLength) (c d : CodeParts) (ws vs : List ℕ)
      → IsSavedText text s xs c ws → IsSavedText text t ys d vs → (s ≡ t) × (xs ≡ ys) × (c ≡ d) × (ws ≡ vs)
  pub one : (text : List ℕ) (f g : Fault) (line later : ℕ) → IsWrongAt text f line → IsWrongAt text g later → (f ≡ g) × (line ≡ later)
