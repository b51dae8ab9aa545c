-- The command `check` of a code whose strands may race, and exchange array words: what it says of a text, when it may give each answer, and what
-- follows from each status.
use Rattle.std.specs.Prelude.{◌≡◌, ◌⊎◌, ◌<◌, ◌≤◌, ℕ, List, length, ⊤}
use Rattle.ppm_ports.specs.Ports.{Port, Gets}
use Rattle.ppm_ports.specs.Outside.{Ports}
use Rattle.ppm_gaps.specs.declared.gaps.CapsuleGap.{CapsuleGap}
use Rattle.ppm_gaps.specs.declared.gaps.Gap.{Gap}
use Rattle.ppm_gaps.specs.declared.gaps.Gap.TheVariants as gaps
use Rattle.ppm_gaps.specs.declared.racing.Flaw.{Flaw}
use Rattle.ppm_gaps.specs.declared.racing.Flaw.TheVariants as flaws
use Rattle.ppm_racy.specs.declared.code.RacyParts.{RacyParts}
use Rattle.ppm_racy_gaps.specs.Correct.{IsRestartable}
use Rattle.ppm_racy_gaps.specs.Flaws.{IsFirstRacyFlaw}
use Rattle.ppm_listing_reader.specs.declared.listing_error.Fault.{Fault}
use Rattle.ppm_listing_reader.specs.Limits.{listing_limit}
use Rattle.ppm_listing_reader.specs.ErrorNumbers.{fault_number}
use Rattle.ppm_racy_listing.specs.Correct.{IsRacyListing, IsFirstRacyFault}
use Rattle.ppm_answers.specs.declared.conflict.Conflict.{Conflict as ToldConflict}
use Rattle.ppm_answers.specs.declared.conflict.ListingRefusal.{ListingRefusal}
use Rattle.ppm_answers.specs.declared.gap.Gap.{Gap as ToldGap}
use Rattle.ppm_answers.specs.declared.gap.Gap.TheVariants as told
use Rattle.ppm_answers.specs.declared.answer.Answer.{Answer}
use Rattle.ppm_answers.specs.declared.answer.Answer.TheVariants as answers
use Rattle.ppm_answers.specs.declared.status.Status.{Status}
use Rattle.ppm_answers.specs.declared.status.Status.TheVariants as statuses
use Rattle.ppm_answers.specs.Texts.{accepted_text, conflict_text, gap_text, listing_text}
use Rattle.ppm_answers.specs.Reading.{ReadHas, JudgingMay, AreOne, FrontsDecide}
use Rattle.ppm_answers.specs.Rows.{PortsSay, TextRows, IsShown, IsDone}
use Rattle.ppm_commands.specs.Check.{class_told, conflict_told, IsUnlisted}

-- a gap of the capsule with a number, as an answer tells it
abbrev pub gap_told_in : ℕ → Gap → ToldGap
gap_told_in n (gaps.LeftOut g) =
    told.LeftOut (record { capsule = n; find = g.find; write = g.write; stop = g.stop; class = class_told g.class })
gap_told_in n (gaps.Unbuilt g) = told.Unbuilt (record { capsule = n; write = g.write; stop = g.stop; word = g.word })
gap_told_in n (gaps.OtherBlock g) = told.OtherBlock (record { capsule = n; end = g.other; stop = g.stop })
gap_told_in n (gaps.Hung at) = told.Hung (record { capsule = n; trap = at })

abbrev pub gap_told : CapsuleGap → ToldGap
gap_told g = gap_told_in g.capsule g.gap

-- a flaw of a code as an answer
abbrev pub flaw_answer : Flaw → Answer
flaw_answer (flaws.Conflict c) = answers.Conflicting (conflict_told c)
flaw_answer (flaws.Gap g) = answers.Gapped (gap_told g)

-- the text is the listing of a code that may have exchanges, in so many bytes as a listing may have
pub record IsRacyText (text : List ℕ) (code : RacyParts) : Type 0 where
  pub listed : IsRacyListing text code
  pub short : length text ≤ listing_limit

-- the text is that of a code whose capsules are ordered and filled, though strands race and exchange array words
pub record IsAcceptedRacing (text : List ℕ) : Type 0 where
  pub code : RacyParts
  pub is : IsRacyText text code
  pub restartable : IsRestartable code

-- the text is that of a code with a conflict or a gap, and this answer tells the first flaw: of the least capsule that has one, and there a conflict
-- before a gap; an exchange is a read and a write of array words at one place
pub record IsFlawed (text : List ℕ) (answer : Answer) : Type 0 where
  pub code : RacyParts
  pub is : IsRacyText text code
  pub flaw : Flaw
  pub first : IsFirstRacyFlaw code flaw
  pub tells : answer ≡ flaw_answer flaw

-- the text is that of no code, and this is its first fault: that of a listing with exchanges, or, of a text that is too long, that of a listing
pub data IsRefusedRacing (text : List ℕ) (r : ListingRefusal) : Type 0 where
  NotListed : (rule : Fault) → length text ≤ listing_limit → IsFirstRacyFault text rule r.line → r.number ≡ fault_number rule
      → IsRefusedRacing text r
  TooLong : listing_limit < length text → IsUnlisted text r → IsRefusedRacing text r

-- the answer that a text has where it is checked so
abbrev pub RacingHas : List ℕ → Answer → Type 0
RacingHas text answers.Accepted = IsAcceptedRacing text
RacingHas text (answers.Conflicting c) = IsFlawed text (answers.Conflicting c)
RacingHas text (answers.Gapped g) = IsFlawed text (answers.Gapped g)
RacingHas text (answers.ListingRefused r) = IsRefusedRacing text r
RacingHas text _ = ⊥

-- an answer that a code has, or want of memory
pub record HasFlaw (code : RacyParts) (answer : Answer) : Type 0 where
  pub flaw : Flaw
  pub first : IsFirstRacyFlaw code flaw
  pub tells : answer ≡ flaw_answer flaw

abbrev pub RacingVerdictMay : RacyParts → Answer → Type 0
RacingVerdictMay code answers.Accepted = IsRestartable code
RacingVerdictMay code (answers.Conflicting c) = HasFlaw code (answers.Conflicting c)
RacingVerdictMay code (answers.Gapped g) = HasFlaw code (answers.Gapped g)
RacingVerdictMay code answers.NoMemory = ⊤
RacingVerdictMay code _ = ⊥

-- Two answers of a text are one, and what stands after more bytes than a listing may have changes none. Each text has one: it is refused for its
-- first fault, or its code has a first flaw, or it is accepted.
pub record HaveOneAnswer : Type 0 where
  pub one : AreOne RacingHas
  pub front : FrontsDecide listing_limit RacingHas
  pub some : (text : List ℕ) → ((r : ListingRefusal) → ¬ IsRefusedRacing text r) → ((answer : Answer) → ¬ IsFlawed text answer) → IsAcceptedRacing text

-- the answers of `check` of such a code
abbrev pub RacingCheckMay : Port → Answer → Type 0
RacingCheckMay source answer = JudgingMay listing_limit RacingHas source answer

module _ (o : Ports) where
  -- the text that was read has this answer
  abbrev pub HasRead : Answer → Type 0
  HasRead answer = ReadHas listing_limit RacingHas o.source answer

  -- the text that was read is the listing of a code whose capsules are ordered and filled, and out got exactly `ok`
  abbrev pub WritesOk : Type 0
  WritesOk = HasRead answers.Accepted × Gets o.out accepted_text

  -- the text that was read is the listing of a code whose first flaw is this conflict, and err got exactly its line
  abbrev pub WritesConflict : Type 0
  WritesConflict = (c : ToldConflict) × HasRead (answers.Conflicting c) × Gets o.err (conflict_text c)

  -- the text that was read is the listing of a code whose first flaw is this gap, and err got exactly its line
  abbrev pub WritesGap : Type 0
  WritesGap = (g : ToldGap) × HasRead (answers.Gapped g) × Gets o.err (gap_text g)

  -- the text that was read is no listing, for this first fault, and err got exactly its line
  abbrev pub WritesFault : Type 0
  WritesFault = (r : ListingRefusal) × HasRead (answers.ListingRefused r) × Gets o.err (listing_text r)

  -- what each status says: 0 comes only where a code is accepted, and 10 only where it has a flaw or the text a fault
  abbrev pub RacingCheckSays : Status → Type 0
  RacingCheckSays statuses.Ended = WritesOk
  RacingCheckSays statuses.CodeRefused = WritesConflict ⊎ WritesGap ⊎ WritesFault
  RacingCheckSays status = PortsSay o status

-- The rows of `check` of a code whose strands may race: what each status says; where all goes well, the answer that the text has is written, and of a
-- source whose bytes are known, the one that they have.
pub record RacingCheckRows (o : Ports) (status : Status) : Type 0 where
  pub rows : TextRows listing_limit RacingHas (RacingCheckSays o) o status
  pub shown : IsShown RacingHas o status

-- it is done
abbrev pub IsRacingChecked : Ports → Status → Type 0
IsRacingChecked o status = IsDone RacingCheckMay RacingCheckRows o status
