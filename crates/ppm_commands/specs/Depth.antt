-- The command `depth`: what it says of a text, when it may give each answer, and what follows from each status.
use Rattle.std.specs.Prelude.{◌≡◌, ◌⊎◌, ℕ, List, ◌++◌}
use Rattle.ppm_words.specs.declared.named_array.NamedArray.{NamedArray}
use Rattle.ppm_words.specs.declared.outcome.Outcome.{Outcome}
use Rattle.ppm_words.specs.declared.outcome.Outcome.TheVariants as outcome
use Rattle.ppm_words.specs.declared.trap.Trap.{Trap}
use Rattle.ppm_ports.specs.Ports.{Port, Gets}
use Rattle.ppm_ports.specs.Outside.{Ports}
use Rattle.ppm_code.specs.declared.code.CodeParts.{CodeParts}
use Rattle.ppm_code.specs.Tidy.{IsTidy}
use Rattle.ppm_depth.specs.declared.depth.DepthRun.{DepthRun}
use Rattle.ppm_depth.specs.Run.{IsWithin, IsNotWithin}
use Rattle.ppm_case.specs.Rules.{case_limit}
use Rattle.ppm_answers.specs.declared.case.InputRefusal.{InputRefusal}
use Rattle.ppm_answers.specs.declared.case.UntidyStore.{UntidyStore}
use Rattle.ppm_answers.specs.declared.conflict.ListingRefusal.{ListingRefusal}
use Rattle.ppm_answers.specs.declared.counts.Counts.{Counts}
use Rattle.ppm_answers.specs.declared.answer.Answer.{Answer}
use Rattle.ppm_answers.specs.declared.answer.Answer.TheVariants as answers
use Rattle.ppm_answers.specs.declared.status.Status.{Status}
use Rattle.ppm_answers.specs.declared.status.Status.TheVariants as statuses
use Rattle.ppm_answers.specs.Texts.{arrays_text, trap_text, counts_text, untidy_text, input_text, listing_text, not_within_capsules_text}
use Rattle.ppm_answers.specs.Reading.{ReadHas, JudgingMay, AreOne, FrontsDecide}
use Rattle.ppm_answers.specs.Rows.{PortsSay, TextRows, IsShown, IsDone}
use Rattle.ppm_commands.specs.Cases.{HasOfCase, MayOf}
use Rattle.ppm_loading.specs.Telling.{counts_told, GoesOn, IsUntidy}

-- a tidy code, run depth first from the input, comes within so many capsules to this, with these counts
pub record EndsWithin (capsules : ℕ) (code : CodeParts) (input : List NamedArray) (o : Outcome) (k : Counts) : Type 0 where
  pub tidy : IsTidy code
  pub run : DepthRun
  pub within : IsWithin code input capsules run
  pub outcome : run.outcome ≡ o
  pub counts : k ≡ counts_told run

-- the answer that a case has where it is run depth first for so many capsules
abbrev pub DepthOf : ℕ → CodeParts → List NamedArray → Answer → Type 0
DepthOf capsules code input (answers.Counted arrays k) = EndsWithin capsules code input (outcome.Ended arrays) k
DepthOf capsules code input (answers.TrappedAfter t line k) = EndsWithin capsules code input (outcome.Trapped t line) k
DepthOf capsules code input (answers.NotWithinCapsules n) = (n ≡ capsules) × GoesOn capsules code input
DepthOf capsules code input (answers.Untidy u) = IsUntidy code input u
DepthOf capsules code input _ = ⊥

-- the answer of a run within so many capsules
abbrev pub answer_by : (capsules : ℕ) → Outcome → Counts → Answer
answer_by capsules (outcome.Ended arrays) k = answers.Counted arrays k
answer_by capsules (outcome.Trapped t line) k = answers.TrappedAfter t line k
answer_by capsules outcome.NotWithin k = answers.NotWithinCapsules capsules

abbrev pub run_answer : (capsules : ℕ) → DepthRun → Answer
run_answer capsules run = answer_by capsules run.outcome (counts_told run)

-- the answers of a case, and want of memory
abbrev pub DepthMayOf : ℕ → CodeParts → List NamedArray → Answer → Type 0
DepthMayOf capsules = MayOf (DepthOf capsules)

-- the answer that a text has
abbrev pub DepthHas : ℕ → List ℕ → Answer → Type 0
DepthHas capsules = HasOfCase (DepthOf capsules)

-- Within each number of capsules two answers of a text are one, and what stands after more bytes than a case may have changes none. A text that is
-- not refused for a fault or a store that is not tidy has one: its run comes to an end, or takes more capsules.
pub record HasOneAnswer (capsules : ℕ) : Type 0 where
  pub one : AreOne (DepthHas capsules)
  pub front : FrontsDecide case_limit (DepthHas capsules)
  pub some : (text : List ℕ) → ((r : InputRefusal) → ¬ DepthHas capsules text (answers.InputRefused r))
      → ((r : ListingRefusal) → ¬ DepthHas capsules text (answers.ListingRefused r))
      → ((u : UntidyStore) → ¬ DepthHas capsules text (answers.Untidy u)) → (a : Answer) × DepthHas capsules text a

-- `depth` has one answer, whatever the number of capsules
abbrev pub HaveOneAnswer : Type 0
HaveOneAnswer = (capsules : ℕ) → HasOneAnswer capsules

-- the answers of `depth` with so many capsules
abbrev pub DepthMay : ℕ → Port → Answer → Type 0
DepthMay capsules source answer = JudgingMay case_limit (DepthHas capsules) source answer

module _ (capsules : ℕ) (o : Ports) where
  -- the text that was read has this answer within so many capsules
  abbrev pub HasRead : Answer → Type 0
  HasRead answer = ReadHas case_limit (DepthHas capsules) o.source answer

  -- the case that was read ends with arrays within the capsules, and out got exactly their text and the counts
  abbrev pub WritesArrays : Type 0
  WritesArrays = (arrays : List NamedArray) × (k : Counts) × HasRead (answers.Counted arrays k) × Gets o.out (arrays_text arrays ++ counts_text k)

  -- the case that was read ends in a trap within the capsules, and out got exactly its text and the counts
  abbrev pub WritesTrap : Type 0
  WritesTrap = (t : Trap) × (line : ℕ) × (k : Counts) × HasRead (answers.TrappedAfter t line k) × Gets o.out (trap_text t line ++ counts_text k)

  -- the code that was read has a store that is not tidy, and err got exactly the line of the first
  abbrev pub WritesUntidy : Type 0
  WritesUntidy = (u : UntidyStore) × HasRead (answers.Untidy u) × Gets o.err (untidy_text u)

  -- the text that was read is of no case, for a fault of its arrays or its root, and err got exactly its line
  abbrev pub WritesInputFault : Type 0
  WritesInputFault = (r : InputRefusal) × HasRead (answers.InputRefused r) × Gets o.err (input_text r)

  -- or for a fault of its listing
  abbrev pub WritesListingFault : Type 0
  WritesListingFault = (r : ListingRefusal) × HasRead (answers.ListingRefused r) × Gets o.err (listing_text r)

  -- the case that was read takes more capsules, and err got exactly the line that says so
  abbrev pub WritesNotWithin : Type 0
  WritesNotWithin = HasRead (answers.NotWithinCapsules capsules) × Gets o.err (not_within_capsules_text capsules)

  -- what each status of `depth` says: 0, 1, 10 and 11 come only where the text that was read ends so, or is refused
  abbrev pub DepthSays : Status → Type 0
  DepthSays statuses.Ended = WritesArrays
  DepthSays statuses.Trapped = WritesTrap
  DepthSays statuses.CodeRefused = WritesUntidy ⊎ WritesInputFault ⊎ WritesListingFault
  DepthSays statuses.NotWithin = WritesNotWithin
  DepthSays status = PortsSay o status

-- The rows of `depth` with so many capsules: what each status says; where all goes well, the answer that the text has is written, and of a
-- source whose bytes are known, the one that they have.
pub record DepthRows (capsules : ℕ) (o : Ports) (status : Status) : Type 0 where
  pub rows : TextRows case_limit (DepthHas capsules) (DepthSays capsules o) o status
  pub shown : IsShown (DepthHas capsules) o status

-- `depth` is done
abbrev pub IsRunDepthFirst : ℕ → Ports → Status → Type 0
IsRunDepthFirst capsules o status = IsDone (DepthMay capsules) (DepthRows capsules) o status
