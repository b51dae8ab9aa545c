-- The command `races`: what it says of a text, when it may give each answer, and what follows from each status.
use Rattle.std.specs.Prelude.{◌≡◌, ◌<◌, ◌⊎◌, ℕ, ◌+◌, Bool, true, false, List, ◌∷◌, ◌++◌, length}
use Rattle.ppm_words.specs.declared.named_array.NamedArray.{NamedArray}
use Rattle.ppm_words.specs.Inputs.{value_count}
use Rattle.ppm_ports.specs.Ports.{Port, Gets}
use Rattle.ppm_ports.specs.Outside.{Ports}
use Rattle.ppm_code.specs.declared.code.CodeParts.{CodeParts}
use Rattle.ppm_war.specs.declared.checked.Conflict.{Conflict}
use Rattle.ppm_war.specs.Conflicts.{IsFree, IsFirstConflictOf}
use Rattle.ppm_depth.specs.declared.depth.DepthRun.{DepthRun}
use Rattle.ppm_depth.specs.Run.{IsWithin}
use Rattle.ppm_depth.specs.Sound.{IsSound}
use Rattle.ppm_races.specs.declared.race.Opener.{Opener}
use Rattle.ppm_races.specs.declared.race.Race.{Race}
use Rattle.ppm_races.specs.declared.race.Touching.{Touching}
use Rattle.ppm_races.specs.declared.race.Visit.{Visit}
use Rattle.ppm_races.specs.declared.judging.Verdict.TheVariants as verdict
use Rattle.ppm_races.specs.Verdicts.{IsVerdict}
use Rattle.ppm_case.specs.Rules.{case_limit}
use Rattle.ppm_answers.specs.declared.case.InputRefusal.{InputRefusal}
use Rattle.ppm_answers.specs.declared.case.UntidyStore.{UntidyStore}
use Rattle.ppm_answers.specs.declared.conflict.Conflict.{Conflict as ToldConflict}
use Rattle.ppm_answers.specs.declared.conflict.ListingRefusal.{ListingRefusal}
use Rattle.ppm_answers.specs.declared.counts.Counts.{Counts}
use Rattle.ppm_answers.specs.declared.race.Opener.{Opener as ToldOpener}
use Rattle.ppm_answers.specs.declared.race.Race.{Race as ToldRace}
use Rattle.ppm_answers.specs.declared.race.Touch.{Touch}
use Rattle.ppm_answers.specs.declared.race.Touch.TheVariants as touch
use Rattle.ppm_answers.specs.declared.race.Touching.{Touching as ToldTouching}
use Rattle.ppm_answers.specs.declared.race.Visit.{Visit as ToldVisit}
use Rattle.ppm_answers.specs.declared.answer.Answer.{Answer}
use Rattle.ppm_answers.specs.declared.answer.Answer.TheVariants as answers
use Rattle.ppm_answers.specs.declared.status.Status.{Status}
use Rattle.ppm_answers.specs.declared.status.Status.TheVariants as statuses
use Rattle.ppm_answers.specs.Texts.{sound_text, race_text, conflict_at_text, untidy_text, input_text, listing_text, not_within_capsules_text}
use Rattle.ppm_answers.specs.Reading.{ReadHas, JudgingMay, AreOne, FrontsDecide}
use Rattle.ppm_answers.specs.Rows.{PortsSay, TextRows, IsShown, IsDone}
use Rattle.ppm_commands.specs.declared.race.Cell.{Cell}
use Rattle.ppm_commands.specs.Check.{conflict_told}
use Rattle.ppm_commands.specs.Cases.{HasOfCase, MayOf}
use Rattle.ppm_loading.specs.Telling.{line_at, counts_told, IsUntidy, MayBeRun}

-- arrays lie one after the other: the word with an address is that with an index in the array of a name
pub record IsWordOf (input : List NamedArray) (word : ℕ) (name : List ℕ) (index : ℕ) : Type 0 where
  pub front : List NamedArray
  pub array : NamedArray
  pub rest : List NamedArray
  pub all : input ≡ front ++ (array ∷ rest)
  pub address : word ≡ value_count front + index
  pub inside : index < length array.values
  pub name_is : name ≡ array.name

-- the cell has the array's number and the index in it
pub record IsAt (input : List NamedArray) (word : ℕ) (cell : Cell) : Type 0 where
  pub front : List NamedArray
  pub array : NamedArray
  pub rest : List NamedArray
  pub all : input ≡ front ++ (array ∷ rest)
  pub number : cell.array ≡ length front
  pub address : word ≡ value_count front + cell.index
  pub inside : cell.index < length array.values

-- a touch as an answer tells it
abbrev pub touch_told : (writes : Bool) → Touch
touch_told true = touch.Write
touch_told false = touch.Read

-- the capsules of a race as an answer tells them, and the instruction with its line
abbrev pub opener_told : Opener → ToldOpener
opener_told o = record { run = o.run; capsule = o.capsule }

abbrev pub visit_told : Visit → ToldVisit
visit_told v = record { run = v.run; capsule = v.capsule; touch = touch_told v.writes }

abbrev pub touching_told : (arrays : ℕ) → CodeParts → Touching → ToldTouching
touching_told arrays code t =
    record { run = t.run; capsule = t.capsule; at = t.at; line = line_at arrays code t.capsule t.at; touch = touch_told t.writes }

-- a race as an answer tells it
pub record TellsRace (code : CodeParts) (input : List NamedArray) (race : Race) (told : ToldRace) : Type 0 where
  pub word : IsWordOf input race.word told.array told.index
  pub fork : told.fork ≡ opener_told race.fork
  pub left : told.left ≡ visit_told race.left
  pub right : told.right ≡ touching_told (length input) code race.right

-- the code and the input are sound, and the depth-first run ends within so many capsules, with these counts
pub record IsSoundWithin (capsules : ℕ) (code : CodeParts) (input : List NamedArray) (k : Counts) : Type 0 where
  pub sound : IsSound code input
  pub run : DepthRun
  pub within : IsWithin code input capsules run
  pub counts : k ≡ counts_told run

-- they are not, since two branches of a fork race, and this is the first race of the depth-first run, within so many capsules
pub record IsRacedWithin (capsules : ℕ) (code : CodeParts) (input : List NamedArray) (told : ToldRace) : Type 0 where
  pub may : MayBeRun code
  pub race : Race
  pub first : IsVerdict code input capsules (verdict.Races race)
  pub tells : TellsRace code input race told

-- the depth-first run takes more capsules, and in the first so many no two branches meet
pub record IsCalmSoFar (capsules : ℕ) (code : CodeParts) (input : List NamedArray) : Type 0 where
  pub may : MayBeRun code
  pub more : IsVerdict code input capsules verdict.NotWithin

-- the code has conflicts, and this is the first, with the lines of its read and its write
pub record HasConflict (code : CodeParts) (input : List NamedArray) (told : ToldConflict) (read write : ℕ) : Type 0 where
  pub conflict : Conflict
  pub first : IsFirstConflictOf code conflict
  pub tells : told ≡ conflict_told conflict
  pub read_line : read ≡ line_at (length input) code conflict.capsule conflict.read_at
  pub write_line : write ≡ line_at (length input) code conflict.capsule conflict.write_at

-- the answer of a code with this conflict
abbrev pub conflict_answer : (arrays : ℕ) → CodeParts → Conflict → Answer
conflict_answer arrays code c =
    answers.ConflictingAt (conflict_told c) (line_at arrays code c.capsule c.read_at) (line_at arrays code c.capsule c.write_at)

-- the answer that a case has where its races are sought for so many capsules
abbrev pub RacesOf : ℕ → CodeParts → List NamedArray → Answer → Type 0
RacesOf capsules code input (answers.Sound k) = IsSoundWithin capsules code input k
RacesOf capsules code input (answers.Raced r) = IsRacedWithin capsules code input r
RacesOf capsules code input (answers.NotWithinCapsules n) = (n ≡ capsules) × IsCalmSoFar capsules code input
RacesOf capsules code input (answers.ConflictingAt c read write) = HasConflict code input c read write
RacesOf capsules code input (answers.Untidy u) = IsFree code × IsUntidy code input u
RacesOf capsules code input _ = ⊥

-- the answers of a case, and want of memory
abbrev pub RacesMayOf : ℕ → CodeParts → List NamedArray → Answer → Type 0
RacesMayOf capsules = MayOf (RacesOf capsules)

-- the answer that a text has
abbrev pub RacesHas : ℕ → List ℕ → Answer → Type 0
RacesHas capsules = HasOfCase (RacesOf capsules)

-- Within each number of capsules two answers of a text are one, and what stands after more bytes than a case may have changes none. A text that is
-- not refused for a fault, a conflict or a store that is not tidy has one: it is sound, has a race, or takes more capsules.
pub record HasOneAnswer (capsules : ℕ) : Type 0 where
  pub one : AreOne (RacesHas capsules)
  pub front : FrontsDecide case_limit (RacesHas capsules)
  pub some : (text : List ℕ) → ((r : InputRefusal) → ¬ RacesHas capsules text (answers.InputRefused r))
      → ((r : ListingRefusal) → ¬ RacesHas capsules text (answers.ListingRefused r))
      → ((c : ToldConflict) (read write : ℕ) → ¬ RacesHas capsules text (answers.ConflictingAt c read write))
      → ((u : UntidyStore) → ¬ RacesHas capsules text (answers.Untidy u)) → (a : Answer) × RacesHas capsules text a

-- `races` has one answer, whatever the number of capsules
abbrev pub HaveOneAnswer : Type 0
HaveOneAnswer = (capsules : ℕ) → HasOneAnswer capsules

-- the answers of `races` with so many capsules
abbrev pub RacesMay : ℕ → Port → Answer → Type 0
RacesMay capsules source answer = JudgingMay case_limit (RacesHas capsules) source answer

module _ (capsules : ℕ) (o : Ports) where
  -- the text that was read has this answer within so many capsules
  abbrev pub HasRead : Answer → Type 0
  HasRead answer = ReadHas case_limit (RacesHas capsules) o.source answer

  -- the text that was read is of a sound code and input, and out got exactly the line of the counts
  pub record WritesSound : Type 0 where
    pub counts : Counts
    pub read : HasRead (answers.Sound counts)
    pub sound : IsSound read.2.0.code read.2.0.input
    pub gets : Gets o.out (sound_text counts)

  -- they are not sound, and err got exactly the lines of the first race
  pub record WritesRace : Type 0 where
    pub race : ToldRace
    pub read : HasRead (answers.Raced race)
    pub unsound : IsSound read.2.0.code read.2.0.input → ⊥
    pub gets : Gets o.err (race_text race)

  -- they are not, since the code has a conflict, and err got exactly the line of the first
  pub record WritesConflict : Type 0 where
    pub conflict : ToldConflict
    pub read_line : ℕ
    pub write_line : ℕ
    pub read : HasRead (answers.ConflictingAt conflict read_line write_line)
    pub unsound : IsSound read.2.0.code read.2.0.input → ⊥
    pub gets : Gets o.err (conflict_at_text conflict read_line write_line)

  -- they are not, since a store of the code is not tidy, and err got exactly the line of the first
  pub record WritesUntidy : Type 0 where
    pub store : UntidyStore
    pub read : HasRead (answers.Untidy store)
    pub unsound : IsSound read.2.0.code read.2.0.input → ⊥
    pub gets : Gets o.err (untidy_text store)

  -- the text that was read is of no case, for a fault of its arrays or its root, and err got exactly its line
  abbrev pub WritesInputFault : Type 0
  WritesInputFault = (r : InputRefusal) × HasRead (answers.InputRefused r) × Gets o.err (input_text r)

  -- or for a fault of its listing
  abbrev pub WritesListingFault : Type 0
  WritesListingFault = (r : ListingRefusal) × HasRead (answers.ListingRefused r) × Gets o.err (listing_text r)

  -- the case that was read takes more capsules, and err got exactly the line that says so
  abbrev pub WritesNotWithin : Type 0
  WritesNotWithin = HasRead (answers.NotWithinCapsules capsules) × Gets o.err (not_within_capsules_text capsules)

  -- what each status of `races` says: 0 comes only of a sound code and input, 10 only where they are not sound or the text is of no case
  abbrev pub RacesSays : Status → Type 0
  RacesSays statuses.Ended = WritesSound
  RacesSays statuses.CodeRefused = WritesRace ⊎ WritesConflict ⊎ WritesUntidy ⊎ WritesInputFault ⊎ WritesListingFault
  RacesSays statuses.NotWithin = WritesNotWithin
  RacesSays status = PortsSay o status

-- The rows of `races` with so many capsules: what each status says; where all goes well, the answer that the text has is written, and of a
-- source whose bytes are known, the one that they have.
pub record RacesRows (capsules : ℕ) (o : Ports) (status : Status) : Type 0 where
  pub rows : TextRows case_limit (RacesHas capsules) (RacesSays capsules o) o status
  pub shown : IsShown (RacesHas capsules) o status

-- `races` is done
abbrev pub AreSought : ℕ → Ports → Status → Type 0
AreSought capsules o status = IsDone (RacesMay capsules) (RacesRows capsules) o status
