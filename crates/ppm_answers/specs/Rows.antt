-- Words in which the rows of a command are said: what follows from each status.
use Rattle.std.specs.Prelude.{◌≡◌, ◌≢◌, ◌⊎◌, ℕ, List, [], ◌∷◌, Some, ⊤}
use Rattle.ppm_ports.specs.Ports.{Port, Fails}
use Rattle.ppm_ports.specs.Outside.{Ports}
use Rattle.ppm_answers.specs.declared.answer.Answer.{Answer}
use Rattle.ppm_answers.specs.declared.answer.Answer.TheVariants as answers
use Rattle.ppm_answers.specs.declared.status.Status.{Status}
use Rattle.ppm_answers.specs.declared.status.Status.TheVariants as statuses
use Rattle.ppm_answers.specs.Delivery.{IsWritten}
use Rattle.ppm_answers.specs.Reading.{IsUnread, ReadHas, DeliversAnswer}

-- the status is one of these
abbrev pub IsOneOf : Status → List Status → Type 0
IsOneOf status [] = ⊥
IsOneOf status (s ∷ others) = (status ≡ s) ⊎ IsOneOf status others

-- no port failed, and memory was there
pub record GoesWell (o : Ports) (status : Status) : Type 0 where
  pub source_holds : ¬ Fails o.source
  pub out_holds : ¬ Fails o.out
  pub err_holds : ¬ Fails o.err
  pub memory : status ≢ statuses.NoMemory

-- the status is none of faults and of want of memory: something was judged, and its answer is written
pub record IsJudged (status : Status) : Type 0 where
  pub no_read_fault : status ≢ statuses.ReadFault
  pub no_write_fault : status ≢ statuses.WriteFault
  pub memory : status ≢ statuses.NoMemory

-- what the statuses say that every command has: 7 that the source failed, 8 that out or err did, 9 nothing, since want of memory is free. A
-- command's own table of statuses ends with these, and so with the others, which never come.
abbrev pub PortsSay : Ports → Status → Type 0
PortsSay o statuses.ReadFault = Fails o.source
PortsSay o statuses.WriteFault = Fails o.out ⊎ Fails o.err
PortsSay o statuses.NoMemory = ⊤
PortsSay o status = ⊥

-- The rows of a command, where `Reads` says that an answer is that of what the source gave, `Has` that a text has it, and `Says` is its
-- table of statuses, a sentence each. Where all goes well, something is judged; its answer is written, with its status; and of a source
-- whose bytes are known, an answer that they have.
pub record JudgedRows (Reads : Port → Answer → Type 0) (Has : List ℕ → Answer → Type 0) (Says : Status → Type 0) (o : Ports) (status : Status)
    : Type 0 where
  pub says : Says status
  pub judged : GoesWell o status → IsJudged status
  pub written : IsJudged status → (answer : Answer) × Reads o.source answer × IsWritten o.out o.err answer status
  pub known : (all : List ℕ) → o.source.before ≡ Some all → GoesWell o status
      → (answer : Answer) × Has all answer × IsWritten o.out o.err answer status

-- those of a command that judges the text that it reads up to a limit
abbrev pub TextRows : ℕ → (List ℕ → Answer → Type 0) → (Status → Type 0) → Ports → Status → Type 0
TextRows limit Has Says o status = JudgedRows (ReadHas limit Has) Has Says o status

-- whatever answer the bytes of a known source have is written: so it is where a text has one answer at most
abbrev pub IsShown : (List ℕ → Answer → Type 0) → Ports → Status → Type 0
IsShown Has o status = (all : List ℕ) → o.source.before ≡ Some all → GoesWell o status → (answer : Answer) → Has all answer
    → IsWritten o.out o.err answer status

module _ (Refused : ℕ → Type 0) (Has : List ℕ → Answer → Type 0) where
  -- the answer of a text with a plan or a schedule among the words: that this is refused, by a number; or the text's own
  abbrev pub HasOrRefused : List ℕ → Answer → Type 0
  HasOrRefused text (answers.PlanRefused number) = Refused number
  HasOrRefused text answer = Has text answer

  -- the plan is refused, and nothing was read; or the text that was read has the answer
  abbrev pub ReadOrRefused : ℕ → Port → Answer → Type 0
  ReadOrRefused limit source (answers.PlanRefused number) = Refused number × IsUnread source
  ReadOrRefused limit source answer = ReadHas limit Has source answer

  -- The rows of a command that has a plan or a schedule among its words. Where that is refused, nothing is read, and the status is 3, or 8
  -- or 9.
  pub record PlannedRows (limit : ℕ) (Says : Status → Type 0) (o : Ports) (status : Status) : Type 0 where
    pub rows : JudgedRows (ReadOrRefused limit) HasOrRefused Says o status
    pub refuses : (number : ℕ) → Refused number
        → IsUnread o.source × IsOneOf status (statuses.WordsRefused ∷ statuses.WriteFault ∷ statuses.NoMemory ∷ [])

-- a command is done: an answer that may come was delivered, and its rows hold
pub record IsDone (May : Port → Answer → Type 0) (Rows : Ports → Status → Type 0) (o : Ports) (status : Status) : Type 0 where
  pub delivers : DeliversAnswer (May o.source) o status
  pub rows : Rows o status
