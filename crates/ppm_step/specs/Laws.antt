-- Laws of runs from an opening, whatever its words are: when the finish word changes, and when a processor is done.
use Rattle.std.specs.Prelude.{◌≡◌, ◌≢◌, ◌⊎◌, ℕ, ◌+◌, ◌^◌, ◌<◌, ◌≤◌, true, List, ◌∷◌, ◌++◌, Some, slice_get}
use Rattle.std.specs.List.{AllByRecursion}
use Rattle.ppm_cells.specs.Cells.{pool_at}
use Rattle.ppm_cells.specs.Finish.{finish_of, finish_word}
use Rattle.ppm_cells.specs.Memory.{read, AreWordsOf}
use Rattle.ppm_cells.specs.declared.cell.Cell.TheVariants.{FinishWord, RoomCounter}
use Rattle.ppm_cells.specs.declared.finish.Finish.{Finish}
use Rattle.ppm_cells.specs.declared.finish.Finish.TheVariants.{Unset, Ended, Trapped, OutOfTurns, OutOfRoom, Stopped, Broken}
use Rattle.ppm_cells.specs.declared.restart.RestartKind.TheVariants.{Run}
use Rattle.ppm_cells.specs.declared.shape.Shape.{Shape}
use Rattle.ppm_code.specs.Capsules.{capsule_of}
use Rattle.ppm_code.specs.Code.{room_of}
use Rattle.ppm_code.specs.declared.code.Capsule.{Capsule}
use Rattle.ppm_code.specs.declared.code.CodeParts.{CodeParts}
use Rattle.ppm_step.specs.declared.frame.Home.{Home}
use Rattle.ppm_step.specs.declared.row.Point.TheVariants.{Header}
use Rattle.ppm_step.specs.declared.row.Row.TheVariants.{Now}
use Rattle.ppm_step.specs.declared.row.Seat.{Seat}
use Rattle.ppm_step.specs.declared.row.Then.TheVariants.{Load}
use Rattle.ppm_step.specs.declared.turn.Act.{Act}
use Rattle.ppm_step.specs.declared.turn.Act.TheVariants.{Step, Soft, Hard, Quit}
use Rattle.ppm_step.specs.declared.turn.Turn.{Turn}
use Rattle.ppm_step.specs.declared.turn.Why.{Why}
use Rattle.ppm_step.specs.declared.turn.Why.TheVariants.{Turns}
use Rattle.ppm_step.specs.Frames.{rest_of}
use Rattle.ppm_step.specs.Points.{header_word}
use Rattle.ppm_step.specs.Standings.{IsLost, IsWithin, IsRunning, IsDone, unknown_place}
use Rattle.ppm_step.specs.State.{State, stand_of, quit_with, after, opening, is_step}
use Rattle.ppm_step.specs.Stood.{stood_by}
use Rattle.ppm_step.specs.Told.{record_of}

-- the finish word
abbrev pub finish_at : Shape → State → ℕ
finish_at s state = read s state.words FinishWord

-- a hard fault of this processor is one of the turns
pub record IsStruck (processor : ℕ) (turns : List Turn) : Type 0 where
  pub first : List Turn
  pub more : List Turn
  pub turns_are : turns ≡ first ++ (record { processor = processor; act = Hard } ∷ more)

-- the turn is no quit
abbrev pub IsNoQuit : Act → Type 0
IsNoQuit (Step victim) = Unit {0}
IsNoQuit Soft = Unit {0}
IsNoQuit Hard = Unit {0}
IsNoQuit (Quit why) = ⊥

-- what steps of so many processors propose for a finish word: that the root ended, or trapped in a line, that the pool of a place is full,
-- or that words are broken, met at a place or at one that isn't known
abbrev pub IsProposed : (processors : ℕ) → Finish → Type 0
IsProposed processors Ended = Unit {0}
IsProposed processors (Trapped trap line) = (1 ≤ line) × (line < 2 ^ 26)
IsProposed processors (OutOfRoom place) = place < processors
IsProposed processors (Broken place) = (place < processors) ⊎ (place ≡ unknown_place)
IsProposed processors Unset = ⊥
IsProposed processors (OutOfTurns processor) = ⊥
IsProposed processors Stopped = ⊥

-- the word stands for one of these
pub record IsProposedWord (processors word : ℕ) : Type 0 where
  pub finish : Finish
  pub is_proposed : IsProposed processors finish
  pub stands : finish_of word ≡ Some finish

module _ (s : Shape) (code : CodeParts) where
  -- this turn finds the pool of a place full: it is the load of the place's room counter with which a capsule of the code begins that asks
  -- for so many words, and these pass the end of the pool
  pub record FindsFull (place : ℕ) (state : State) (turn : Turn) : Type 0 where
    pub victim : ℕ
    pub is_step : turn.act ≡ Step victim
    pub seat : Seat
    pub at_place : seat.place ≡ place
    pub home : Home
    pub number : ℕ
    pub capsule : Capsule
    pub of_code : slice_get code.capsules number ≡ Some capsule
    pub words : ℕ
    pub asks : room_of capsule.instrs ≡ Some words
    pub begins : stand_of state turn.processor ≡ IsRunning seat (rest_of s code place home (capsule_of s.arrays capsule.instrs))
    pub passes : pool_at s place + s.room < read s state.words (RoomCounter place) + words

  -- such a turn, of which the frame is known: it is the one that the restart of the processor's place names, it has no new block, and the
  -- counter lies no lower than the pool
  pub record FindsFullIn (place : ℕ) (state : State) (turn : Turn) : Type 0 where
    pub finds : FindsFull place state turn
    pub named : finds.seat.restart.kind ≡ Run finds.home.frame finds.home.copy
    pub fresh : finds.home.block ≡ 0
    pub held : pool_at s place ≤ read s state.words (RoomCounter place)

  -- the state that turns come to from these words
  abbrev pub reached : (words : List ℕ) → List Turn → State
  reached words turns = after s code (opening words s.processors) turns

  -- once the finish word isn't 0 it stays as it is, whatever turns are made
  abbrev pub FinishStays : Type 0
  FinishStays = (words : List ℕ) (first more : List Turn)
      → finish_at s (reached words first) ≢ 0 → finish_at s (reached words (first ++ more)) ≡ finish_at s (reached words first)

  -- where no processor quits, it stays or comes to stand for what steps propose
  abbrev pub FinishIsProposed : Type 0
  FinishIsProposed = (words : List ℕ) (turns : List Turn) → AllByRecursion (λ turn. IsNoQuit turn.act) turns
      → (finish_at s (reached words turns) ≡ read s words FinishWord) ⊎ IsProposedWord s.processors (finish_at s (reached words turns))

  -- one of the turns is this quit, by a processor that isn't done, and where the finish word is 0
  pub record IsQuit (processor : ℕ) (why : Why) (words : List ℕ) (turns : List Turn) : Type 0 where
    pub first : List Turn
    pub more : List Turn
    pub turns_are : turns ≡ first ++ (record { processor = processor; act = Quit why } ∷ more)
    pub lives : stand_of (reached words first) processor ≢ IsDone
    pub unset : finish_at s (reached words first) ≡ 0

  -- the word is that of one of these
  pub record IsQuitWord (words : List ℕ) (turns : List Turn) (word : ℕ) : Type 0 where
    pub processor : ℕ
    pub why : Why
    pub quits : IsQuit processor why words turns
    pub word_is : word ≡ finish_word (quit_with processor why)

  -- whatever turns are made, it stays, comes to stand for what steps propose, or is the word of one of the quits
  abbrev pub FinishHasCause : Type 0
  FinishHasCause = (words : List ℕ) (turns : List Turn) → (finish_at s (reached words turns) ≡ read s words FinishWord)
      ⊎ (IsProposedWord s.processors (finish_at s (reached words turns)) ⊎ IsQuitWord words turns (finish_at s (reached words turns)))

  -- and each such quit makes it its own word
  abbrev pub QuitIsTold : Type 0
  QuitIsTold = (words : List ℕ) (turns : List Turn) (processor : ℕ) (why : Why) → AreWordsOf s words
      → IsQuit processor why words turns → finish_at s (reached words turns) ≡ finish_word (quit_with processor why)

  -- from words that say nothing, it says that the turns of a processor are spent only where this processor quits for them
  abbrev pub TurnsHaveCause : Type 0
  TurnsHaveCause = (words : List ℕ) (turns : List Turn) (processor : ℕ) → read s words FinishWord ≡ 0
      → finish_of (finish_at s (reached words turns)) ≡ Some (OutOfTurns processor) → IsQuit processor Turns words turns

  -- one of the turns finds the pool of the place full
  pub record IsFilled (place : ℕ) (words : List ℕ) (turns : List Turn) : Type 0 where
    pub first : List Turn
    pub turn : Turn
    pub more : List Turn
    pub turns_are : turns ≡ first ++ (turn ∷ more)
    pub finds : FindsFull place (reached words first) turn

  -- from words that say nothing, the finish word says that a pool is full only where one of the turns found it so
  abbrev pub RoomHasCause : Type 0
  RoomHasCause = (words : List ℕ) (turns : List Turn) (place : ℕ) → read s words FinishWord ≡ 0
      → finish_of (finish_at s (reached words turns)) ≡ Some (OutOfRoom place) → IsFilled place words turns

  -- one of the turns found the pool full, in a frame that is known
  pub record IsFilledIn (place : ℕ) (words : List ℕ) (turns : List Turn) : Type 0 where
    pub first : List Turn
    pub turn : Turn
    pub more : List Turn
    pub turns_are : turns ≡ first ++ (turn ∷ more)
    pub finds : FindsFullIn place (reached words first) turn

  abbrev pub RoomHasFrame : Type 0
  RoomHasFrame = (words : List ℕ) (turns : List Turn) (place : ℕ) → read s words FinishWord ≡ 0
      → finish_of (finish_at s (reached words turns)) ≡ Some (OutOfRoom place) → IsFilledIn place words turns

  -- such a turn after these turns, where the capsule is that of the frame's header: its number is the word that the processor's turn before
  -- it loaded there
  pub record FindsFullBehind (place : ℕ) (words : List ℕ) (first : List Turn) (turn : Turn) : Type 0 where
    pub full : FindsFullIn place (reached words first) turn
    pub before : List Turn
    pub load : Turn
    pub between : List Turn
    pub first_is : first ≡ before ++ (load ∷ between)
    pub own : load.processor ≡ turn.processor
    pub steps : is_step load.act ≡ true
    pub others : AllByRecursion (λ t. t.processor ≢ turn.processor) between
    pub loads : stand_of (reached words before) turn.processor
        ≡ IsWithin full.finds.seat (Now (Load (Header full.finds.home.frame full.finds.home.copy)))
    pub number_is : read s (reached words before).words (header_word full.finds.home.frame full.finds.home.copy) ≡ full.finds.number

  -- one of the turns found the pool full, in a capsule that is known
  pub record IsFilledBehind (place : ℕ) (words : List ℕ) (turns : List Turn) : Type 0 where
    pub first : List Turn
    pub turn : Turn
    pub more : List Turn
    pub turns_are : turns ≡ first ++ (turn ∷ more)
    pub finds : FindsFullBehind place words first turn

  abbrev pub RoomHasHeader : Type 0
  RoomHasHeader = (words : List ℕ) (turns : List Turn) (place : ℕ) → read s words FinishWord ≡ 0
      → finish_of (finish_at s (reached words turns)) ≡ Some (OutOfRoom place) → IsFilledBehind place words turns

  -- a processor is done only where a hard fault of its own was made, or the finish word isn't 0
  abbrev pub DoneHasCause : Type 0
  DoneHasCause = (words : List ℕ) (turns : List Turn) (processor : ℕ) → AreWordsOf s words → processor < s.processors
      → stand_of (reached words turns) processor ≡ IsDone → IsStruck processor turns ⊎ (finish_at s (reached words turns) ≢ 0)

  -- a processor stands where its record leads it, whatever the words are and whatever turns are made, its own and others'
  abbrev pub RecordLeads : Type 0
  RecordLeads = (words : List ℕ) (turns : List Turn) (processor : ℕ) → processor < s.processors
      → stand_of (reached words turns) processor
      ≡ stood_by s code processor IsLost (record_of s code processor (opening words s.processors) turns)
