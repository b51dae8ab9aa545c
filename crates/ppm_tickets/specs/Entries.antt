-- Entries change lawfully, with either takeover and from any words.
use Rattle.std.specs.Prelude.{◌≡◌, ◌≢◌, ◌⊎◌, ◌<◌, ℕ, List, [], ◌∷◌, Some}
use Rattle.ppm_cells.specs.Entry.{entry_of}
use Rattle.ppm_cells.specs.Memory.{read, AreWordsOf}
use Rattle.ppm_cells.specs.declared.cell.Cell.TheVariants.{CarryWord, RestartWord, MessageWord, HolderWord, EntryWord}
use Rattle.ppm_cells.specs.declared.entry.Entry.{Entry}
use Rattle.ppm_cells.specs.declared.shape.Shape.{Shape}
use Rattle.ppm_cells.specs.declared.shape.Takeover.{Takeover}
use Rattle.ppm_cells.specs.declared.shape.Takeover.TheVariants.{ByEntries}
use Rattle.ppm_code.specs.declared.code.CodeParts.{CodeParts}
use Rattle.ppm_cells.specs.DequeChange.{Changes}
use Rattle.ppm_step.specs.Frames.{Stores}
use Rattle.ppm_step.specs.Standings.{Standing, IsWithin, IsRunning, IsDone}
use Rattle.ppm_step.specs.State.{State, stand_of, happens, opening}
use Rattle.ppm_step.specs.declared.row.Row.TheVariants.{Store, Exchange}
use Rattle.ppm_step.specs.declared.turn.Act.{Act}
use Rattle.ppm_step.specs.declared.turn.Act.TheVariants.{Step}
use Rattle.ppm_step.specs.declared.turn.Turn.{Turn}
use Rattle.ppm_tickets.specs.Along.{reached, IsPooled}

-- a block word that a step changes is one of a pool
abbrev pub IsPooledAt : Shape → Standing → Type 0
IsPooledAt s (IsWithin seat (Store cell content next)) = IsPooled s cell
IsPooledAt s (IsWithin seat (Exchange cell old new next)) = IsPooled s cell
IsPooledAt s (IsRunning seat (Stores cell content rest)) = IsPooled s cell
IsPooledAt s standing = Unit {0}

-- of an act: steps alone change words of blocks
abbrev pub IsPooledBy : Shape → Act → Standing → Type 0
IsPooledBy s (Step victim) standing = IsPooledAt s standing
IsPooledBy s act standing = Unit {0}

-- the words of two entries of which one is lawfully made of the other
pub record Changed (how : Takeover) (old new : ℕ) : Type 0 where
  pub before : Entry
  pub now : Entry
  pub is_before : entry_of old ≡ Some before
  pub is_now : entry_of new ≡ Some now
  pub lawful : Changes how before now

module _ (s : Shape) (code : CodeParts) where
  -- after any turns, the next one leaves each entry as it is, or changes it lawfully
  abbrev pub EntriesChangeLawfully : Type 0
  EntriesChangeLawfully = (ws : List ℕ) (turns : List Turn) (turn : Turn) → AreWordsOf s ws
      → IsPooledBy s turn.act (stand_of (reached s code ws turns) turn.processor) → (v i : ℕ)
      → v < s.processors → i < s.slots
      → (read s (happens s code (reached s code ws turns) turn).words (EntryWord v i) ≡ read s (reached s code ws turns).words (EntryWord v i))
      ⊎ Changed s.takeover (read s (reached s code ws turns).words (EntryWord v i)) (read s (happens s code (reached s code ws turns) turn).words (EntryWord v i))

module _ (s : Shape) (code : CodeParts) where
  -- all turns of a run do so
  abbrev pub ArePooled : State → List Turn → Type 0
  ArePooled state [] = Unit {0}
  ArePooled state (turn ∷ turns) = IsPooledBy s turn.act (stand_of state turn.processor)
      × ArePooled (happens s code state turn) turns

  -- with takeover by entries each processor carries its own place, and holder words stay
  pub record StaysHome (ws : List ℕ) (state : State) : Type 0 where
    pub carries : (c : ℕ) → c < s.processors → read s state.words (CarryWord c) ≡ c
    pub holders : (p : ℕ) → p < s.processors
        → read s state.words (HolderWord p) ≡ read s ws (HolderWord p)
    -- the restart word and the message of a place are written by its own processor alone
    pub others : (turn : Turn) → IsPooledBy s turn.act (stand_of state turn.processor) → (q : ℕ)
        → q < s.processors → q ≢ turn.processor
        → (read s (happens s code state turn).words (RestartWord q) ≡ read s state.words (RestartWord q))
        × (read s (happens s code state turn).words (MessageWord q) ≡ read s state.words (MessageWord q))
    -- and by none once it is done
    pub closed : (turn : Turn) → IsPooledBy s turn.act (stand_of state turn.processor) → (q : ℕ)
        → q < s.processors → stand_of state q ≡ IsDone
        → (read s (happens s code state turn).words (RestartWord q) ≡ read s state.words (RestartWord q))
        × (read s (happens s code state turn).words (MessageWord q) ≡ read s state.words (MessageWord q))

  -- from words in which each processor carries its own place
  abbrev pub PlacesStayHome : Type 0
  PlacesStayHome = (ws : List ℕ) (turns : List Turn) → s.takeover ≡ ByEntries → AreWordsOf s ws
      → ((c : ℕ) → c < s.processors → read s ws (CarryWord c) ≡ c)
      → ArePooled (opening ws s.processors) turns
      → StaysHome ws (reached s code ws turns)
