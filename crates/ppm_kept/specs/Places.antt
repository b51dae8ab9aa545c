-- The state by places, from the words of a machine and from where its processors stand; and that each
-- turn of a processor in a place is a step of that place.
use Rattle.std.specs.Prelude.{◌≡◌, ◌≢◌, ◌<◌, ℕ, zero, suc, ◌==◌, nat_lt, if◌then◌else◌, Bool, true, false, List, Option, Some, None}
use Rattle.ppm_strands.specs.Run.{Counts, none}
use Rattle.ppm_strands.specs.Calm.{Calm}
use Rattle.ppm_cells.specs.Cells.{IsCell, pool_at}
use Rattle.ppm_cells.specs.Memory.{read, AreWordsOf}
use Rattle.ppm_cells.specs.Restart.{restart_of}
use Rattle.ppm_cells.specs.declared.cell.Cell.{Cell}
use Rattle.ppm_cells.specs.declared.cell.Cell.TheVariants.{FinishWord, RestartWord}
use Rattle.ppm_cells.specs.declared.restart.Restart.{Restart}
use Rattle.ppm_cells.specs.declared.restart.RestartKind.{RestartKind}
use Rattle.ppm_cells.specs.declared.restart.RestartKind.TheVariants.{Seek}
use Rattle.ppm_cells.specs.declared.shape.Shape.{Shape}
use Rattle.ppm_code.specs.Sizes.{slots_of}
use Rattle.ppm_code.specs.declared.code.CodeParts.{CodeParts}
use Rattle.ppm_step.specs.Contents.{word_of}
use Rattle.ppm_step.specs.Frames.{Rest, Loads, Stores, Full, Installs}
use Rattle.ppm_step.specs.Points.{cell_at}
use Rattle.ppm_step.specs.Standings.{Standing, IsLost, IsPlaced, IsAt, IsWithin, IsRunning, then_is_there, rest_is_there, at_finish, went_row, went_rest}
use Rattle.ppm_step.specs.State.{State as Machine, stand_of, happens, opening, is_done_at}
use Rattle.ppm_step.specs.declared.content.Content.{Content}
use Rattle.ppm_step.specs.declared.row.Point.{Point}
use Rattle.ppm_step.specs.declared.row.Row.TheVariants.{Now, Store, Exchange}
use Rattle.ppm_step.specs.declared.row.Seat.{Seat}
use Rattle.ppm_step.specs.declared.row.Then.{Then}
use Rattle.ppm_step.specs.declared.row.Then.TheVariants.{Load, Move}
use Rattle.ppm_step.specs.declared.turn.Act.{Act}
use Rattle.ppm_step.specs.declared.turn.Act.TheVariants.{Step, Soft, Hard}
use Rattle.ppm_layout.specs.Correct.{Opens}
use Rattle.ppm_layout.specs.Root.{root_strand}
use Rattle.ppm_layout.specs.declared.images.Image.{Image}
use Rattle.ppm_words.specs.declared.named_array.NamedArray.{NamedArray}
use Rattle.ppm_frames.specs.Views.{is_cell, view}
use Rattle.ppm_frames.specs.Seen.{arrays_at}
use Rattle.ppm_frames.specs.Skeletons.{Begins, InPlace, Leaf}
use Rattle.ppm_kept.specs.Running.{strands}
use Rattle.ppm_kept.specs.Kept.{Doing, Resting, State, IsKept}
use Rattle.ppm_kept.specs.Moves.{doing_of, goes, stores, exchanges, installs, fills}
use Rattle.ppm_kept.specs.Laws.{Ends, kind_then}
use Rattle.ppm_kept.specs.Openings.{opening_of}

-- the restart kind of each place; one that is not there, or whose word is broken, seeks
abbrev pub kind_or : Option Restart → RestartKind
kind_or None = Seek
kind_or (Some restart) = restart.kind

abbrev pub kinds_of : Shape → List ℕ → ℕ → RestartKind
kinds_of s words p = if nat_lt p s.processors then kind_or (restart_of (read s words (RestartWord p))) else Seek

-- whether a processor that stands there is in a row or a capsule of place p
abbrev pub is_in : ℕ → Standing → Bool
is_in p (IsWithin seat row) = seat.place == p
is_in p (IsRunning seat rest) = seat.place == p
is_in p _ = false

-- what the first processor that is in place p does, of so many
abbrev pub doing_in : (ℕ → Standing) → (count : ℕ) → (p : ℕ) → Doing
doing_in stand zero p = Resting
doing_in stand (suc n) p = if is_in p (stand n) then doing_of (stand n) else doing_in stand n p

-- the state by places
abbrev pub places_of : Shape → Machine → State
places_of s state = record { words = view s state.words; kind = kinds_of s state.words; doing = doing_in (stand_of state) s.processors }

-- it is in place p, or in none
abbrev pub IsOf : ℕ → Standing → Type 0
IsOf p (IsWithin seat row) = seat.place ≡ p
IsOf p (IsRunning seat rest) = seat.place ≡ p
IsOf p _ = Unit {0}

-- processor c is in place p or in none, and no other is in it. The deque's half says so, since no two
-- processors that live carry one place
pub record Holds (s : Shape) (state : Machine) (c p : ℕ) : Type 0 where
  pub words : AreWordsOf s state.words
  pub there : c < s.processors
  pub place : p < s.processors
  pub own : IsOf p (stand_of state c)
  pub others : (d : ℕ) → d ≢ c → is_in p (stand_of state d) ≡ false

-- it is in no place
abbrev pub IsNowhere : Standing → Type 0
IsNowhere (IsWithin seat row) = ⊥
IsNowhere (IsRunning seat rest) = ⊥
IsNowhere _ = Unit {0}

-- a cell that no frame has, and that is no restart word
pub record IsUnseen (s : Shape) (cell : Cell) : Type 0 where
  pub there : IsCell s cell
  pub no_frame : is_cell s cell ≡ false
  pub no_restart : (q : ℕ) → RestartWord q ≢ cell

module _ (s : Shape) (code : CodeParts) (state : Machine) (c : ℕ) where
  -- after an act of the processor
  abbrev pub acted : Act → State
  acted act = places_of s (happens s code state (record { processor = c; act = act }))

  -- before it
  abbrev pub before : State
  before = places_of s state

  -- Each step of the processor in a row is that step of its place: a load, a store and an exchange of a
  -- cell that frames have or of another, an install, and the row after which it carries another place
  pub record RowShows (seat : Seat) : Type 0 where
    pub loads : (victim : ℕ) (point : Point) → stand_of state c ≡ IsWithin seat (Now (Load point))
        → acted (Step victim) ≡ goes before seat.place (went_row s code seat victim (read s state.words (cell_at seat victim point)) (Now (Load point)))
    pub stores : (victim found : ℕ) (cell : Cell) (content : Content) (next : Then)
        → stand_of state c ≡ IsWithin seat (Store cell content next) → is_cell s cell ≡ true
        → acted (Step victim) ≡ stores before seat.place cell (word_of content) (went_row s code seat victim found (Store cell content next))
    pub unseen_stores : (victim found : ℕ) (cell : Cell) (content : Content) (next : Then)
        → stand_of state c ≡ IsWithin seat (Store cell content next) → IsUnseen s cell
        → acted (Step victim) ≡ goes before seat.place (went_row s code seat victim found (Store cell content next))
    pub exchanges : (victim found : ℕ) (cell : Cell) (old new : Content) (next : Then)
        → stand_of state c ≡ IsWithin seat (Exchange cell old new next) → is_cell s cell ≡ true
        → acted (Step victim) ≡ exchanges before seat.place cell (word_of old) (word_of new) (went_row s code seat victim found (Exchange cell old new next))
    pub unseen_exchanges : (victim found : ℕ) (cell : Cell) (old new : Content) (next : Then)
        → stand_of state c ≡ IsWithin seat (Exchange cell old new next) → IsUnseen s cell
        → acted (Step victim) ≡ goes before seat.place (went_row s code seat victim found (Exchange cell old new next))
    pub installs : (victim : ℕ) (next : Then) → Ends next
        → stand_of state c ≡ IsWithin seat (Now next) → then_is_there s seat next ≡ true
        → acted (Step victim) ≡ installs before seat.place (kind_then next)
    pub moves : (victim place : ℕ) → stand_of state c ≡ IsWithin seat (Now (Move place))
        → seat.own < s.processors → acted (Step victim) ≡ goes before seat.place IsLost

  -- each step of the processor in a capsule is that step of its place
  pub record RestShows (seat : Seat) : Type 0 where
    pub loads : (victim : ℕ) (cell : Cell) (next : ℕ → Rest)
        → stand_of state c ≡ IsRunning seat (Loads cell next)
        → acted (Step victim) ≡ goes before seat.place (went_rest s seat (read s state.words cell) (Loads cell next))
    pub stores : (victim found : ℕ) (cell : Cell) (content : Content) (next : Rest)
        → stand_of state c ≡ IsRunning seat (Stores cell content next) → is_cell s cell ≡ true
        → acted (Step victim) ≡ stores before seat.place cell (word_of content) (went_rest s seat found (Stores cell content next))
    pub installs : (victim : ℕ) (kind : RestartKind)
        → stand_of state c ≡ IsRunning seat (Installs kind)
        → rest_is_there s seat (Installs kind) ≡ true
        → acted (Step victim) ≡ installs before seat.place kind
    pub full : (victim : ℕ) → stand_of state c ≡ IsRunning seat Full
        → acted (Step victim) ≡ fills before seat.place

  -- by the load of the finish word a row begins; by the loads before it nothing changes
  pub record BareShows : Type 0 where
    pub begins : (victim p : ℕ) (restart : Option Restart) → stand_of state c ≡ IsAt p restart
        → Holds s state c p
        → acted (Step victim) ≡ goes before p (at_finish s code c p restart (read s state.words FinishWord))
    pub lost : (victim : ℕ) → stand_of state c ≡ IsLost → acted (Step victim) ≡ before
    pub placed : (victim p : ℕ) → stand_of state c ≡ IsPlaced p → acted (Step victim) ≡ before

  -- a fault ends the row or the capsule, if it is in one
  pub record FaultsShow : Type 0 where
    pub soft : (p : ℕ) → Holds s state c p → acted Soft ≡ goes before p IsLost
    pub hard : (p : ℕ) → Holds s state c p → acted Hard ≡ goes before p IsLost
    pub soft_bare : IsNowhere (stand_of state c) → acted Soft ≡ before
    pub hard_bare : IsNowhere (stand_of state c) → c < s.processors → acted Hard ≡ before

-- of each processor; quitting, and the stop at broken words, alone are left out
abbrev pub TurnsShow : Type 0
TurnsShow = (s : Shape) (code : CodeParts) (state : Machine) (c : ℕ)
    → ((seat : Seat) → Holds s state c seat.place → RowShows s code state c seat × RestShows s code state c seat)
    × BareShows s code state c
    × (is_done_at (stand_of state c) ≡ false → FaultsShow s code state c)

-- a machine that opens an image of a sound code, with all processors lost, is kept so, whatever is asked of the
-- counts, if it is true where nothing is counted: the tree is the strand of the root, at the keeper's place
abbrev pub MachinesOpen : Type 0
MachinesOpen = (code : CodeParts) (input : List NamedArray) (s : Shape) (keeper : ℕ) (image : Image)
    → Opens code input s keeper image
    → Calm (strands s code) (root_strand code input) (arrays_at (view s image.words))
    → (places_of s (opening image.words s.processors) ≡ opening_of (view s image.words) keeper (pool_at s keeper))
    × ((asked : Counts → Bool) → asked none ≡ true → IsKept (record { shape = s; code = code; counted = asked }) (root_strand code input) (arrays_at (view s image.words)) (places_of s (opening image.words s.processors)) (Leaf (InPlace keeper) (Begins 0) (pool_at s keeper) (slots_of code code.root)))
