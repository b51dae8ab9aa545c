-- A capsule of a frame under way, over the words by cells: what it has done stands, in the capsule
-- closed by the stores of its end.
use Rattle.std.specs.Prelude.{◌≡◌, ◌≢◌, ◌⊎◌, ◌<◌, ◌≤◌, ℕ, ◌+◌, List, [], ◌∷◌, Option, Some, None}
use Rattle.ppm_strands.specs.Tree.{Strand, Code, Has}
use Rattle.ppm_strands.specs.Run.{none, of_capsule}
use Rattle.ppm_strands.specs.Ahead.{Step}
use Rattle.ppm_cells.specs.Cells.{pool_at}
use Rattle.ppm_cells.specs.Finish.{finish_word}
use Rattle.ppm_cells.specs.declared.cell.Cell.{Cell}
use Rattle.ppm_cells.specs.declared.cell.Cell.TheVariants.{RoomCounter, BlockWord, ArrayWord}
use Rattle.ppm_cells.specs.declared.finish.Finish.TheVariants.{Ended, Trapped}
use Rattle.ppm_cells.specs.declared.restart.RestartKind.{RestartKind}
use Rattle.ppm_cells.specs.declared.shape.Shape.{Shape}
use Rattle.ppm_strands.specs.Capsule.{Capsule, Reads, Writes, Asks, Ends, Memory, In, ending, written}
use Rattle.ppm_strands.specs.Stopped.{Stands}
use Rattle.ppm_strands.specs.Strand.{New, Frame, code_of}
use Rattle.ppm_code.specs.Code.{IsCode, room_of}
use Rattle.ppm_code.specs.Locations.{Where, code_locations}
use Rattle.ppm_code.specs.Free.{IsFree}
use Rattle.ppm_code.specs.Strands.{Point, Result, at_capsule, instrs_of, opens, table_of}
use Rattle.ppm_code.specs.Tidy.{IsTidy}
use Rattle.ppm_code.specs.declared.act.End.{End}
use Rattle.ppm_code.specs.declared.act.End.TheVariants.{Trap}
use Rattle.ppm_code.specs.declared.code.CodeParts.{CodeParts}
use Rattle.ppm_code.specs.declared.location.FrameWord.{FrameWord}
use Rattle.ppm_code.specs.Sizes.{slots_at}
use Rattle.ppm_step.specs.Contents.{word_of}
use Rattle.ppm_step.specs.Frames.{Rest, Loads, Stores, Full, Installs, cell_of, storing, installed, asks, rest_of}
use Rattle.ppm_step.specs.Points.{outcome_word, header_word}
use Rattle.ppm_step.specs.declared.content.Content.{Content}
use Rattle.ppm_step.specs.declared.frame.Put.{Put}
use Rattle.ppm_step.specs.declared.frame.Home.{Home}
use Rattle.ppm_ends.specs.Beside.{long_table}
use Rattle.ppm_ends.specs.Ends.{own_stores}
use Rattle.ppm_frames.specs.Views.{written as store}
use Rattle.ppm_frames.specs.Seen.{own_at, arrays_at, seen}

-- the words that are asked for, 0 where none are
abbrev pub room_or : Option ℕ → ℕ
room_or None = 0
room_or (Some words) = words

-- the words that a capsule asks for
abbrev pub asked_of : CodeParts → ℕ → ℕ
asked_of code number = room_or (room_of (instrs_of code number))

-- stores stand in the words
abbrev pub AllStand : (Cell → ℕ) → List Put → Type 0
AllStand m [] = Unit {0}
AllStand m (p ∷ ps) = (m p.cell ≡ word_of p.content) × AllStand m ps

-- the outcome that an end gives the frame
abbrev pub outcome_by : End → ℕ
outcome_by (Trap trap line) = finish_word (Trapped trap line)
outcome_by _ = finish_word Ended

-- what is sound of a code
pub record IsFair (code : CodeParts) : Type 0 where
  pub code_is : IsCode code
  pub tidy : IsTidy code
  pub free : IsFree code

module _ (s : Shape) (code : CodeParts) where
  -- the end of a capsule after the stores into its block: one store into the own words, if any,
  -- and the install
  abbrev pub last_of : Home → End → Rest
  last_of home e = storing 0 (own_stores code home e) (Installs (installed home e))

  -- what is left in the machine is what is left of a closed capsule
  abbrev pub IsOf : (place : ℕ) → Home → Capsule Where End → Rest → Type 0
  IsOf place home (Reads l go) rest = (next : ℕ → Rest) × (rest ≡ Loads (cell_of home l) next)
      × ((v : ℕ) → IsOf place home (go v) (next v))
  IsOf place home (Writes l v go) rest = (content : Content) × (next : Rest)
      × (rest ≡ Stores (cell_of home l) content next) × (word_of content ≡ v)
      × IsOf place home go next
  IsOf place home (Asks words go) rest = (next : ℕ → Rest) × (after : Rest)
      × (rest ≡ Loads (RoomCounter place) next)
      × (next home.block ≡ asks (pool_at s place) s.room home.block words after)
      × IsOf place home go after
  IsOf place home (Ends e) rest = rest ≡ last_of home e

  -- where a frame is and where its block will be
  abbrev pub home_at : (Cell → ℕ) → (p f y : ℕ) → Home
  home_at m p f y = record { frame = f; copy = y; block = m (RoomCounter p) }

  -- the capsule that its header names
  abbrev pub number_at : (Cell → ℕ) → (f y : ℕ) → ℕ
  number_at m f y = m (header_word f y)

  -- its capsule, closed
  abbrev pub closed : Home → ℕ → Capsule Where End
  closed home number = (long_table code s.arrays home).capsule (at_capsule number)

  -- what it sees
  abbrev pub now : (Cell → ℕ) → (p f y : ℕ) → Memory Where
  now m p f y = seen m f (slots_at code (number_at m f y)) (m (RoomCounter p)) (asked_of code (number_at m f y))

  -- the whole of it
  abbrev pub all_of : (Cell → ℕ) → (p f y : ℕ) → Capsule Where End
  all_of m p f y = closed (home_at m p f y) (number_at m f y)

  -- where the pool of place p ends
  abbrev pub limit : ℕ → ℕ
  limit p = pool_at s p + s.room

  -- its block is in the pool, but for where it has not asked yet
  abbrev pub HasRoom : (Cell → ℕ) → (p f y : ℕ) → Type 0
  HasRoom m p f y = m (RoomCounter p) + asked_of code (number_at m f y) ≤ limit p

  -- what is left asks for room, or has it
  abbrev pub IsRoomy : (Cell → ℕ) → (p f y : ℕ) → Capsule Where End → Type 0
  IsRoomy m p f y (Asks words go) = Unit {0}
  IsRoomy m p f y _ = HasRoom m p f y

  -- under way, or after the last store
  pub record IsUnder (m : Cell → ℕ) (p f y : ℕ) (rest : Rest) : Type 0 where
    pub left : Capsule Where End
    pub is_of : IsOf p (home_at m p f y) left rest
    pub stands : Stands code_locations (all_of m p f y) left (now m p f y)
    pub roomy : IsRoomy m p f y left

  -- after the last store: the capsule has come to this end, whose store into the own words stands
  pub record IsDone (m : Cell → ℕ) (p f y : ℕ) (rest : Rest) : Type 0 where
    pub end : End
    pub is : rest ≡ Installs (installed (home_at m p f y) end)
    pub stands : Stands code_locations (all_of m p f y) (Ends end) (now m p f y)
    pub room : HasRoom m p f y
    pub own : AllStand m (own_stores code (home_at m p f y) end)

  -- or the pool is full
  abbrev pub HasCome : (Cell → ℕ) → (p f y : ℕ) → Rest → Type 0
  HasCome m p f y rest = IsUnder m p f y rest ⊎ (IsDone m p f y rest ⊎ (rest ≡ Full))

  -- what its earlier runs have left
  pub record IsClean (m : Cell → ℕ) (p f y : ℕ) : Type 0 where
    pub block : (o : ℕ) → m (RoomCounter p) + o < limit p
        → (In (New o) (written code_locations (all_of m p f y) (now m p f y)) → ⊥)
        → m (BlockWord (m (RoomCounter p) + o)) ≡ 0
    pub outcome : (m (outcome_word f) ≡ finish_word Ended)
        ⊎ (m (outcome_word f) ≡ outcome_by (ending code_locations (all_of m p f y) (now m p f y)))

  -- the frame of a strand
  abbrev pub frame_of : (Cell → ℕ) → (f n y : ℕ) → Frame FrameWord Point
  frame_of m f n y = record { own = own_at m f n; point = at_capsule (number_at m f y) }

  -- the strands of the code
  abbrev pub strands : Code (Frame FrameWord Point) Result
  strands = code_of code_locations (table_of code s.arrays)

  -- a step of the frame's strand that counts nothing
  abbrev pub IsStep : (m m' : Cell → ℕ) → (f y : ℕ) → Type 0
  IsStep m m' f y = Step strands none (Strand (frame_of m f (slots_at code (number_at m f y)) y)) (arrays_at m)
      (Strand (frame_of m' f (slots_at code (number_at m' f y)) y)) (arrays_at m')

  -- the words of the frame are none of the free ones
  abbrev pub LiesApart : (Cell → ℕ) → (p f y : ℕ) → Type 0
  LiesApart m p f y = (j o : ℕ) → j < 6 + slots_at code (number_at m f y)
      → m (RoomCounter p) + o < limit p → f + j ≢ m (RoomCounter p) + o

  -- it goes on by a load
  abbrev pub GoesOnByLoads : Type 0
  GoesOnByLoads = (m : Cell → ℕ) (p f y : ℕ) (cell : Cell) (next : ℕ → Rest)
      → HasCome m p f y (Loads cell next)
      → pool_at s p ≤ m (RoomCounter p) → HasCome m p f y (next (m cell))

  -- the cell of a store: a word of the frame but its link, its target and its header in use, a free
  -- word, or an array word that its capsule writes
  abbrev pub MayStore : (Cell → ℕ) → (p f y : ℕ) → Cell → Type 0
  MayStore m p f y cell =
      ((j : ℕ) × (cell ≡ BlockWord (f + j)) × (j < 6 + slots_at code (number_at m f y)) × (1 ≤ j) × (j ≢ 5) × (j ≢ 2 + y))
      ⊎ (((o : ℕ) × (cell ≡ BlockWord (m (RoomCounter p) + o)) × (m (RoomCounter p) + o < limit p))
      ⊎ ((x : ℕ) × (cell ≡ ArrayWord x) × Has x (strands.writes (frame_of m f (slots_at code (number_at m f y)) y) (arrays_at m))))

  -- and by a store, which is a step of its strand
  pub record GoesOn (m : Cell → ℕ) (p f y : ℕ) (cell : Cell) (content : Content) (next : Rest) : Type 0 where
    pub spot : MayStore m p f y cell
    pub come : HasCome (store m cell (word_of content)) p f y next
    pub step : IsStep m (store m cell (word_of content)) f y
    pub clean : IsClean m p f y → IsClean (store m cell (word_of content)) p f y

  -- whatever it stores
  abbrev pub GoesOnByStores : Type 0
  GoesOnByStores = (m : Cell → ℕ) (p f y : ℕ) (cell : Cell) (content : Content) (next : Rest)
      → y < 2 → LiesApart m p f y
      → HasCome m p f y (Stores cell content next) → GoesOn m p f y cell content next

  -- and its install is the step of the whole capsule
  pub record Opens (m : Cell → ℕ) (p f y : ℕ) (kind : RestartKind) : Type 0 where
    pub end : End
    pub kind_is : kind ≡ installed (home_at m p f y) end
    pub stands : Stands code_locations (all_of m p f y) (Ends end) (now m p f y)
    pub room : HasRoom m p f y
    pub own : AllStand m (own_stores code (home_at m p f y) end)
    pub step : Step strands (of_capsule strands (frame_of m f (slots_at code (number_at m f y)) y) (arrays_at m))
        (Strand (frame_of m f (slots_at code (number_at m f y)) y)) (arrays_at m)
        (opens code end (own_at m f (slots_at code (number_at m f y))) (λ o. now m p f y (New o))) (arrays_at m)

  -- whatever it installs
  abbrev pub OpensByInstalls : Type 0
  OpensByInstalls = (m : Cell → ℕ) (p f y : ℕ) (kind : RestartKind)
      → HasCome m p f y (Installs kind) → IsClean m p f y → Opens m p f y kind

  -- it begins so
  abbrev pub BeginsSo : Type 0
  BeginsSo = (m : Cell → ℕ) (p f y : ℕ) → m (RoomCounter p) ≤ limit p → HasCome m p f y
      (rest_of s code p (record { frame = f; copy = y; block = 0 }) ((table_of code s.arrays).capsule (at_capsule (number_at m f y))))
