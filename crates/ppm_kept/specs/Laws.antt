-- What is proved of capsules of frames under way, and of rows of the kinds Run and Bump.
use Rattle.std.specs.Prelude.{◌≡◌, ◌<◌, ℕ, true}
use Rattle.ppm_strands.specs.Tree.{Words, Tree}
use Rattle.ppm_cells.specs.declared.cell.Cell.{Cell}
use Rattle.ppm_cells.specs.declared.cell.Cell.TheVariants.{BlockWord}
use Rattle.ppm_cells.specs.declared.restart.RestartKind.{RestartKind}
use Rattle.ppm_cells.specs.declared.restart.RestartKind.TheVariants.{Run, Bump, Push1, Seek}
use Rattle.ppm_cells.specs.declared.shape.Shape.{Shape}
use Rattle.ppm_strands.specs.Strand.{Frame}
use Rattle.ppm_code.specs.Strands.{Point, Result}
use Rattle.ppm_code.specs.declared.location.FrameWord.{FrameWord}
use Rattle.ppm_step.specs.Contents.{word_of}
use Rattle.ppm_step.specs.Frames.{Rest, Loads, Stores, Installs}
use Rattle.ppm_step.specs.Points.{header_word}
use Rattle.ppm_step.specs.Standings.{IsLost, went_rest}
use Rattle.ppm_step.specs.declared.content.Content.{Content}
use Rattle.ppm_step.specs.declared.row.Row.TheVariants.{Now, Store}
use Rattle.ppm_step.specs.declared.row.Seat.{Seat}
use Rattle.ppm_step.specs.declared.row.Then.{Then}
use Rattle.ppm_step.specs.declared.row.Then.TheVariants.{Install, Fork, Begin}
use Rattle.ppm_frames.specs.Views.{is_cell}
use Rattle.ppm_frames.specs.Skeletons.{Skeleton}
use Rattle.ppm_kept.specs.Kept.{Setting, AllowsAll, InRow, InRest, State, IsKept}
use Rattle.ppm_kept.specs.Moves.{goes, stores, installs, fills, by_install, begun, entered, stored}
use Rattle.ppm_code.specs.declared.code.CodeParts.{CodeParts}
use Rattle.ppm_kept.specs.Running.{IsFair, MayStore, GoesOnByLoads, GoesOnByStores, OpensByInstalls, BeginsSo}

-- a seat at a row of kind Run
abbrev pub run_seat : (own place frame copy bottom : ℕ) → Seat
run_seat own p f y bottom = record { own = own; place = p; restart = record { kind = Run f y; bottom = bottom } }

-- a capsule of a frame under way: it begins, goes on by loads and stores, and opens what its end
-- does
pub record CapsulesGoOn (s : Shape) (code : CodeParts) : Type 0 where
  pub begins : BeginsSo s code
  pub loads : GoesOnByLoads s code
  pub stores : GoesOnByStores s code
  pub opens : OpensByInstalls s code

-- of each code without conflicts that is tidy
abbrev pub FramesRun : Type 0
FramesRun = (s : Shape) (code : CodeParts) → IsFair code → CapsulesGoOn s code

-- Every step of a place in a row of kind Run keeps all: where it stands after the
-- step is the machine's own
pub record RunKeeps (i : Setting) (root : Tree (Frame FrameWord Point) Result) (input : Words) (s : State) (t : Skeleton) (p f y : ℕ) : Type 0 where
  -- the load of the finish word before the row
  pub begins : (own bottom : ℕ)
      → IsKept i root input (begun i s p (run_seat own p f y bottom) (Run f y)) t
  -- the load of the header
  pub enters : (own bottom victim : ℕ) → IsKept i root input
      (entered i s p (run_seat own p f y bottom) (Run f y) victim (s.words (header_word f y))) t
  -- a load and a store of the capsule or of its end, and the install
  pub loads : (sits : Seat) (cell : Cell) (next : ℕ → Rest) → s.doing p ≡ InRest (Loads cell next)
      → IsKept i root input (goes s p (went_rest i.shape sits (s.words cell) (Loads cell next))) t
  pub stores : (sits : Seat) (cell : Cell) (content : Content) (next : Rest) (found : ℕ)
      → s.doing p ≡ InRest (Stores cell content next)
      → IsKept i root input (stores s p cell (word_of content) (went_rest i.shape sits found (Stores cell content next))) t
  pub installs : (kind : RestartKind) → AllowsAll i → s.doing p ≡ InRest (Installs kind)
      → IsKept i root input (installs s p kind) (by_install i s.words p (Run f y) kind t)
  -- the pool is full
  pub full : IsKept i root input (fills s p) t
  -- a fault
  pub faults : IsKept i root input (goes s p IsLost) t
  -- and each store is into a cell that the frames have
  pub cells : (cell : Cell) (content : Content) (next : Rest)
      → s.doing p ≡ InRest (Stores cell content next) → MayStore i.shape i.code s.words p f y cell

-- in each such row, from words that are kept
abbrev pub RunRowKeeps : Type 0
RunRowKeeps = (i : Setting) → IsFair i.code
    → (root : Tree (Frame FrameWord Point) Result) (input : Words) (s : State) (t : Skeleton)
    → IsKept i root input s t
    → (p : ℕ) → p < i.shape.processors → (f y : ℕ) → s.kind p ≡ Run f y
    → RunKeeps i root input s t p f y

-- a seat at a row of kind Bump
abbrev pub bump_seat : (own place block bottom : ℕ) → Seat
bump_seat own p r bottom = record { own = own; place = p; restart = record { kind = Bump r; bottom = bottom } }

-- the row ends by an install
abbrev pub Ends : Then → Type 0
Ends (Install restart) = Unit {0}
Ends (Fork block) = Unit {0}
Ends (Begin block frame bottom) = Unit {0}
Ends _ = ⊥

-- the kind that is installed at the end of a row
abbrev pub kind_then : Then → RestartKind
kind_then (Install restart) = restart.kind
kind_then (Fork block) = Push1 block
kind_then (Begin block frame bottom) = Run frame 0
kind_then _ = Seek

-- the beginning of a row of kind Bump, and its faults
pub record BumpKeeps (i : Setting) (root : Tree (Frame FrameWord Point) Result) (input : Words) (s : State) (t : Skeleton) (p r : ℕ) : Type 0 where
  pub begins : (own bottom : ℕ)
      → IsKept i root input (begun i s p (bump_seat own p r bottom) (Bump r)) t
  pub loads : (own bottom victim : ℕ) → IsKept i root input
      (entered i s p (bump_seat own p r bottom) (Bump r) victim (s.words (BlockWord r))) t
  pub stores : (own bottom found : ℕ) (cell : Cell) (content : Content) (next : Then)
      → s.doing p ≡ InRow (Store cell content next)
      → IsKept i root input (stored i s p (bump_seat own p r bottom) found cell content next) t
  pub installs : (next : Then) → s.doing p ≡ InRow (Now next) → Ends next
      → IsKept i root input (installs s p (kind_then next)) t
  pub faults : IsKept i root input (goes s p IsLost) t
  -- and each store is into a cell that the frames have
  pub cells : (cell : Cell) (content : Content) (next : Then)
      → s.doing p ≡ InRow (Store cell content next) → is_cell i.shape cell ≡ true

-- in each such row, from words that are kept
abbrev pub BumpRowKeeps : Type 0
BumpRowKeeps = (i : Setting) → IsFair i.code
    → (root : Tree (Frame FrameWord Point) Result) (input : Words) (s : State) (t : Skeleton)
    → IsKept i root input s t
    → (p : ℕ) → p < i.shape.processors → (r : ℕ) → s.kind p ≡ Bump r
    → BumpKeeps i root input s t p r
