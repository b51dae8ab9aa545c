-- The rows that give back what a strand has come to: Unwind.
use Rattle.std.specs.Prelude.{◌≡◌, ◌<◌, ℕ, ◌==◌, cond, true, false, List}
use Rattle.ppm_strands.specs.Tree.{Words, Tree}
use Rattle.ppm_cells.specs.Cells.{IsCell}
use Rattle.ppm_cells.specs.Memory.{AreWordsOf}
use Rattle.ppm_cells.specs.declared.cell.Cell.{Cell}
use Rattle.ppm_cells.specs.declared.shape.Shape.{Shape}
use Rattle.ppm_cells.specs.declared.restart.RestartKind.{RestartKind}
use Rattle.ppm_cells.specs.declared.restart.RestartKind.TheVariants.{Run, Unwind, Arrive}
use Rattle.ppm_strands.specs.Strand.{Frame}
use Rattle.ppm_code.specs.Strands.{Point, Result}
use Rattle.ppm_code.specs.declared.location.FrameWord.{FrameWord}
use Rattle.ppm_step.specs.Contents.{word_of}
use Rattle.ppm_step.specs.Standings.{IsLost, wanted_row}
use Rattle.ppm_step.specs.declared.content.Content.{Content}
use Rattle.ppm_step.specs.declared.row.Point.{Point as RowPoint}
use Rattle.ppm_step.specs.declared.row.Row.TheVariants.{Now, Store, Exchange}
use Rattle.ppm_step.specs.declared.row.Seat.{Seat}
use Rattle.ppm_step.specs.declared.row.Then.{Then}
use Rattle.ppm_step.specs.declared.row.Then.TheVariants.{Load}
use Rattle.ppm_step.specs.State.{words_after}
use Rattle.ppm_frames.specs.Views.{written as write, is_cell, view}
use Rattle.ppm_frames.specs.Skeletons.{Begins, Over, Arrives, InPlace, Skeleton, Leaf, grow, back}
use Rattle.ppm_kept.specs.Running.{IsFair}
use Rattle.ppm_kept.specs.Kept.{Setting, InRow, State, IsKept}
use Rattle.ppm_kept.specs.Moves.{goes, installs, begun, loaded, stored, exchanged}
use Rattle.ppm_kept.specs.Laws.{Ends, kind_then}

-- what the install at the end of Unwind makes of the skeleton: the frame that waited goes on, or is
-- over too, or the branch arrives
abbrev pub by_unwind : ℕ → RestartKind → Skeleton → Skeleton
by_unwind p (Run g y) t = back p (λ z. Begins z) t
by_unwind p (Unwind g) t = back p (λ z. Over) t
by_unwind p (Arrive r d) t = grow p (λ st f n. Leaf (InPlace p) Arrives f n) t
by_unwind p _ t = t

-- a seat at a row of kind Unwind
abbrev pub unwind_seat : (own place frame bottom : ℕ) → Seat
unwind_seat own p f bottom = record { own = own; place = p; restart = record { kind = Unwind f; bottom = bottom } }

-- Every step of a place in a row of kind Unwind keeps all
pub record UnwindKeeps (i : Setting) (root : Tree (Frame FrameWord Point) Result) (input : Words) (s : State) (t : Skeleton) (p f : ℕ) : Type 0 where
  pub begins : (own bottom : ℕ)
      → IsKept i root input (begun i s p (unwind_seat own p f bottom) (Unwind f)) t
  pub loads : (own bottom victim : ℕ) (point : RowPoint) → s.doing p ≡ InRow (Now (Load point))
      → IsKept i root input
      (loaded i s p (unwind_seat own p f bottom) victim point) t
  pub stores : (own bottom found : ℕ) (cell : Cell) (content : Content) (next : Then)
      → s.doing p ≡ InRow (Store cell content next)
      → IsKept i root input (stored i s p (unwind_seat own p f bottom) found cell content next) t
  pub exchanges : (own bottom found : ℕ) (cell : Cell) (old new : Content) (next : Then)
      → s.doing p ≡ InRow (Exchange cell old new next)
      → IsKept i root input (exchanged i s p (unwind_seat own p f bottom) found cell old new next) t
  pub installs : (next : Then) → s.doing p ≡ InRow (Now next) → Ends next
      → IsKept i root input (installs s p (kind_then next)) (by_unwind p (kind_then next) t)
  pub faults : IsKept i root input (goes s p IsLost) t
  -- and each store and exchange is of a cell that the frames have
  pub cells : (cell : Cell) (content : Content) (next : Then)
      → s.doing p ≡ InRow (Store cell content next) → is_cell i.shape cell ≡ true
  pub exchange_cells : (cell : Cell) (old new : Content) (next : Then)
      → s.doing p ≡ InRow (Exchange cell old new next) → is_cell i.shape cell ≡ true

-- in each such row, from words that are kept
abbrev pub UnwindRowKeeps : Type 0
UnwindRowKeeps = (i : Setting) → IsFair i.code
    → (root : Tree (Frame FrameWord Point) Result) (input : Words) (s : State) (t : Skeleton)
    → IsKept i root input s t
    → (p : ℕ) → p < i.shape.processors → (f : ℕ) → s.kind p ≡ Unwind f
    → UnwindKeeps i root input s t p f

-- An exchange of a cell that frames have is one of the words by cells; any other is not seen
pub record ExchangesShow (s : Shape) (words : List ℕ) (seat : Seat) : Type 0 where
  pub seen : (victim : ℕ) (cell : Cell) (old new : Content) (next : Then) → is_cell s cell ≡ true
      → view s (words_after words (wanted_row s seat victim (Exchange cell old new next))) ≡ cond (view s words cell == word_of old) (write (view s words) cell (word_of new)) (view s words)
  pub unseen : (victim : ℕ) (cell : Cell) (old new : Content) (next : Then) → IsCell s cell
      → is_cell s cell ≡ false
      → view s (words_after words (wanted_row s seat victim (Exchange cell old new next))) ≡ view s words

-- of all words and seats
abbrev pub ExchangesAreSeen : Type 0
ExchangesAreSeen = (s : Shape) (words : List ℕ) (seat : Seat) → AreWordsOf s words
    → ExchangesShow s words seat
