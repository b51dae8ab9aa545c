-- What the machine's word steps make of the words by cells.
use Rattle.std.specs.Prelude.{◌≡◌, ◌<◌, ℕ, ◌==◌, cond, true, List}
use Rattle.ppm_cells.specs.Finish.{finish_word}
use Rattle.ppm_cells.specs.Memory.{AreWordsOf}
use Rattle.ppm_cells.specs.declared.cell.Cell.{Cell}
use Rattle.ppm_cells.specs.declared.cell.Cell.TheVariants.{FinishWord}
use Rattle.ppm_cells.specs.declared.finish.Finish.TheVariants.{OutOfRoom}
use Rattle.ppm_cells.specs.declared.restart.RestartKind.{RestartKind}
use Rattle.ppm_cells.specs.declared.restart.RestartKind.TheVariants.{Run}
use Rattle.ppm_cells.specs.declared.shape.Shape.{Shape}
use Rattle.ppm_strands.specs.Tree.{Words, Tree}
use Rattle.ppm_strands.specs.Strand.{Frame}
use Rattle.ppm_code.specs.Strands.{Point, Result}
use Rattle.ppm_code.specs.declared.location.FrameWord.{FrameWord}
use Rattle.ppm_step.specs.Contents.{word_of}
use Rattle.ppm_step.specs.Frames.{Rest, Loads, Stores, Full, Installs}
use Rattle.ppm_step.specs.Points.{cell_at}
use Rattle.ppm_step.specs.Standings.{wanted_then, wanted_row, wanted_rest}
use Rattle.ppm_step.specs.State.{found_in, words_after}
use Rattle.ppm_step.specs.There.{is_there}
use Rattle.ppm_step.specs.declared.content.Content.{Content}
use Rattle.ppm_step.specs.declared.row.Point.{Point as RowPoint}
use Rattle.ppm_step.specs.declared.row.Row.TheVariants.{Now, Store}
use Rattle.ppm_step.specs.declared.row.Seat.{Seat}
use Rattle.ppm_step.specs.declared.row.Then.{Then}
use Rattle.ppm_step.specs.declared.row.Then.TheVariants.{Load}
use Rattle.ppm_frames.specs.Views.{written, is_cell, view}
use Rattle.ppm_frames.specs.Skeletons.{Skeleton}
use Rattle.ppm_kept.specs.Running.{IsFair, MayStore}
use Rattle.ppm_kept.specs.Kept.{Setting, State, IsKept}
use Rattle.ppm_kept.specs.Laws.{Ends}

-- a load finds the word of its cell, a store is a write, an install is not seen, a full pool is an
-- exchange of the finish word
pub record StepsShow (s : Shape) (words : List ℕ) (seat : Seat) : Type 0 where
  pub loads : (cell : Cell) (next : ℕ → Rest) → is_cell s cell ≡ true
      → found_in words (wanted_rest s seat (Loads cell next)) ≡ view s words cell
  pub stores : (cell : Cell) (content : Content) (rest : Rest) → is_cell s cell ≡ true
      → view s (words_after words (wanted_rest s seat (Stores cell content rest))) ≡ written (view s words) cell (word_of content)
  pub installs : (kind : RestartKind)
      → view s (words_after words (wanted_rest s seat (Installs kind))) ≡ view s words
  pub fills : view s (words_after words (wanted_rest s seat Full))
      ≡ cond (view s words FinishWord == 0) (written (view s words) FinishWord (finish_word (OutOfRoom seat.place))) (view s words)
  pub row_loads : (victim : ℕ) (point : RowPoint) → is_cell s (cell_at seat victim point) ≡ true
      → found_in words (wanted_then s seat victim (Load point)) ≡ view s words (cell_at seat victim point)
  pub row_stores : (victim : ℕ) (cell : Cell) (content : Content) (next : Then)
      → is_cell s cell ≡ true
      → view s (words_after words (wanted_row s seat victim (Store cell content next))) ≡ written (view s words) cell (word_of content)
  pub row_installs : (victim : ℕ) (next : Then) → Ends next
      → view s (words_after words (wanted_row s seat victim (Now next))) ≡ view s words

-- of all words and seats
abbrev pub StepsAreSeen : Type 0
StepsAreSeen = (s : Shape) (words : List ℕ) (seat : Seat) → AreWordsOf s words
    → seat.place < s.processors → StepsShow s words seat

-- the cells that a capsule under way stores into are such cells, where they are there
abbrev pub StoresAreCells : Type 0
StoresAreCells = (i : Setting) → IsFair i.code
    → (root : Tree (Frame FrameWord Point) Result) (input : Words) (s : State) (t : Skeleton)
    → IsKept i root input s t
    → (p : ℕ) → p < i.shape.processors → (f y : ℕ) → s.kind p ≡ Run f y
    → (cell : Cell) → MayStore i.shape i.code s.words p f y cell → is_there i.shape cell ≡ true
    → is_cell i.shape cell ≡ true
