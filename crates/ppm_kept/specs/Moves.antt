-- What a turn of a place makes of the words, the kinds and the skeleton; where a processor stands
-- is the machine's own.
use Rattle.std.specs.Prelude.{ℕ, ◌+◌, ◌==◌, cond, true}
use Rattle.ppm_cells.specs.Finish.{finish_word}
use Rattle.ppm_cells.specs.declared.finish.Finish.TheVariants.{OutOfRoom}
use Rattle.ppm_cells.specs.declared.cell.Cell.{Cell}
use Rattle.ppm_cells.specs.declared.cell.Cell.TheVariants.{FinishWord, BlockWord}
use Rattle.ppm_cells.specs.declared.link.LinkKind.{LinkKind}
use Rattle.ppm_cells.specs.declared.link.LinkKind.TheVariants.{Call as Called, Fork as Forked}
use Rattle.ppm_cells.specs.declared.restart.RestartKind.{RestartKind}
use Rattle.ppm_cells.specs.declared.restart.RestartKind.TheVariants.{Run, Bump, Unwind}
use Rattle.ppm_code.specs.Sizes.{slots_at}
use Rattle.ppm_step.specs.Contents.{word_of}
use Rattle.ppm_step.specs.Points.{cell_at}
use Rattle.ppm_step.specs.Rows.{row_of}
use Rattle.ppm_step.specs.Standings.{Standing, IsWithin, IsRunning, within_if, went_row}
use Rattle.ppm_step.specs.declared.content.Content.{Content}
use Rattle.ppm_step.specs.declared.row.Point.{Point as RowPoint}
use Rattle.ppm_step.specs.declared.row.Row.TheVariants.{Now, Store, Exchange}
use Rattle.ppm_step.specs.declared.row.Seat.{Seat}
use Rattle.ppm_step.specs.declared.row.Then.{Then}
use Rattle.ppm_step.specs.declared.row.Then.TheVariants.{Load}
use Rattle.ppm_frames.specs.Views.{written as write}
use Rattle.ppm_frames.specs.Skeletons.{Stand, Begins, Over, InPlace, Fresh, Skeleton, Leaf, Calling, Forking, grow}
use Rattle.ppm_frames.specs.Good.{link_at}
use Rattle.ppm_kept.specs.Kept.{Setting, Doing, Resting, InRow, InRest, State, put}

-- of a standing: the row or the capsule under way; at broken words, as before a row, none
abbrev pub doing_of : Standing → Doing
doing_of (IsWithin seat row) = InRow row
doing_of (IsRunning seat rest) = InRest rest
doing_of _ = Resting

-- place p stands elsewhere
abbrev pub goes : State → ℕ → Standing → State
goes s p standing = record { words = s.words; kind = s.kind; doing = put s.doing p (doing_of standing) }

-- a word is stored, and place p stands elsewhere
abbrev pub stores : State → ℕ → Cell → ℕ → Standing → State
stores s p c w standing = record { words = write s.words c w; kind = s.kind; doing = put s.doing p (doing_of standing) }

-- a word is exchanged if it is the old one
abbrev pub exchanges : State → ℕ → Cell → (old new : ℕ) → Standing → State
exchanges s p c old new standing = record {
  words = cond (s.words c == old) (write s.words c new) s.words;
  kind = s.kind;
  doing = put s.doing p (doing_of standing);
}

-- place p is at another kind, and has not begun it
abbrev pub installs : State → ℕ → RestartKind → State
installs s p k = record { words = s.words; kind = put s.kind p k; doing = put s.doing p Resting }

-- a place whose pool is full proposes that as the finish
abbrev pub fills : State → ℕ → State
fills s p = record {
  words = cond (s.words FinishWord == 0) (write s.words FinishWord (finish_word (OutOfRoom p))) s.words;
  kind = s.kind;
  doing = put s.doing p Resting;
}

module _ (i : Setting) where
  -- what the leaf of place p becomes by the block r of this link: a callee above its frame, or two
  -- branches, of which the right one is not pushed yet
  abbrev pub opened : (Cell → ℕ) → (p r : ℕ) → LinkKind → Stand → (f n : ℕ) → Skeleton
  opened m p r (Called g z) st f n = Calling f n z (Leaf (InPlace p) (Begins 0) r (slots_at i.code (m (BlockWord (r + 2)))))
  opened m p r (Forked g z) st f n = Forking f n z r (Leaf (InPlace p) (Begins 0) (r + 5) (slots_at i.code (m (BlockWord (r + 7)))))
      (Leaf Fresh (Begins 0) (r + m (BlockWord (r + 4))) (slots_at i.code (m (BlockWord (r + (m (BlockWord (r + 4)) + 2))))))
  opened m p r _ st f n = Leaf (InPlace p) st f n

  -- what an install at the end of a capsule makes of the skeleton
  abbrev pub by_install : (Cell → ℕ) → ℕ → RestartKind → RestartKind → Skeleton → Skeleton
  by_install m p (Run f y) (Run g z) t = grow p (λ st f n. Leaf (InPlace p) (Begins z) f n) t
  by_install m p (Run f y) (Unwind g) t = grow p (λ st f n. Leaf (InPlace p) Over f n) t
  by_install m p (Run f y) (Bump r) t = grow p (opened m p r (link_at (m (BlockWord r))).kind) t
  by_install m p _ _ t = t

-- the state after a step of place p in a row, by a seat of it; where it then stands is the machine's
module _ (i : Setting) (s : State) (p : ℕ) (sits : Seat) where
  -- it begins a row of this kind
  abbrev pub begun : RestartKind → State
  begun kind = goes s p (within_if sits (row_of i.shape sits kind) true)

  -- the first load of that row has found a word
  abbrev pub entered : RestartKind → (victim found : ℕ) → State
  entered kind victim found =
      goes s p (went_row i.shape i.code sits victim found (row_of i.shape sits kind))

  -- a load has found the word of its cell
  abbrev pub loaded : (victim : ℕ) → RowPoint → State
  loaded victim point =
      goes s p (went_row i.shape i.code sits victim (s.words (cell_at sits victim point)) (Now (Load point)))

  -- a store
  abbrev pub stored : (found : ℕ) → Cell → Content → Then → State
  stored found cell content next =
      stores s p cell (word_of content)
      (went_row i.shape i.code sits found found (Store cell content next))

  -- an exchange of a cell that frames have
  abbrev pub exchanged : (found : ℕ) → Cell → (old new : Content) → Then → State
  exchanged found cell old new next =
      exchanges s p cell (word_of old) (word_of new)
      (went_row i.shape i.code sits found found (Exchange cell old new next))

  -- and of another cell, which is not seen
  abbrev pub exchanged_unseen : (found : ℕ) → Cell → (old new : Content) → Then → State
  exchanged_unseen found cell old new next =
      goes s p (went_row i.shape i.code sits found found (Exchange cell old new next))
