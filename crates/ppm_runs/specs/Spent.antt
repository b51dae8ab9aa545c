-- Where a run was stopped by a full pool, the depth-first run takes more words than a pool has; and no place
-- gives out more of its pool than that run takes.
use Rattle.std.specs.Prelude.{◌≡◌, ◌≤◌, ◌<◌, ℕ, ◌+◌, List, Some}
use Rattle.std.specs.List.{AllByRecursion}
use Rattle.ppm_strands.specs.Calm.{Calm}
use Rattle.ppm_strands.specs.Run.{End, Ends}
use Rattle.ppm_words.specs.declared.named_array.NamedArray.{NamedArray}
use Rattle.ppm_cells.specs.Cells.{pool_at}
use Rattle.ppm_cells.specs.Finish.{finish_of}
use Rattle.ppm_cells.specs.Memory.{read}
use Rattle.ppm_cells.specs.declared.cell.Cell.TheVariants.{FinishWord, RoomCounter}
use Rattle.ppm_cells.specs.declared.finish.Finish.TheVariants.{OutOfRoom}
use Rattle.ppm_cells.specs.declared.shape.Shape.{Shape}
use Rattle.ppm_code.specs.Sizes.{frame_size}
use Rattle.ppm_code.specs.Strands.{Result}
use Rattle.ppm_code.specs.declared.code.CodeParts.{CodeParts}
use Rattle.ppm_layout.specs.Correct.{Opens}
use Rattle.ppm_layout.specs.Root.{root_strand}
use Rattle.ppm_layout.specs.declared.images.Image.{Image}
use Rattle.ppm_step.specs.Among.{IsTurnAmong}
use Rattle.ppm_step.specs.Laws.{reached}
use Rattle.ppm_step.specs.declared.turn.Turn.{Turn}
use Rattle.ppm_frames.specs.Views.{view}
use Rattle.ppm_frames.specs.Seen.{arrays_at}
use Rattle.ppm_kept.specs.Running.{IsFair, strands}

-- Whatever the takeover, from an image of a sound code, whatever the turns: where the finish word says that a
-- pool is full, and the depth-first run of the root comes to an end, the root's frame and the block words that
-- it counts are more than a pool has.
abbrev pub RoomIsSpent : Type 0
RoomIsSpent = (code : CodeParts) (input : List NamedArray) (s : Shape) (keeper : ℕ) (image : Image)
    → IsFair code → Opens code input s keeper image
    → Calm (strands s code) (root_strand code input) (arrays_at (view s image.words))
    → (turns : List Turn) → AllByRecursion (IsTurnAmong s.processors) turns
    → (place : ℕ) → finish_of (read s (reached s code image.words turns).words FinishWord) ≡ Some (OutOfRoom place)
    → (end : End Result) → Ends (strands s code) (root_strand code input) (arrays_at (view s image.words)) end
    → s.room < frame_size code code.root + end.counts.block_words

-- At each moment, also after a stop, and whatever the takeover: no place has given out more of its pool than
-- the root's frame and the block words that the depth-first run counts to its end.
abbrev pub RoomIsWithin : Type 0
RoomIsWithin = (code : CodeParts) (input : List NamedArray) (s : Shape) (keeper : ℕ) (image : Image)
    → IsFair code → Opens code input s keeper image
    → Calm (strands s code) (root_strand code input) (arrays_at (view s image.words))
    → (turns : List Turn) → AllByRecursion (IsTurnAmong s.processors) turns
    → (end : End Result) → Ends (strands s code) (root_strand code input) (arrays_at (view s image.words)) end
    → (place : ℕ) → place < s.processors
    → read s (reached s code image.words turns).words (RoomCounter place) ≤ pool_at s place + (frame_size code code.root + end.counts.block_words)
