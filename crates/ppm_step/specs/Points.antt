-- The loads of the rows: which word each is of, and how it is read.
use Rattle.std.specs.Prelude.{ℕ, ◌+◌, ◌-◌}
-- the words of a frame and of a fork block, by their names
pub use Rattle.ppm_cells.specs.Blocks.{outcome_word, header_word, value_word, target_word, order_word, left_outcome_word, right_outcome_word, offset_word}
use Rattle.ppm_cells.specs.declared.cell.Cell.{Cell}
use Rattle.ppm_cells.specs.declared.cell.Cell.TheVariants.{DeadWord, RestartWord, MessageWord, HolderWord, Top, EntryWord, BlockWord}
use Rattle.ppm_step.specs.declared.content.Reading.{Reading}
use Rattle.ppm_step.specs.declared.content.Reading.TheVariants.{AsNumber, AsRestart, AsEntry, AsHolder, AsLink, AsFinish}
use Rattle.ppm_step.specs.declared.row.Seat.{Seat}
use Rattle.ppm_step.specs.declared.row.Point.{Point}
use Rattle.ppm_step.specs.declared.row.Point.TheVariants.{Header, BumpLink, PushOrder, PushAbove, PushBottom, UnwindLink, UnwindOutcome, Target, GivenValue}
use Rattle.ppm_step.specs.declared.row.Point.TheVariants.{JoinOrder, JoinLink, JoinLeft, JoinRight, RightFrame, Offset, PopBelow, PopAgain, PopAbove}
use Rattle.ppm_step.specs.declared.row.Point.TheVariants.{SeekHolder, SeekDead, SeekTop, SeekEntry, SeekClosed, StealMessage, TakenMessage, TakenEntry}
use Rattle.ppm_step.specs.declared.row.Point.TheVariants.{ClosedRestart, ClosedLink, ClosedBottom, BidMessage, BidAgain, BidHolder}

-- the word that is loaded
abbrev pub cell_at : Seat → (victim : ℕ) → Point → Cell
cell_at seat victim (Header frame copy) = header_word frame copy
cell_at seat victim (BumpLink block) = BlockWord block
cell_at seat victim (PushOrder block) = order_word block
cell_at seat victim (PushAbove block) = EntryWord seat.place (seat.restart.bottom + 1)
cell_at seat victim (PushBottom block) = EntryWord seat.place seat.restart.bottom
cell_at seat victim (UnwindLink frame) = BlockWord frame
cell_at seat victim (UnwindOutcome frame link) = outcome_word frame
cell_at seat victim (Target frame to copy right_of) = target_word frame
cell_at seat victim (GivenValue frame to copy target right_of) = value_word frame
cell_at seat victim (JoinOrder block side) = order_word block
cell_at seat victim (JoinLink block) = BlockWord block
cell_at seat victim (JoinLeft block to copy) = left_outcome_word block
cell_at seat victim (JoinRight block to copy left) = right_outcome_word block
cell_at seat victim (RightFrame block to copy) = offset_word block
cell_at seat victim (Offset block bottom) = offset_word block
cell_at seat victim PopBelow = EntryWord seat.place (seat.restart.bottom - 1)
cell_at seat victim (PopAgain block) = EntryWord seat.place (seat.restart.bottom - 1)
cell_at seat victim (PopAbove block) = EntryWord seat.place seat.restart.bottom
cell_at seat victim SeekHolder = HolderWord victim
cell_at seat victim (SeekDead v holder) = DeadWord holder.processor
cell_at seat victim (SeekTop v) = Top v
cell_at seat victim (SeekEntry v slot) = EntryWord v slot
cell_at seat victim (SeekClosed v slot entry) = DeadWord v
cell_at seat victim (StealMessage v slot) = MessageWord seat.place
cell_at seat victim (TakenMessage by v slot) = MessageWord by
cell_at seat victim (TakenEntry by v slot message) = EntryWord v slot
cell_at seat victim (ClosedRestart v slot block) = RestartWord v
cell_at seat victim (ClosedLink block) = BlockWord block
cell_at seat victim (ClosedBottom v slot block) = EntryWord v slot
cell_at seat victim (BidMessage v dead) = MessageWord seat.place
cell_at seat victim (BidAgain v) = MessageWord seat.place
cell_at seat victim (BidHolder v message) = HolderWord v

-- how it is read
abbrev pub reading_at : Point → Reading
reading_at (Header frame copy) = AsNumber
reading_at (BumpLink block) = AsLink
reading_at (PushOrder block) = AsNumber
reading_at (PushAbove block) = AsEntry
reading_at (PushBottom block) = AsEntry
reading_at (UnwindLink frame) = AsLink
reading_at (UnwindOutcome frame link) = AsFinish
reading_at (Target frame to copy right_of) = AsNumber
reading_at (GivenValue frame to copy target right_of) = AsNumber
reading_at (JoinOrder block side) = AsNumber
reading_at (JoinLink block) = AsLink
reading_at (JoinLeft block to copy) = AsFinish
reading_at (JoinRight block to copy left) = AsFinish
reading_at (RightFrame block to copy) = AsNumber
reading_at (Offset block bottom) = AsNumber
reading_at PopBelow = AsEntry
reading_at (PopAgain block) = AsEntry
reading_at (PopAbove block) = AsEntry
reading_at SeekHolder = AsHolder
reading_at (SeekDead v holder) = AsNumber
reading_at (SeekTop v) = AsNumber
reading_at (SeekEntry v slot) = AsEntry
reading_at (SeekClosed v slot entry) = AsNumber
reading_at (StealMessage v slot) = AsEntry
reading_at (TakenMessage by v slot) = AsEntry
reading_at (TakenEntry by v slot message) = AsEntry
reading_at (ClosedRestart v slot block) = AsRestart
reading_at (ClosedLink block) = AsLink
reading_at (ClosedBottom v slot block) = AsEntry
reading_at (BidMessage v dead) = AsHolder
reading_at (BidAgain v) = AsHolder
reading_at (BidHolder v message) = AsHolder
