-- The words of a machine as spots show them, and what each place is at.
use Rattle.std.specs.Prelude.{ℕ, zero, suc, nat_lt, if◌then◌else◌, Bool, false, List, Option, Some, None}
use Rattle.ppm_cells.specs.Memory.{read}
use Rattle.ppm_cells.specs.Restart.{restart_of}
use Rattle.ppm_cells.specs.declared.cell.Cell.{Cell}
use Rattle.ppm_cells.specs.declared.cell.Cell.TheVariants as cells
use Rattle.ppm_cells.specs.declared.entry.Entry.TheVariants as entries
use Rattle.ppm_cells.specs.declared.restart.Restart.{Restart}
use Rattle.ppm_cells.specs.declared.restart.RestartKind.{RestartKind}
use Rattle.ppm_cells.specs.declared.restart.RestartKind.TheVariants.{Seek}
use Rattle.ppm_cells.specs.declared.shape.Shape.{Shape}
use Rattle.ppm_step.specs.Contents.{content_of}
use Rattle.ppm_step.specs.There.{is_there}
use Rattle.ppm_step.specs.declared.content.Content.{Content}
use Rattle.ppm_step.specs.declared.content.Content.TheVariants.{ANumber, ARestart, AnEntry, AHolder, ALink, Unreadable}
use Rattle.ppm_step.specs.declared.content.Reading.{Reading}
use Rattle.ppm_step.specs.declared.content.Reading.TheVariants.{AsNumber, AsRestart, AsEntry, AsHolder}
use Rattle.ppm_tickets.specs.Words.{Word, Empty, Local, Job, Taken, Held, Number, Linked, Restarts, Unread, Spot, Message, Bid, Top, Slot, Holder, Carry, Dead, Restart as RestartSpot, Other}

-- the most words that a machine has, of any shape
abbrev pub most_words : ℕ
most_words = 75497921

-- a content as a word, and back
abbrev pub word_as : Content → Word
word_as (AnEntry (entries.Empty t)) = Empty t
word_as (AnEntry (entries.Local t x)) = Local t x
word_as (AnEntry (entries.Job t x)) = Job t x
word_as (AnEntry (entries.Taken t x)) = Taken t x
word_as (AHolder h) = Held h.tag h.processor
word_as (ANumber n) = Number n
word_as (ALink link) = Linked link
word_as (ARestart r) = Restarts r.kind r.bottom
word_as _ = Unread

-- the content that a word stands for
abbrev pub content_by : Word → Content
content_by (Empty t) = AnEntry (entries.Empty t)
content_by (Local t x) = AnEntry (entries.Local t x)
content_by (Job t x) = AnEntry (entries.Job t x)
content_by (Taken t x) = AnEntry (entries.Taken t x)
content_by (Held t c) = AHolder (record { tag = t; processor = c })
content_by (Number n) = ANumber n
content_by (Linked link) = ALink link
content_by (Restarts kind bottom) = ARestart (record { kind = kind; bottom = bottom })
content_by Unread = Unreadable

-- how a content is read again
abbrev pub reading_by : Content → Reading
reading_by (AnEntry e) = AsEntry
reading_by (AHolder h) = AsHolder
reading_by _ = AsNumber

-- the cell of a spot, and how it is read
abbrev pub cell_of : Spot → Cell
cell_of (Message p) = cells.MessageWord p
cell_of (Bid p) = cells.MessageWord p
cell_of (Top v) = cells.Top v
cell_of (Slot v i) = cells.EntryWord v i
cell_of (Holder v) = cells.HolderWord v
cell_of (Carry c) = cells.CarryWord c
cell_of (Dead c) = cells.DeadWord c
cell_of (RestartSpot p) = cells.FinishWord
cell_of Other = cells.FinishWord

-- how the cell of a spot is read
abbrev pub reading_of : Spot → Reading
reading_of (Message p) = AsEntry
reading_of (Bid p) = AsHolder
reading_of (Slot v i) = AsEntry
reading_of (Holder v) = AsHolder
reading_of _ = AsNumber

-- the spot that a cell shows where it is read so
abbrev pub spot : Reading → Cell → Spot
spot AsEntry (cells.MessageWord p) = Message p
spot AsHolder (cells.MessageWord p) = Bid p
spot AsEntry (cells.EntryWord v i) = Slot v i
spot AsHolder (cells.HolderWord v) = Holder v
spot AsRestart (cells.RestartWord p) = RestartSpot p
spot AsNumber (cells.Top v) = Top v
spot AsNumber (cells.CarryWord c) = Carry c
spot AsNumber (cells.DeadWord c) = Dead c
spot _ _ = Other

-- the spots that a shape has
abbrev pub is_shown : Shape → Spot → Bool
is_shown s Other = false
is_shown s (RestartSpot p) = false
is_shown s d = is_there s (cell_of d)

-- what stands for those that it does not have
abbrev pub absent : Spot → Word
absent (Slot v zero) = Taken 0 0
absent (Slot v (suc zero)) = Local 0 0
absent (Slot v (suc (suc i))) = Empty 0
absent (Message p) = Number 0
absent (Bid p) = Number 0
absent (Top v) = Number 1
absent (Holder v) = Held 0 v
absent (Carry c) = Number c
absent (Dead c) = Number 0
absent (RestartSpot p) = Unread
absent Other = Unread

-- the words by spots
abbrev pub view : Shape → List ℕ → Spot → Word
view s words d = if is_shown s d then word_as (content_of (reading_of d) (read s words (cell_of d))) else absent d

-- the restart of a place; one that is not there, or whose word is broken, seeks
abbrev pub seeking : Restart
seeking = record { kind = Seek; bottom = 1 }

-- the restart that was read
abbrev pub restart_or : Option Restart → Restart
restart_or None = seeking
restart_or (Some restart) = restart

-- the restart of place p
abbrev pub restart_at : Shape → List ℕ → ℕ → Restart
restart_at s words p = if nat_lt p s.processors then restart_or (restart_of (read s words (cells.RestartWord p))) else seeking

-- what each place is at
abbrev pub kinds : Shape → List ℕ → ℕ → RestartKind
kinds s words p = (restart_at s words p).kind

-- the words with what each place is at
abbrev pub with_restarts : (Spot → Word) → (ℕ → RestartKind) → (ℕ → ℕ) → Spot → Word
with_restarts m k b (RestartSpot p) = Restarts (k p) (b p)
with_restarts m k b d = m d

-- the bottom of each place's deque
abbrev pub bottoms : Shape → List ℕ → ℕ → ℕ
bottoms s words p = (restart_at s words p).bottom
