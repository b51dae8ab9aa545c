-- Where a processor stands, the word step that comes next, and where it stands after it.
use Rattle.std.specs.Prelude.{ℕ, zero, suc, ◌<◌, nat_lt, if◌then◌else◌, Bool, true, false, Option, Some, None, slice_get}
use Rattle.ppm_cells.specs.Cells.{address, word_count}
use Rattle.ppm_cells.specs.Finish.{finish_word}
use Rattle.ppm_cells.specs.Restart.{restart_of, restart_word}
use Rattle.ppm_cells.specs.declared.cell.Cell.TheVariants.{FinishWord, CarryWord, RestartWord}
use Rattle.ppm_cells.specs.declared.finish.Finish.TheVariants.{OutOfRoom, Broken as BrokenAt}
use Rattle.ppm_cells.specs.declared.restart.Restart.{Restart}
use Rattle.ppm_cells.specs.declared.restart.RestartKind.{RestartKind}
use Rattle.ppm_cells.specs.declared.restart.RestartKind.TheVariants.{Run, Push1}
use Rattle.ppm_cells.specs.declared.shape.Shape.{Shape}
use Rattle.ppm_code.specs.Capsules.{capsule_of}
use Rattle.ppm_code.specs.declared.code.Capsule.{Capsule}
use Rattle.ppm_code.specs.declared.code.CodeParts.{CodeParts}
use Rattle.ppm_step.specs.declared.row.Seat.{Seat}
use Rattle.ppm_step.specs.declared.row.Point.{Point}
use Rattle.ppm_step.specs.declared.row.Point.TheVariants.{SeekHolder}
use Rattle.ppm_step.specs.declared.row.Then.{Then}
use Rattle.ppm_step.specs.declared.row.Then.TheVariants.{Load, Install, Fork, Begin, Move, Enter, Again}
use Rattle.ppm_step.specs.declared.row.Row.{Row}
use Rattle.ppm_step.specs.declared.row.Row.TheVariants.{Now, Store, Exchange}
use Rattle.ppm_step.specs.declared.ask.Want.{Want}
use Rattle.ppm_step.specs.declared.ask.Want.TheVariants.{Loads as WantsLoad, Stores as WantsStore, Exchanges as WantsExchange, Nothing}
use Rattle.ppm_step.specs.Contents.{content_of, word_of}
use Rattle.ppm_step.specs.There.{is_there, restart_is_there}
use Rattle.ppm_step.specs.Points.{cell_at, reading_at}
use Rattle.ppm_step.specs.Rows.{found_at, row_of}
use Rattle.ppm_step.specs.Frames.{Rest, Loads, Stores, Full, Installs, Breaks, rest_of}

-- where a processor stands: it has lost its registers, knows its place, knows its restart word too, is within a row or within a capsule
-- of a frame, has met broken words at a place, or is done
pub data Standing : Type 0 where
  IsLost : Standing
  IsPlaced : (place : ℕ) → Standing
  IsAt : (place : ℕ) → Option Restart → Standing
  IsWithin : Seat → Row → Standing
  IsRunning : Seat → Rest → Standing
  IsBroken : (place : ℕ) → Standing
  IsDone : Standing

-- the place that isn't known
abbrev pub unknown_place : ℕ
unknown_place = 64

-- the restart of each end of a row that installs one
abbrev pub begun : (frame bottom : ℕ) → Restart
begun frame bottom = record { kind = Run frame 0; bottom = bottom }

abbrev pub forked : Seat → (block : ℕ) → Restart
forked seat block = record { kind = Push1 block; bottom = seat.restart.bottom }

-- the word of a load is there; which victim a turn names is its own matter
abbrev pub point_is_there : Shape → Seat → Point → Bool
point_is_there s seat SeekHolder = true
point_is_there s seat point = is_there s (cell_at seat 0 point)

-- what a row asks next is there
abbrev pub then_is_there : Shape → Seat → Then → Bool
then_is_there s seat (Load point) = point_is_there s seat point
then_is_there s seat (Install restart) = restart_is_there s restart
then_is_there s seat (Fork block) = restart_is_there s (forked seat block)
then_is_there s seat (Begin block frame bottom) = restart_is_there s (begun frame bottom)
then_is_there s seat (Move place) = nat_lt place s.processors
then_is_there s seat _ = false

abbrev pub row_is_there : Shape → Seat → Row → Bool
row_is_there s seat (Now next) = then_is_there s seat next
row_is_there s seat (Store cell content next) = is_there s cell
row_is_there s seat (Exchange cell old new next) = is_there s cell

-- what a capsule asks next is there
abbrev pub rest_is_there : Shape → Seat → Rest → Bool
rest_is_there s seat (Loads cell go) = is_there s cell
rest_is_there s seat (Stores cell content rest) = is_there s cell
rest_is_there s seat Full = true
rest_is_there s seat (Installs kind) = restart_is_there s (record { kind = kind; bottom = seat.restart.bottom })
rest_is_there s seat Breaks = false

-- within a row, or at broken words
abbrev pub within_if : Seat → Row → Bool → Standing
within_if seat row true = IsWithin seat row
within_if seat row false = IsBroken seat.place

-- within a capsule, or at broken words
abbrev pub running_if : Seat → Rest → Bool → Standing
running_if seat rest true = IsRunning seat rest
running_if seat rest false = IsBroken seat.place

abbrev pub running : Shape → Seat → Rest → Standing
running s seat rest = running_if seat rest (rest_is_there s seat rest)

-- a capsule begins with registers of 0, and without a new block
abbrev pub enters : Shape → CodeParts → Seat → RestartKind → Option Capsule → Standing
enters s code seat (Run frame copy) (Some capsule) =
    running s seat (rest_of s code seat.place (record { frame = frame; copy = copy; block = 0 }) (capsule_of s.arrays capsule.instrs))
enters s code seat kind capsule = IsBroken seat.place

-- where a processor stands with this left of its row
abbrev pub stands_then : Shape → CodeParts → Seat → Then → Standing
stands_then s code seat (Enter capsule) = enters s code seat seat.restart.kind (slice_get code.capsules capsule)
stands_then s code seat Again = IsAt seat.place (Some seat.restart)
stands_then s code seat next = within_if seat (Now next) (then_is_there s seat next)

abbrev pub stands : Shape → CodeParts → Seat → Row → Standing
stands s code seat (Now next) = stands_then s code seat next
stands s code seat row = within_if seat row (row_is_there s seat row)

-- a row begins, if the restart word names what is there
abbrev pub begins_if : Shape → CodeParts → Seat → Bool → Standing
begins_if s code seat true = stands s code seat (row_of s seat seat.restart.kind)
begins_if s code seat false = IsBroken seat.place

abbrev pub begins : Shape → CodeParts → (own place : ℕ) → Option Restart → Standing
begins s code own place None = IsBroken place
begins s code own place (Some restart) =
    begins_if s code (record { own = own; place = place; restart = restart }) (restart_is_there s restart)

-- the store of a restart word
abbrev pub installs : Shape → Seat → Restart → Want
installs s seat restart = WantsStore (address s (RestartWord seat.place)) (restart_word restart)

-- the word step that comes next, where the turn names this victim
abbrev pub wanted_then : Shape → Seat → (victim : ℕ) → Then → Want
wanted_then s seat victim (Load point) = WantsLoad (address s (cell_at seat victim point))
wanted_then s seat victim (Install restart) = installs s seat restart
wanted_then s seat victim (Fork block) = installs s seat (forked seat block)
wanted_then s seat victim (Begin block frame bottom) = installs s seat (begun frame bottom)
wanted_then s seat victim (Move place) = WantsStore (address s (CarryWord seat.own)) place
wanted_then s seat victim _ = Nothing

abbrev pub wanted_row : Shape → Seat → (victim : ℕ) → Row → Want
wanted_row s seat victim (Now next) = wanted_then s seat victim next
wanted_row s seat victim (Store cell content next) = WantsStore (address s cell) (word_of content)
wanted_row s seat victim (Exchange cell old new next) = WantsExchange (address s cell) (word_of old) (word_of new)

abbrev pub wanted_rest : Shape → Seat → Rest → Want
wanted_rest s seat (Loads cell go) = WantsLoad (address s cell)
wanted_rest s seat (Stores cell content rest) = WantsStore (address s cell) (word_of content)
wanted_rest s seat Full = WantsExchange (address s FinishWord) 0 (finish_word (OutOfRoom seat.place))
wanted_rest s seat (Installs kind) = installs s seat (record { kind = kind; bottom = seat.restart.bottom })
wanted_rest s seat Breaks = Nothing

abbrev pub wanted : Shape → (own victim : ℕ) → Standing → Want
wanted s own victim IsLost = WantsLoad (address s (CarryWord own))
wanted s own victim (IsPlaced place) = WantsLoad (address s (RestartWord place))
wanted s own victim (IsAt place restart) = WantsLoad (address s FinishWord)
wanted s own victim (IsWithin seat row) = wanted_row s seat victim row
wanted s own victim (IsRunning seat rest) = wanted_rest s seat rest
wanted s own victim (IsBroken place) = WantsExchange (address s FinishWord) 0 (finish_word (BrokenAt place))
wanted s own victim IsDone = Nothing

-- where the processor stands after it, by the word that a load gave
abbrev pub went_then : Shape → CodeParts → Seat → (victim found : ℕ) → Then → Standing
went_then s code seat victim found (Load point) =
    stands s code seat (found_at s seat victim point (content_of (reading_at point) found))
went_then s code seat victim found (Install restart) = IsAt seat.place (Some restart)
went_then s code seat victim found (Fork block) = IsAt seat.place (Some (forked seat block))
went_then s code seat victim found (Begin block frame bottom) = IsAt seat.place (Some (begun frame bottom))
went_then s code seat victim found (Move place) = IsPlaced place
went_then s code seat victim found next = stands_then s code seat next

abbrev pub went_row : Shape → CodeParts → Seat → (victim found : ℕ) → Row → Standing
went_row s code seat victim found (Now next) = went_then s code seat victim found next
went_row s code seat victim found (Store cell content next) = stands_then s code seat next
went_row s code seat victim found (Exchange cell old new next) = stands_then s code seat next

abbrev pub went_rest : Shape → Seat → (found : ℕ) → Rest → Standing
went_rest s seat found (Loads cell go) = running s seat (go found)
went_rest s seat found (Stores cell content rest) = running s seat rest
went_rest s seat found Full = IsAt seat.place (Some seat.restart)
went_rest s seat found (Installs kind) = IsAt seat.place (Some (record { kind = kind; bottom = seat.restart.bottom }))
went_rest s seat found Breaks = IsBroken seat.place

-- the carried place, if it is one
abbrev pub placed : Shape → (place : ℕ) → Standing
placed s place = if nat_lt place s.processors then IsPlaced place else IsBroken unknown_place

-- by the finish word: where it is none, a row begins
abbrev pub at_finish : Shape → CodeParts → (own place : ℕ) → Option Restart → (finish : ℕ) → Standing
at_finish s code own place restart zero = begins s code own place restart
at_finish s code own place restart (suc finish) = IsDone

abbrev pub went : Shape → CodeParts → (own victim found : ℕ) → Standing → Standing
went s code own victim found IsLost = placed s found
went s code own victim found (IsPlaced place) = IsAt place (restart_of found)
went s code own victim found (IsAt place restart) = at_finish s code own place restart found
went s code own victim found (IsWithin seat row) = went_row s code seat victim found row
went s code own victim found (IsRunning seat rest) = went_rest s seat found rest
went s code own victim found (IsBroken place) = IsDone
went s code own victim found IsDone = IsDone

-- the word of a want is there
abbrev pub WantIsWithin : Shape → Want → Type 0
WantIsWithin s (WantsLoad at) = at < word_count s
WantIsWithin s (WantsStore at word) = at < word_count s
WantIsWithin s (WantsExchange at old new) = at < word_count s
WantIsWithin s Nothing = Unit {0}
