-- What a row under way has seen: the words that its loads have found, of which each may only have
-- gone on in its own order.
use Rattle.std.specs.Prelude.{◌≡◌, ◌≢◌, ◌⊎◌, ◌<◌, ℕ, true, List, [], ◌∷◌, Option, Some, None, slice_get}
use Rattle.ppm_cells.specs.declared.cell.Cell.{Cell}
use Rattle.ppm_cells.specs.declared.cell.Cell.TheVariants.{FinishWord, RoomCounter, BlockWord, ArrayWord}
use Rattle.ppm_cells.specs.declared.restart.Restart.{Restart}
use Rattle.ppm_cells.specs.declared.restart.RestartKind.{RestartKind}
use Rattle.ppm_cells.specs.declared.restart.RestartKind.TheVariants.{Run, Bump, Unwind, Arrive, Join, Pop1, Take}
use Rattle.ppm_cells.specs.declared.shape.Shape.{Shape}
use Rattle.ppm_cells.specs.declared.shape.Takeover.{Takeover}
use Rattle.ppm_cells.specs.declared.shape.Takeover.TheVariants.{ByPlaces, ByEntries}
use Rattle.ppm_step.specs.Contents.{IsContent}
use Rattle.ppm_step.specs.Frames.{Rest, Loads, Stores, Full, Installs, Breaks}
use Rattle.ppm_step.specs.Points.{cell_at, reading_at}
use Rattle.ppm_step.specs.Rows.{found_at, row_of}
use Rattle.ppm_step.specs.Standings.{Standing, IsLost, IsPlaced, IsAt, IsWithin, IsRunning, IsBroken, IsDone, row_is_there, rest_is_there}
use Rattle.ppm_step.specs.State.{stand_in}
use Rattle.ppm_step.specs.There.{restart_is_there}
use Rattle.ppm_step.specs.declared.row.Point.{Point}
use Rattle.ppm_step.specs.declared.row.Point.TheVariants.{Header, BumpLink, UnwindLink, UnwindOutcome, Target, GivenValue, JoinOrder, JoinLink, JoinLeft, JoinRight, RightFrame, Offset, TakenMessage, ClosedRestart}
use Rattle.ppm_step.specs.declared.row.Row.{Row}
use Rattle.ppm_step.specs.declared.row.Row.TheVariants.{Now, Store, Exchange}
use Rattle.ppm_step.specs.declared.row.Seat.{Seat}
use Rattle.ppm_step.specs.declared.row.Then.{Then}
use Rattle.ppm_step.specs.declared.row.Then.TheVariants.{Load, Install, Fork, Begin, Move, Broken}
use Rattle.ppm_tickets.specs.Homes.{Home}
use Rattle.ppm_tickets.specs.Lawful.{May, IsDead, IsAlive, Rooted, IsHome, Closed, Estate, Order, Holding, Counts}
use Rattle.ppm_tickets.specs.View.{word_as, content_by, reading_by, spot, with_restarts}
use Rattle.ppm_tickets.specs.Words.{Word, Number, Unread, Spot, Carry, Dead, Message, Restart as RestartSpot}

-- the place of a load
abbrev pub spot_at : Seat → (victim : ℕ) → Point → Spot
spot_at seat victim point = spot (reading_at point) (cell_at seat victim point)

-- the row of a place after the words that were seen in its cells, its own changes among them
abbrev pub rest_of : Shape → Seat → (victim : ℕ) → Row → List Word → Row
rest_of s seat v row [] = row
rest_of s seat v (Now (Load point)) (w ∷ ws) = rest_of s seat v (found_at s seat v point (content_by w)) ws
rest_of s seat v (Now next) (w ∷ ws) = Now Broken
rest_of s seat v (Store c x next) (w ∷ ws) = rest_of s seat v (Now next) ws
rest_of s seat v (Exchange c old new next) (w ∷ ws) = rest_of s seat v (Now next) ws

-- what a load has found
abbrev pub OfClosed : Takeover → Seat → (victim : ℕ) → (Spot → Word) → Point → Word
    → (known : Type 0) → Type 0
OfClosed ByPlaces seat v m point w known = May seat.own seat.place (spot_at seat v point) w (m (spot_at seat v point))
OfClosed ByEntries seat v m point w known = known

-- what a load tells: how the word may have gone on; of the message and the restart of a closed
-- place, with takeover by entries, that it is closed and that they are the same now
abbrev pub Knows : Takeover → Seat → (victim : ℕ) → (Spot → Word) → Point → Word → Type 0
Knows how seat v m (TakenMessage by u i) w = OfClosed how seat v m (TakenMessage by u i) w (((by ≡ seat.place) ⊎ IsDead (m (Dead by))) × (w ≡ m (Message by)))
Knows how seat v m (ClosedRestart u i x) w = OfClosed how seat v m (ClosedRestart u i x) w (IsDead (m (Dead u)) × ((w ≡ m (RestartSpot u)) ⊎ (w ≡ Unread)))
Knows how seat v m point w = May seat.own seat.place (spot_at seat v point) w (m (spot_at seat v point))

-- what was seen may have gone on. An exchange that is made lets go what was seen before it
abbrev pub Saw : Shape → Seat → (victim : ℕ) → (Spot → Word) → Type 0 → Row → List Word → Type 0
Saw s seat v m before row [] = before
Saw s seat v m before (Now (Load point)) (w ∷ ws) =
    Saw s seat v m (before × Knows s.takeover seat v m point w) (found_at s seat v point (content_by w)) ws
Saw s seat v m before (Now next) (w ∷ ws) = ⊥
Saw s seat v m before (Store c x next) (w ∷ ws) =
    Saw s seat v m (before × May seat.own seat.place (spot (reading_by x) c) (word_as x) (m (spot (reading_by x) c))) (Now next) ws
Saw s seat v m before (Exchange c old new next) (w ∷ ws) =
    Saw s seat v m (((w ≡ word_as new) ⊎ ((w ≢ word_as old) × before)) × May seat.own seat.place (spot (reading_by new) c) w (m (spot (reading_by new) c))) (Now next) ws

-- the numbers of a word fit it
abbrev pub AreFit : List Word → Type 0
AreFit [] = Unit {0}
AreFit (w ∷ ws) = IsContent (content_by w) × AreFit ws

-- a strand's kinds but for pushing and popping
abbrev pub IsStrand : RestartKind → Type 0
IsStrand (Run frame copy) = Unit {0}
IsStrand (Bump block) = Unit {0}
IsStrand (Unwind frame) = Unit {0}
IsStrand (Arrive block side) = Unit {0}
IsStrand (Join block side) = Unit {0}
IsStrand _ = ⊥

-- those and Pop1, which a strand goes on as
abbrev pub IsStrandOrPop : RestartKind → Type 0
IsStrandOrPop Pop1 = Unit {0}
IsStrandOrPop kind = IsStrand kind

-- cells of no deque, no place and no processor
abbrev pub IsQuietCell : Cell → Type 0
IsQuietCell FinishWord = Unit {0}
IsQuietCell (RoomCounter place) = Unit {0}
IsQuietCell (BlockWord at) = Unit {0}
IsQuietCell (ArrayWord index) = Unit {0}
IsQuietCell _ = ⊥

-- a place that joins
abbrev pub IsJoining : RestartKind → Type 0
IsJoining (Join block side) = Unit {0}
IsJoining _ = ⊥

-- a row that writes quiet cells alone, and goes on as a strand
abbrev pub IsQuietPoint : Seat → Point → Type 0
IsQuietPoint seat (Header frame copy) = Unit {0}
IsQuietPoint seat (BumpLink block) = Unit {0}
IsQuietPoint seat (UnwindLink frame) = Unit {0}
IsQuietPoint seat (UnwindOutcome frame link) = Unit {0}
IsQuietPoint seat (Target frame to copy right_of) = Unit {0}
IsQuietPoint seat (GivenValue frame to copy target right_of) = Unit {0}
IsQuietPoint seat (JoinOrder block side) = IsJoining seat.restart.kind
IsQuietPoint seat (JoinLink block) = Unit {0}
IsQuietPoint seat (JoinLeft block to copy) = Unit {0}
IsQuietPoint seat (JoinRight block to copy left) = Unit {0}
IsQuietPoint seat (RightFrame block to copy) = Unit {0}
IsQuietPoint seat (Offset block bottom) = IsJoining seat.restart.kind
    × (bottom ≡ seat.restart.bottom)
IsQuietPoint seat _ = ⊥

-- it goes on by such loads, and installs a strand's kind with the same bottom
abbrev pub IsQuietThen : Seat → Then → Type 0
IsQuietThen seat (Load point) = IsQuietPoint seat point
IsQuietThen seat (Install restart) = IsStrandOrPop restart.kind
    × (restart.bottom ≡ seat.restart.bottom)
IsQuietThen seat (Fork block) = Unit {0}
IsQuietThen seat (Begin block frame bottom) = IsJoining seat.restart.kind
    × (bottom ≡ seat.restart.bottom)
IsQuietThen seat (Move place) = ⊥
IsQuietThen seat _ = Unit {0}

-- it stores and exchanges such cells alone, and goes on so
abbrev pub IsQuiet : Seat → Row → Type 0
IsQuiet seat (Now next) = IsQuietThen seat next
IsQuiet seat (Store c x next) = IsQuietCell c × IsQuietThen seat next
IsQuiet seat (Exchange c old new next) = IsQuietCell c × IsQuietThen seat next

-- what is left of a frame's capsule
abbrev pub IsModest : Rest → Type 0
IsModest (Loads cell go) = (word : ℕ) → IsModest (go word)
IsModest (Stores cell content rest) = IsQuietCell cell × IsModest rest
IsModest Full = Unit {0}
IsModest (Installs kind) = IsStrand kind
IsModest Breaks = Unit {0}

module _ (s : Shape) (m : Spot → Word) where
  -- a row of a strand, or one that has seen these words, with a victim
  pub data HasSeen (seat : Seat) (row : Row) : Type 0 where
    Strand : IsStrand seat.restart.kind → IsQuiet seat row → HasSeen seat row
    Looks : (v : ℕ) (ws : List Word) → AreFit ws
        → rest_of s seat v (row_of s seat seat.restart.kind) ws ≡ row
        → Saw s seat v m (Unit {0}) (row_of s seat seat.restart.kind) ws → HasSeen seat row

module _ (s : Shape) (m : Spot → Word) where
  -- a processor that takes steps
  pub record Lives (o : ℕ) : Type 0 where
    pub alive : IsAlive m o
    pub there : o < s.processors

  -- it lives and carries the place p
  pub record Carried (o p : ℕ) : Type 0 where
    pub lives : Lives o
    pub carry : m (Carry o) ≡ Number p
    pub place : p < s.processors
    pub home : IsHome s.takeover o p

  module _ (k : ℕ → RestartKind) (b : ℕ → ℕ) where
    -- the restart is what place p is at
    pub record IsOf (p : ℕ) (restart : Restart) : Type 0 where
      pub kind : k p ≡ restart.kind
      pub bottom : b p ≡ restart.bottom

    -- a restart that was read is what place p is at, if its word could be read
    abbrev pub IsOfIf : (p : ℕ) → Option Restart → Type 0
    IsOfIf p None = Unit {0}
    IsOfIf p (Some restart) = IsOf p restart

    -- the seat is that of processor o, at the place that it carries, with that place's restart
    pub record Sits (o : ℕ) (seat : Seat) : Type 0 where
      pub own : seat.own ≡ o
      pub carried : Carried o seat.place
      pub at : IsOf seat.place seat.restart
      pub there : restart_is_there s seat.restart ≡ true

    -- what the processor o has seen that stands so
    abbrev pub Sees : (o : ℕ) → Standing → Type 0
    Sees o IsLost = Lives o
    Sees o (IsPlaced p) = Carried o p
    Sees o (IsAt p restart) = Carried o p × IsOfIf p restart
    Sees o (IsWithin seat row) = Sits o seat × HasSeen s (with_restarts m k b) seat row
        × (row_is_there s seat row ≡ true)
    Sees o (IsRunning seat rest) = Sits o seat × IsStrand seat.restart.kind × IsModest rest
        × (rest_is_there s seat rest ≡ true)
    Sees o (IsBroken p) = Lives o
    Sees o IsDone = Unit {0}

-- a bid is for a place of the shape
abbrev pub IsBidThere : Shape → RestartKind → Type 0
IsBidThere s (Take v dead) = v < s.processors
IsBidThere s kind = Unit {0}

-- what always holds
pub record Lawful (s : Shape) (m : Spot → Word) (k : ℕ → RestartKind) (b : ℕ → ℕ) (stand : List Standing) (h : ℕ → Home) (forked taken : List ℕ) : Type 0 where
  pub board : Estate (Closed s.takeover m) m k b h
  pub order : Order m k
  pub holding : Holding m k
  pub rooted : Rooted s.takeover m
  pub bids : (p : ℕ) → IsBidThere s (k p)
  pub counts : Counts h forked taken
  pub sees : (o : ℕ) → Sees s m k b o (stand_in (slice_get stand o))
