-- Rows of the deques and of the places meet no broken words.
use Rattle.std.specs.Prelude.{◌≡◌, ◌≢◌, ◌<◌, ℕ, ◌+◌, ◌^◌, Bool, true, false, ◌&&◌, Some, List}
use Rattle.ppm_strands.specs.Tree.{Words, Tree}
use Rattle.ppm_cells.specs.Memory.{read}
use Rattle.ppm_cells.specs.declared.cell.Cell.{Cell}
use Rattle.ppm_cells.specs.declared.cell.Cell.TheVariants.{FinishWord, EntryWord}
use Rattle.ppm_cells.specs.declared.restart.Restart.{Restart}
use Rattle.ppm_cells.specs.declared.shape.Shape.{Shape}
use Rattle.ppm_cells.specs.declared.shape.Takeover.TheVariants.{ByPlaces}
use Rattle.ppm_strands.specs.Strand.{Frame}
use Rattle.ppm_code.specs.Strands.{Point as StrandPoint, Result}
use Rattle.ppm_code.specs.declared.code.CodeParts.{CodeParts}
use Rattle.ppm_code.specs.declared.location.FrameWord.{FrameWord}
use Rattle.ppm_step.specs.Among.{IsTurnAmong}
use Rattle.ppm_step.specs.Contents.{content_of}
use Rattle.ppm_step.specs.Frames.{Rest, Loads, Stores}
use Rattle.ppm_step.specs.Points.{cell_at, reading_at}
use Rattle.ppm_step.specs.Rows.{found_at, row_of}
use Rattle.ppm_step.specs.Standings.{Standing, IsAt, IsWithin, IsRunning, rest_is_there}
use Rattle.ppm_step.specs.State.{State as RunState, stand_of, happens, is_work, is_step}
use Rattle.ppm_step.specs.declared.content.Content.{Content}
use Rattle.ppm_step.specs.declared.row.Point.{Point}
use Rattle.ppm_step.specs.declared.row.Row.{Row}
use Rattle.ppm_step.specs.declared.row.Row.TheVariants.{Now, Exchange}
use Rattle.ppm_step.specs.declared.row.Seat.{Seat}
use Rattle.ppm_step.specs.declared.row.Then.TheVariants.{Load}
use Rattle.ppm_step.specs.declared.turn.Turn.{Turn}
use Rattle.ppm_tickets.specs.Homes.{Home}
use Rattle.ppm_tickets.specs.Saw.{IsStrand}
use Rattle.ppm_tickets.specs.View.{view}
use Rattle.ppm_frames.specs.Skeletons.{Skeleton}
use Rattle.ppm_kept.specs.Left.{Followed}
use Rattle.ppm_kept.specs.Running.{IsFair}
use Rattle.ppm_runs.specs.Follow.{IsHalves}
use Rattle.ppm_runs.specs.Joint.{AreJoint}
use Rattle.ppm_runs.specs.Run.{IsRun}
use Rattle.ppm_runs.specs.Sound.{IsSoundRow, IsSound}

-- What the frames have to show of a processor at a strand: where a row begins, at each load of a row, and
-- at each step of a capsule, no broken words are met.
pub record StrandsAreSound (s : Shape) (code : CodeParts) (state : RunState) : Type 0 where
  pub begins : (c p : ℕ) (r : Restart) → stand_of state c ≡ IsAt p (Some r) → IsStrand r.kind
      → IsSoundRow s code (view s state.words) (record { own = c; place = p; restart = r }) (row_of s (record { own = c; place = p; restart = r }) r.kind)
  pub loads : (c : ℕ) (seat : Seat) (point : Point) → stand_of state c ≡ IsWithin seat (Now (Load point)) → IsStrand seat.restart.kind → (u : ℕ)
      → IsSoundRow s code (view s state.words) seat (found_at s seat u point (content_of (reading_at point) (read s state.words (cell_at seat u point))))
  pub rests : (c : ℕ) (seat : Seat) (cell : Cell) (next : ℕ → Rest) → stand_of state c ≡ IsRunning seat (Loads cell next)
      → rest_is_there s seat (next (read s state.words cell)) ≡ true
  pub stored : (c : ℕ) (seat : Seat) (cell : Cell) (content : Content) (next : Rest) → stand_of state c ≡ IsRunning seat (Stores cell content next)
      → rest_is_there s seat next ≡ true
  pub spared : (c : ℕ) (seat : Seat) (cell : Cell) (content : Content) (next : Rest) → stand_of state c ≡ IsRunning seat (Stores cell content next)
      → cell ≢ FinishWord

abbrev pub one_if : Bool → ℕ
one_if true = 1
one_if false = 0

-- whether what is left of a row is an exchange of an entry
abbrev pub is_entry : Cell → Bool
is_entry (EntryWord place slot) = true
is_entry cell = false

abbrev pub tries_entry : Row → Bool
tries_entry (Exchange cell old new next) = is_entry cell
tries_entry row = false

-- whether a processor's coming step is one, in a row of work: it raises an entry's tag, or does nothing
abbrev pub raises : Standing → Bool
raises (IsWithin seat row) = tries_entry row && is_work seat.restart.kind
raises standing = false

-- so many of such steps were made, with this turn
abbrev pub raised_by : ℕ → RunState → Turn → ℕ
raised_by made state turn = made + one_if (is_step turn.act && raises (stand_of state turn.processor))

-- With takeover by places, where tags can count such steps: from a run's state that is sound, a turn leads
-- to one that is sound, if rows and capsules of strands meet no broken words in it
abbrev pub DequesAreSound : Type 0
DequesAreSound = (s : Shape) (code : CodeParts) → s.takeover ≡ ByPlaces → IsFair code
    → (root : Tree (Frame FrameWord StrandPoint) Result) (input : Words) (state : RunState) (h : ℕ → Home) (forked taken : List ℕ) (t : Skeleton)
    → IsRun s code root input state h forked taken t
    → (made : ℕ) → made + 1 < 2 ^ 34 → IsSound s code made state → StrandsAreSound s code state
    → (turn : Turn) → IsTurnAmong s.processors turn
    → IsSound s code (raised_by made state turn) (happens s code state turn)

-- with either takeover a turn leads from a sound state to a sound one, where both halves hold, with those places left out that were followed
abbrev pub DequesStaySound : Type 0
DequesStaySound = (s : Shape) (code : CodeParts) → IsFair code
    → (root : Tree (Frame FrameWord StrandPoint) Result) (input : Words) (state : RunState) (h : ℕ → Home) (forked taken : List ℕ) (l : List Followed) (t : Skeleton)
    → IsHalves s code root input state h forked taken l t → AreJoint s code state h l t
    → (made : ℕ) → made + 1 < 2 ^ 34 → IsSound s code made state → StrandsAreSound s code state
    → (turn : Turn) → IsTurnAmong s.processors turn
    → IsSound s code (raised_by made state turn) (happens s code state turn)
