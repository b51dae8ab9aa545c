-- A whole turn, by places: what it makes of the skeleton, what the deque's half has to say of it, and
-- that it keeps all.
use Rattle.std.specs.Prelude.{◌≡◌, ◌⊎◌, ◌≤◌, ◌<◌, ℕ, ◌==◌, Bool, true, List, Option, Some, None}
use Rattle.ppm_strands.specs.Tree.{Words, Tree}
use Rattle.ppm_cells.specs.Memory.{read, AreWordsOf}
use Rattle.ppm_cells.specs.declared.cell.Cell.{Cell}
use Rattle.ppm_cells.specs.declared.cell.Cell.TheVariants.{FinishWord}
use Rattle.ppm_cells.specs.Finish.{finish_of}
use Rattle.ppm_cells.specs.declared.finish.Finish.{Finish}
use Rattle.ppm_cells.specs.declared.finish.Finish.TheVariants.{OutOfTurns, OutOfRoom, Stopped, Broken as BrokenAt}
use Rattle.ppm_cells.specs.declared.restart.Restart.{Restart}
use Rattle.ppm_cells.specs.declared.restart.RestartKind.{RestartKind}
use Rattle.ppm_cells.specs.declared.restart.RestartKind.TheVariants.{Run, Bump, Push1, Push2, Unwind, Arrive, Join, Pop2, Check}
use Rattle.ppm_cells.specs.declared.shape.Shape.{Shape}
use Rattle.ppm_cells.specs.declared.shape.Takeover.TheVariants.{ByPlaces}
use Rattle.ppm_strands.specs.Strand.{Frame}
use Rattle.ppm_code.specs.Strands.{Point, Result}
use Rattle.ppm_code.specs.declared.location.FrameWord.{FrameWord}
use Rattle.ppm_step.specs.Contents.{word_of}
use Rattle.ppm_step.specs.Frames.{Rest, Installs}
use Rattle.ppm_step.specs.Rows.{row_of}
use Rattle.ppm_step.specs.Standings.{Standing, IsLost, IsPlaced, IsAt, IsWithin, IsRunning, IsBroken, IsDone, row_is_there, rest_is_there}
use Rattle.ppm_step.specs.State.{State as Machine, stand_of, happens}
use Rattle.ppm_step.specs.declared.row.Point.TheVariants.{Offset}
use Rattle.ppm_step.specs.declared.row.Row.{Row}
use Rattle.ppm_step.specs.declared.row.Row.TheVariants.{Now, Store, Exchange}
use Rattle.ppm_step.specs.declared.row.Seat.{Seat}
use Rattle.ppm_step.specs.declared.row.Then.{Then}
use Rattle.ppm_step.specs.declared.row.Then.TheVariants.{Load, Begin}
use Rattle.ppm_step.specs.declared.turn.Act.{Act}
use Rattle.ppm_step.specs.declared.turn.Act.TheVariants.{Step}
use Rattle.ppm_step.specs.declared.turn.Turn.{Turn}
use Rattle.ppm_frames.specs.Views.{view}
use Rattle.ppm_frames.specs.Skeletons.{Waiting, Held, Skeleton, pushed, over_left, take_in}
use Rattle.ppm_kept.specs.Running.{IsFair}
use Rattle.ppm_kept.specs.Branches.{is_taker}
use Rattle.ppm_kept.specs.Kept.{Setting, AllowsAll, IsKept}
use Rattle.ppm_kept.specs.Moves.{by_install}
use Rattle.ppm_kept.specs.Laws.{kind_then}
use Rattle.ppm_kept.specs.Returns.{by_unwind}
use Rattle.ppm_kept.specs.Pushing.{Comes}
use Rattle.ppm_kept.specs.Arriving.{by_arrive}
use Rattle.ppm_kept.specs.Joins.{by_join}
use Rattle.ppm_kept.specs.Takes.{IsWaiting, IsAlone}
use Rattle.ppm_kept.specs.Places.{kinds_of, places_of, Holds}

-- what the end of a row makes of the skeleton
abbrev pub by_end : (p : ℕ) → RestartKind → Then → Skeleton → Skeleton
by_end p (Unwind f) next t = by_unwind p (kind_then next) t
by_end p (Join r d) next t = by_join p next t
by_end p (Pop2 q) (Begin r f b) t = take_in r p t
by_end p (Check v x) (Begin r f b) t = take_in r p t
by_end p k next t = t

-- a store: at the last slot one strand is to run both branches
abbrev pub by_store : (p : ℕ) → RestartKind → Skeleton → Skeleton
by_store p (Push1 r) t = over_left p (pushed Held) t
by_store p k t = t

-- an exchange: a branch came first, or the right one waits now
abbrev pub by_exchange : (Cell → ℕ) → (p : ℕ) → RestartKind → (made : Bool) → Skeleton → Skeleton
by_exchange m p (Arrive r d) made t = by_arrive m p r t
by_exchange m p (Push2 r) true t = over_left p (pushed Waiting) t
by_exchange m p k made t = t

-- the step of a processor that stands there, by what these words by cells show
abbrev pub tree_with : Setting → (Cell → ℕ) → List ℕ → Standing → Skeleton → Skeleton
tree_with i m words (IsWithin seat (Now next)) t = by_end seat.place seat.restart.kind next t
tree_with i m words (IsWithin seat (Store cell content next)) t = by_store seat.place seat.restart.kind t
tree_with i m words (IsWithin seat (Exchange cell old new next)) t =
    by_exchange m seat.place seat.restart.kind (read i.shape words cell == word_of old) t
tree_with i m words (IsRunning seat (Installs kind)) t = by_install i m seat.place seat.restart.kind kind t
tree_with i m words standing t = t

-- its act; faults and quits change no tree
abbrev pub act_with : Setting → (Cell → ℕ) → List ℕ → Act → Standing → Skeleton → Skeleton
act_with i m words (Step victim) standing t = tree_with i m words standing t
act_with i m words act standing t = t

-- by the machine's own words
abbrev pub tree_by : Setting → List ℕ → Standing → Skeleton → Skeleton
tree_by i words standing t = tree_with i (view i.shape words) words standing t

abbrev pub by_act : Setting → List ℕ → Act → Standing → Skeleton → Skeleton
by_act i words act standing t = act_with i (view i.shape words) words act standing t

-- the skeleton after a turn
abbrev pub tree_after : Setting → Machine → Turn → Skeleton → Skeleton
tree_after i state turn t = by_act i state.words turn.act (stand_of state turn.processor) t

-- how a row was come to, of kinds of which the words by cells do not say it
abbrev pub CameBy : Shape → Seat → RestartKind → Row → Type 0
CameBy s seat (Run f y) row = Unit {0}
CameBy s seat (Bump r) row = Unit {0}
CameBy s seat (Unwind f) row = Unit {0}
CameBy s seat (Arrive r d) row = Unit {0}
CameBy s seat (Join r d) row = Unit {0}
CameBy s seat k row = (n : ℕ) × Comes s seat n (row_of s seat k) row

-- a branch whose offset a taker loads waits, and one that it begins is begun by no other
abbrev pub TakesSo : Setting → Machine → Skeleton → (p : ℕ) → Row → Type 0
TakesSo i state t p (Now (Load (Offset r b))) = IsWaiting t r
TakesSo i state t p (Now (Begin r f b)) = IsAlone (places_of i.shape state) p r
TakesSo i state t p row = Unit {0}

-- what the deque's half says of a processor in a row: it is alone in its place, which is at the kind of
-- its seat
pub record InRowSo (i : Setting) (state : Machine) (t : Skeleton) (c : ℕ) (seat : Seat) (row : Row) : Type 0 where
  pub holds : Holds i.shape state c seat.place
  pub own : seat.own < i.shape.processors
  pub kind : kinds_of i.shape state.words seat.place ≡ seat.restart.kind
  pub there : row_is_there i.shape seat row ≡ true
  pub came : CameBy i.shape seat seat.restart.kind row
  pub takes : is_taker seat.restart.kind ≡ true → TakesSo i state t seat.place row

-- in a capsule; its end may be counted
pub record InRestSo (i : Setting) (state : Machine) (c : ℕ) (seat : Seat) (rest : Rest) : Type 0 where
  pub holds : Holds i.shape state c seat.place
  pub kind : kinds_of i.shape state.words seat.place ≡ seat.restart.kind
  pub there : rest_is_there i.shape seat rest ≡ true
  pub counts : (kind : RestartKind) → rest ≡ Installs kind → AllowsAll i

-- the restart that was read is the place's
abbrev pub IsKindIf : Setting → List ℕ → ℕ → Option Restart → Type 0
IsKindIf i words p None = Unit {0}
IsKindIf i words p (Some restart) = kinds_of i.shape words p ≡ restart.kind

-- wherever it stands
abbrev pub StandsSo : Setting → Machine → Skeleton → (c : ℕ) → Standing → Type 0
StandsSo i state t c IsLost = Unit {0}
StandsSo i state t c (IsPlaced p) = Unit {0}
StandsSo i state t c (IsAt p restart) = Holds i.shape state c p × IsKindIf i state.words p restart
StandsSo i state t c (IsWithin seat row) = InRowSo i state t c seat row
StandsSo i state t c (IsRunning seat rest) = InRestSo i state c seat rest
StandsSo i state t c (IsBroken p) = p ≤ 64
StandsSo i state t c IsDone = Unit {0}

-- and if it is to leave where it stands, that it is alone there
abbrev pub LeavesSo : Shape → Machine → (c : ℕ) → Standing → Type 0
LeavesSo s state c (IsWithin seat row) = Holds s state c seat.place
LeavesSo s state c (IsRunning seat rest) = Holds s state c seat.place
LeavesSo s state c standing = Unit {0}

-- the words have their count, and the processor is there
pub record IsPresent (s : Shape) (state : Machine) (c : ℕ) : Type 0 where
  pub words : AreWordsOf s state.words
  pub there : c < s.processors

-- what it says of an act
abbrev pub ActsSo : Setting → Machine → Skeleton → (c : ℕ) → Act → Standing → Type 0
ActsSo i state t c (Step victim) standing = IsPresent i.shape state c × StandsSo i state t c standing
ActsSo i state t c act standing = IsPresent i.shape state c × LeavesSo i.shape state c standing

-- a finish that is no outcome of the root
abbrev pub IsStop : Finish → Type 0
IsStop (OutOfTurns processor) = Unit {0}
IsStop (OutOfRoom place) = Unit {0}
IsStop Stopped = Unit {0}
IsStop (BrokenAt place) = Unit {0}
IsStop _ = ⊥

-- the finish word says one
abbrev pub SaysStop : Shape → List ℕ → Type 0
SaysStop s words = (v : Finish) × (finish_of (view s words FinishWord) ≡ Some v) × IsStop v

-- With takeover by places: from a state that is kept by places, a turn of which the deque's half says so
-- is kept, with the skeleton after it; or it stops the run with a finish that is no outcome
abbrev pub TurnsKeep : Type 0
TurnsKeep = (i : Setting) → IsFair i.code → i.shape.takeover ≡ ByPlaces
    → (root : Tree (Frame FrameWord Point) Result) (input : Words) (state : Machine) (t : Skeleton)
    → IsKept i root input (places_of i.shape state) t → (turn : Turn)
    → ActsSo i state t turn.processor turn.act (stand_of state turn.processor)
    → IsKept i root input (places_of i.shape (happens i.shape i.code state turn)) (tree_after i state turn t)
    ⊎ SaysStop i.shape (happens i.shape i.code state turn).words
