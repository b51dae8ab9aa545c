-- Where each branch is along a run, and what a turn owes to the frames.
use Rattle.std.specs.Prelude.{◌+◌, ◌≡◌, ◌<◌, ◌==◌, if◌then◌else◌, ℕ, false, List, [], ◌∷◌, ◌++◌}
use Rattle.ppm_cells.specs.Cells.{IsInPool}
use Rattle.ppm_cells.specs.Memory.{read}
use Rattle.ppm_cells.specs.declared.cell.Cell.{Cell}
use Rattle.ppm_cells.specs.declared.cell.Cell.TheVariants.{BlockWord}
use Rattle.ppm_cells.specs.declared.restart.RestartKind.{RestartKind}
use Rattle.ppm_cells.specs.declared.restart.RestartKind.TheVariants.{Run, Push1, Join, Check}
use Rattle.ppm_cells.specs.declared.shape.Shape.{Shape}
use Rattle.ppm_code.specs.declared.code.CodeParts.{CodeParts}
use Rattle.ppm_step.specs.Contents.{word_of}
use Rattle.ppm_step.specs.Frames.{Rest, Stores}
use Rattle.ppm_step.specs.Standings.{Standing, IsWithin, IsRunning}
use Rattle.ppm_step.specs.State.{State, stand_of, opening, after, happens, forks_of, takes_of}
use Rattle.ppm_step.specs.declared.row.Row.{Row}
use Rattle.ppm_step.specs.declared.row.Row.TheVariants.{Now, Store, Exchange}
use Rattle.ppm_step.specs.declared.row.Seat.{Seat}
use Rattle.ppm_step.specs.declared.row.Then.{Then}
use Rattle.ppm_step.specs.declared.row.Then.TheVariants.{Install, Fork, Begin}
use Rattle.ppm_step.specs.declared.turn.Act.{Act}
use Rattle.ppm_step.specs.declared.turn.Act.TheVariants.{Step}
use Rattle.ppm_step.specs.declared.turn.Turn.{Turn}
use Rattle.ppm_tickets.specs.Homes.{Home, Unborn, Pushing, Listed, Popping, Stolen, Inline, Begun}
use Rattle.ppm_tickets.specs.View.{word_as, reading_by, spot, view}
use Rattle.ppm_tickets.specs.Lawful.{IsEmpty}
use Rattle.ppm_cells.specs.declared.shape.Takeover.{Takeover}
use Rattle.ppm_cells.specs.declared.shape.Takeover.TheVariants.{ByEntries}
use Rattle.ppm_tickets.specs.Words.{Word, Local, Job, Taken, Spot, Slot, put, has}

-- an exchange by place p that is made
abbrev pub by_words : (p : ℕ) → Spot → Word → Word → (ℕ → Home) → ℕ → Home
by_words p (Slot v i) old (Job t r) h = put h r (Listed v i t)
by_words p (Slot v i) (Job t r) (Taken u q) h = put h r (Stolen p)
by_words p (Slot v i) (Job t r) (Local u x) h = put h r (Popping p)
by_words p _ old new h = h

-- at the last slot one strand runs both branches; a place that has inherited a strand that pushes
-- pushes on
abbrev pub by_install : (p : ℕ) → (old new : RestartKind) → (ℕ → Home) → ℕ → Home
by_install p (Push1 block) (Run frame copy) h = put h block Inline
by_install p (Check v i) (Push1 block) h = put h block (Pushing p)
by_install p old new h = h

-- a branch moves by an exchange that is made, by an install, and where it is forked or begun
abbrev pub by_row : Shape → List ℕ → Seat → Row → (ℕ → Home) → ℕ → Home
by_row s words seat (Exchange c old new next) h =
    if read s words c == word_of old then by_words seat.place (spot (reading_by new) c) (word_as old) (word_as new) h else h
by_row s words seat (Now (Install restart)) h = by_install seat.place seat.restart.kind restart.kind h
by_row s words seat (Now (Fork block)) h = put h block (Pushing seat.place)
by_row s words seat (Now (Begin block frame bottom)) h = put h block Begun
by_row s words seat row h = h

-- by what a processor's step is: capsules of frames move no branch
abbrev pub by_standing : Shape → List ℕ → Standing → (ℕ → Home) → ℕ → Home
by_standing s words (IsWithin seat row) h = by_row s words seat row h
by_standing s words standing h = h

-- by an act: steps alone move branches
abbrev pub by_act : Shape → List ℕ → Act → Standing → (ℕ → Home) → ℕ → Home
by_act s words (Step victim) standing h = by_standing s words standing h
by_act s words act standing h = h

-- a word of a block is one of a pool
abbrev pub IsPooled : Shape → Cell → Type 0
IsPooled s (BlockWord at) = IsInPool s at
IsPooled s cell = Unit {0}

-- a branch that is begun where its left one joins was left to that strand
abbrev pub IsJoined : RestartKind → Home → Type 0
IsJoined (Join block side) x = x ≡ Inline
IsJoined kind x = Unit {0}

-- with takeover by entries an order word tells that one strand runs both branches, and then nothing
-- is local above
abbrev pub IsInlined : Takeover → Shape → List ℕ → Seat → (old new : RestartKind) → Type 0
IsInlined ByEntries s words seat (Push1 block) (Run frame copy) = IsEmpty (view s words (Slot seat.place (seat.restart.bottom + 1)))
IsInlined how s words seat old new = Unit {0}

-- what is owed where a row comes to its end
abbrev pub IsOrderlyThen : Shape → List ℕ → Seat → Then → (ℕ → Home) → List ℕ → Type 0
IsOrderlyThen s words seat (Install restart) h forked = IsInlined s.takeover s words seat seat.restart.kind restart.kind
IsOrderlyThen s words seat (Fork block) h forked = has forked block ≡ false
IsOrderlyThen s words seat (Begin block frame bottom) h forked = IsJoined seat.restart.kind (h block)
IsOrderlyThen s words seat next h forked = Unit {0}

-- what is owed by a row's next word: a store or an exchange of a block word is of one of a pool
abbrev pub IsOrderlyRow : Shape → List ℕ → Seat → Row → (ℕ → Home) → List ℕ → Type 0
IsOrderlyRow s words seat (Now next) h forked = IsOrderlyThen s words seat next h forked
IsOrderlyRow s words seat (Store cell content next) h forked = IsPooled s cell
IsOrderlyRow s words seat (Exchange cell old new next) h forked = IsPooled s cell

-- what is owed by the next word of a frame's capsule
abbrev pub IsOrderlyRest : Shape → Rest → Type 0
IsOrderlyRest s (Stores cell content rest) = IsPooled s cell
IsOrderlyRest s rest = Unit {0}

-- what is owed where a processor stands
abbrev pub IsOrderlyAt : Shape → List ℕ → Standing → (ℕ → Home) → List ℕ → Type 0
IsOrderlyAt s words (IsWithin seat row) h forked = IsOrderlyRow s words seat row h forked
IsOrderlyAt s words (IsRunning seat rest) h forked = IsOrderlyRest s rest
IsOrderlyAt s words standing h forked = Unit {0}

-- what a turn owes: the victim that it names is there, and the frames' part; a fault owes nothing
abbrev pub IsOrderly : Shape → List ℕ → Act → Standing → (ℕ → Home) → List ℕ → Type 0
IsOrderly s words (Step victim) standing h forked = (victim < s.processors)
    × IsOrderlyAt s words standing h forked
IsOrderly s words act standing h forked = Unit {0}

module _ (s : Shape) (code : CodeParts) where
  -- along a run, from where branches were and from those that were forked and taken, newest first
  abbrev pub homes : State → (ℕ → Home) → List Turn → ℕ → Home
  homes state h [] = h
  homes state h (turn ∷ turns) = homes (happens s code state turn) (by_act s state.words turn.act (stand_of state turn.processor) h) turns

  -- the branches that were forked, newest first
  abbrev pub forked : State → List ℕ → List Turn → List ℕ
  forked state f [] = f
  forked state f (turn ∷ turns) = forked (happens s code state turn) (forks_of state turn ++ f) turns

  -- the branches that were taken, newest first
  abbrev pub taken : State → List ℕ → List Turn → List ℕ
  taken state l [] = l
  taken state l (turn ∷ turns) = taken (happens s code state turn) (takes_of state turn ++ l) turns

  -- where a run from these words comes by these turns, and where branches are then
  abbrev pub reached : (words : List ℕ) → List Turn → State
  reached words turns = after s code (opening words s.processors) turns

  abbrev pub homes_by : (words : List ℕ) → List Turn → ℕ → Home
  homes_by words turns = homes (opening words s.processors) (λ r. Unborn) turns

  -- each turn owes its part at the words that it meets, with the branches where they are then
  abbrev pub AreOrderly : State → (ℕ → Home) → List ℕ → List Turn → Type 0
  AreOrderly state h f [] = Unit {0}
  AreOrderly state h f (turn ∷ turns) =
      IsOrderly s state.words turn.act (stand_of state turn.processor) h f
      × AreOrderly (happens s code state turn) (by_act s state.words turn.act (stand_of state turn.processor) h) (forks_of state turn ++ f) turns
