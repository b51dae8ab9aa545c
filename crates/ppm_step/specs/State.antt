-- The words and the processors of a machine, and what a list of turns makes of them.
use Rattle.std.specs.Prelude.{ℕ, ◌==◌, ◌&&◌, if◌then◌else◌, Bool, true, false, List, [], ◌∷◌, ◌++◌, Option, Some, None, slice_get, slice_index, slice_set, replicate}
use Rattle.ppm_cells.specs.Cells.{address}
use Rattle.ppm_cells.specs.Finish.{finish_word}
use Rattle.ppm_cells.specs.declared.cell.Cell.TheVariants.{FinishWord, DeadWord}
use Rattle.ppm_cells.specs.declared.finish.Finish.{Finish}
use Rattle.ppm_cells.specs.declared.finish.Finish.TheVariants.{OutOfTurns, Stopped}
use Rattle.ppm_cells.specs.declared.restart.Restart.{Restart}
use Rattle.ppm_cells.specs.declared.restart.RestartKind.{RestartKind}
use Rattle.ppm_cells.specs.declared.restart.RestartKind.TheVariants.{Run, Bump, Push1, Push2, Unwind, Arrive, Join, Pop1, Pop2, Seek}
use Rattle.ppm_cells.specs.declared.shape.Shape.{Shape}
use Rattle.ppm_code.specs.declared.code.CodeParts.{CodeParts}
use Rattle.ppm_step.specs.declared.ask.Want.{Want}
use Rattle.ppm_step.specs.declared.ask.Want.TheVariants.{Loads, Stores, Exchanges, Nothing}
use Rattle.ppm_step.specs.declared.row.Point.TheVariants.{SeekHolder}
use Rattle.ppm_step.specs.declared.row.Then.TheVariants.{Load, Fork, Begin}
use Rattle.ppm_step.specs.declared.row.Row.{Row}
use Rattle.ppm_step.specs.declared.row.Row.TheVariants.{Now}
use Rattle.ppm_step.specs.declared.turn.Why.{Why}
use Rattle.ppm_step.specs.declared.turn.Why.TheVariants.{Turns, Watch}
use Rattle.ppm_step.specs.declared.turn.Act.{Act}
use Rattle.ppm_step.specs.declared.turn.Act.TheVariants.{Step, Soft, Hard, Quit}
use Rattle.ppm_step.specs.declared.turn.Turn.{Turn}
use Rattle.ppm_step.specs.declared.turn.Next.{Next}
use Rattle.ppm_step.specs.declared.turn.Next.TheVariants.{Work, Look, Seek as Seeks, Done}
use Rattle.ppm_step.specs.Standings.{Standing, IsLost, IsPlaced, IsAt, IsWithin, IsRunning, IsBroken, IsDone, wanted, went}

-- the words, and where each processor stands
pub record State : Type 0 where
  pub words : List ℕ
  pub stand : List Standing

-- where a processor stands; one that is not there takes no step
abbrev pub stand_in : Option Standing → Standing
stand_in None = IsDone
stand_in (Some standing) = standing

abbrev pub stand_of : State → (processor : ℕ) → Standing
stand_of state processor = stand_in (slice_get state.stand processor)

-- the word that a step finds, 0 where it is no load
abbrev pub found_in : List ℕ → Want → ℕ
found_in words (Loads at) = slice_index words at
found_in words want = 0

-- the words after it
abbrev pub words_after : List ℕ → Want → List ℕ
words_after words (Loads at) = words
words_after words (Stores at word) = slice_set words at word
words_after words (Exchanges at old new) = if slice_index words at == old then slice_set words at new else words
words_after words Nothing = words

-- the finish word with which a processor quits
abbrev pub quit_with : (processor : ℕ) → Why → Finish
quit_with processor Turns = OutOfTurns processor
quit_with processor Watch = Stopped

module _ (s : Shape) (code : CodeParts) where
  -- the word step of an act, by a processor that is not done
  abbrev pub want_of : (processor : ℕ) → Act → Standing → Want
  want_of processor (Step victim) standing = wanted s processor victim standing
  want_of processor Soft standing = Nothing
  want_of processor Hard standing = Stores (address s (DeadWord processor)) 1
  want_of processor (Quit why) standing = Exchanges (address s FinishWord) 0 (finish_word (quit_with processor why))

  -- where it stands after the act
  abbrev pub stand_after : (processor : ℕ) → Act → (found : ℕ) → Standing → Standing
  stand_after processor (Step victim) found standing = went s code processor victim found standing
  stand_after processor Soft found standing = IsLost
  stand_after processor Hard found standing = IsDone
  stand_after processor (Quit why) found standing = IsLost

  -- an act of a processor that stands there
  abbrev pub acts : State → (processor : ℕ) → Act → Standing → State
  acts state processor act IsDone = state
  acts state processor act standing =
      let want = want_of processor act standing in
      record {
        words = words_after state.words want;
        stand = slice_set state.stand processor (stand_after processor act (found_in state.words want) standing);
      }

  -- a turn; that of a processor that is done changes nothing
  abbrev pub happens : State → Turn → State
  happens state turn = acts state turn.processor turn.act (stand_of state turn.processor)

  -- a run: the state after its turns
  abbrev pub after : State → List Turn → State
  after state [] = state
  after state (turn ∷ turns) = after (happens state turn) turns

  -- what the turns of a run tell, one after the other
  abbrev pub along : {X : Type 0} → (State → Turn → List X) → State → List Turn → List X
  along told state [] = []
  along told state (turn ∷ turns) = told state turn ++ along told (happens state turn) turns

-- a machine begins with all processors lost
abbrev pub opening : List ℕ → (processors : ℕ) → State
opening words processors = record { words = words; stand = replicate processors IsLost }

-- whether the capsule of a kind is work: a strand's, or what makes and ends it
abbrev pub is_work : RestartKind → Bool
is_work (Run frame copy) = true
is_work (Bump block) = true
is_work (Push1 block) = true
is_work (Push2 block) = true
is_work (Unwind frame) = true
is_work (Arrive block side) = true
is_work (Join block side) = true
is_work Pop1 = true
is_work (Pop2 block) = true
is_work _ = false

-- what the coming step of a capsule is
abbrev pub step_of : RestartKind → Next
step_of kind = if is_work kind then Work else Look

-- the load of the finish word before a row
abbrev pub before_kind : RestartKind → Next
before_kind Seek = Seeks
before_kind kind = Look

abbrev pub before_row : Option Restart → Next
before_row None = Look
before_row (Some restart) = before_kind restart.kind

-- what a processor's coming step is
abbrev pub next_of : Standing → Next
next_of IsLost = Look
next_of (IsPlaced place) = Look
next_of (IsAt place restart) = before_row restart
next_of (IsWithin seat row) = step_of seat.restart.kind
next_of (IsRunning seat rest) = Work
next_of (IsBroken place) = Look
next_of IsDone = Done

-- whether the coming step is the load of a holder word as the processor seeks work, for which a turn names the victim
abbrev pub seeks_holder : Standing → Bool
seeks_holder (IsWithin seat (Now (Load SeekHolder))) = true
seeks_holder standing = false

-- whether a processor takes no step any more
abbrev pub is_done_at : Standing → Bool
is_done_at IsDone = true
is_done_at standing = false

-- whether an act is a step, and whether a step is work
abbrev pub is_step : Act → Bool
is_step (Step victim) = true
is_step act = false

abbrev pub is_work_next : Next → Bool
is_work_next Work = true
is_work_next next = false

-- whether an act of a processor that stands there is a work turn: a step of work; each other act is a look
abbrev pub is_work_turn : Act → Standing → Bool
is_work_turn act standing = is_step act && is_work_next (next_of standing)

-- whether it draws a victim: it is a step for which one is due
abbrev pub draws : Act → Standing → Bool
draws act standing = is_step act && seeks_holder standing

-- the fork blocks whose right branches a turn forks: by the store of the restart word that begins to push them
abbrev pub fork_row : Row → List ℕ
fork_row (Now (Fork block)) = block ∷ []
fork_row row = []

-- and those that it takes: by the store of the restart word that begins the right frame
abbrev pub take_row : Row → List ℕ
take_row (Now (Begin block frame bottom)) = block ∷ []
take_row row = []

abbrev pub row_by : (Row → List ℕ) → Standing → List ℕ
row_by told (IsWithin seat row) = told row
row_by told standing = []

abbrev pub step_by : (Standing → List ℕ) → Act → Standing → List ℕ
step_by told (Step victim) standing = told standing
step_by told act standing = []

abbrev pub forks_of : State → Turn → List ℕ
forks_of state turn = step_by (row_by fork_row) turn.act (stand_of state turn.processor)

abbrev pub takes_of : State → Turn → List ℕ
takes_of state turn = step_by (row_by take_row) turn.act (stand_of state turn.processor)

-- whether a turn is work, told as the processor that does it
abbrev pub work_next : (processor : ℕ) → Next → List ℕ
work_next processor next = if is_work_next next then processor ∷ [] else []

abbrev pub work_of : State → Turn → List ℕ
work_of state turn = if is_work_turn turn.act (stand_of state turn.processor) then turn.processor ∷ [] else []
