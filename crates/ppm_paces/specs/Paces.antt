-- The pace of a processor: what it has made of its row, and what it still may make.
use Rattle.std.specs.Prelude.{◌≡◌, ◌≤◌, ◌<◌, ℕ, ◌+◌, ◌==◌, ◌||◌, if◌then◌else◌, Bool, true, false, List, [], ◌∷◌}
use Rattle.ppm_cells.specs.declared.restart.RestartKind.TheVariants.{Run}
use Rattle.ppm_cells.specs.declared.shape.Shape.{Shape}
use Rattle.ppm_code.specs.Code.{IsCode}
use Rattle.ppm_code.specs.declared.code.CodeParts.{CodeParts}
use Rattle.ppm_step.specs.Frames.{Rest}
use Rattle.ppm_step.specs.Standings.{Standing, IsWithin, IsRunning, IsBroken, row_is_there, rest_is_there}
use Rattle.ppm_step.specs.State.{State, stand_of, happens, after, opening, is_work, is_work_turn, is_work_next, next_of}
use Rattle.ppm_step.specs.declared.row.Point.TheVariants.{Header}
use Rattle.ppm_step.specs.declared.row.Row.{Row}
use Rattle.ppm_step.specs.declared.row.Row.TheVariants.{Now}
use Rattle.ppm_step.specs.declared.row.Seat.{Seat}
use Rattle.ppm_step.specs.declared.row.Then.TheVariants.{Load}
use Rattle.ppm_step.specs.declared.turn.Act.{Act}
use Rattle.ppm_step.specs.declared.turn.Act.TheVariants.{Step, Soft, Hard, Quit}
use Rattle.ppm_step.specs.declared.turn.Turn.{Turn}
use Rattle.ppm_paces.specs.Costs.{cost, Leads, IsShortKind, IsShort}

-- a row with so many word steps made, whose next word is there: that of a frame is about to load its header; another one of work has
-- made them, and with what it still may make they are the most of its kind; of one that is no work none are counted
pub data RowPaces (s : Shape) (seat : Seat) (made : ℕ) (row : Row) : Type 0 where
  OfFrame : (frame copy : ℕ) → seat.restart.kind ≡ Run frame copy → row ≡ Now (Load (Header frame copy)) → made ≡ 0 → RowPaces s seat made row
  OfWork : IsShortKind seat.restart.kind → row_is_there s seat row ≡ true → (left : ℕ) → made + left ≡ cost seat.restart.kind
      → Leads s seat seat.restart.kind left made row → RowPaces s seat made row
  OfLook : is_work seat.restart.kind ≡ false → made ≡ 0 → RowPaces s seat made row

-- what is left of a capsule with so many word steps made, which with these are the most
pub record CapsulePaces (s : Shape) (seat : Seat) (made : ℕ) (rest : Rest) : Type 0 where
  pub frame : ℕ
  pub copy : ℕ
  pub kind : seat.restart.kind ≡ Run frame copy
  pub left : ℕ
  pub most : made + left ≡ 172
  pub short : IsShort left rest
  pub there : rest_is_there s seat rest ≡ true

-- a processor that stands there has made so many word steps of its row of work, or of the one in which it met broken words; none
-- where it is in no row
abbrev pub Paces : Shape → (made : ℕ) → Standing → Type 0
Paces s made (IsWithin seat row) = RowPaces s seat made row
Paces s made (IsRunning seat rest) = CapsulePaces s seat made rest
Paces s made (IsBroken place) = made ≤ 171
Paces s made _ = made ≡ 0

-- whether a processor stands in a row or a capsule, or at broken words
abbrev pub is_in_row : Standing → Bool
is_in_row (IsWithin seat row) = true
is_in_row (IsRunning seat rest) = true
is_in_row _ = false

abbrev pub is_broken_at : Standing → Bool
is_broken_at (IsBroken place) = true
is_broken_at _ = false

abbrev pub keeps_row : Standing → Bool
keeps_row standing = is_in_row standing || is_broken_at standing

-- what it has made of its row after an act: a word step of work is one more, if the row goes on or has met broken words
abbrev pub made_then : (made : ℕ) → Act → (before behind : Standing) → ℕ
made_then made act before behind = if is_work_turn act before then (if keeps_row behind then made + 1 else 0) else 0

-- whether an act strikes a row of work: it is a fault that finds one under way, or at the broken words that it has met
abbrev pub is_strike : Act → Standing → Bool
is_strike (Step victim) standing = false
is_strike Soft standing = is_work_next (next_of standing) || is_broken_at standing
is_strike Hard standing = is_work_next (next_of standing) || is_broken_at standing
is_strike (Quit why) standing = false

-- which turns strike a row, told as the processor whose row it is
abbrev pub strikes_of : State → Turn → List ℕ
strikes_of state turn = if is_strike turn.act (stand_of state turn.processor) then turn.processor ∷ [] else []

module _ (s : Shape) (code : CodeParts) where
  -- of a processor, after a turn and after turns
  abbrev pub made_behind : (processor : ℕ) → (made : ℕ) → State → Turn → ℕ
  made_behind processor made state turn =
      if turn.processor == processor
      then made_then made turn.act (stand_of state processor) (stand_of (happens s code state turn) processor)
      else made

  abbrev pub made_in : (processor : ℕ) → (made : ℕ) → State → List Turn → ℕ
  made_in processor made state [] = made
  made_in processor made state (turn ∷ turns) = made_in processor (made_behind processor made state turn) (happens s code state turn) turns

-- along each run of a code each processor keeps its pace
abbrev pub RowsKeepPace : Type 0
RowsKeepPace = (s : Shape) (code : CodeParts) → IsCode code → (words : List ℕ) (turns : List Turn) (processor : ℕ) → processor < s.processors
    → Paces s (made_in s code processor 0 (opening words s.processors) turns) (stand_of (after s code (opening words s.processors) turns) processor)
