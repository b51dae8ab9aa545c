-- Which turns a reader is shown.
use Rattle.std.specs.Prelude.{ℕ, nat_lt, Bool, true, false, List, length}
use Rattle.ppm_cells.specs.Memory.{read}
use Rattle.ppm_cells.specs.declared.cell.Cell.TheVariants.{FinishWord}
use Rattle.ppm_cells.specs.declared.restart.RestartKind.{RestartKind}
use Rattle.ppm_cells.specs.declared.restart.RestartKind.TheVariants as kind
use Rattle.ppm_cells.specs.declared.shape.Shape.{Shape}
use Rattle.ppm_code.specs.declared.code.CodeParts.{CodeParts}
use Rattle.ppm_lines.specs.Marks.{marks_at}
use Rattle.ppm_lines.specs.declared.shown.Only.{Only}
use Rattle.ppm_lines.specs.declared.shown.Only.TheVariants as shows
use Rattle.ppm_step.specs.Frames.{Rest, Full, Installs}
use Rattle.ppm_step.specs.Standings.{Standing, IsPlaced, IsAt, IsWithin, IsRunning, IsBroken, IsDone}
use Rattle.ppm_step.specs.State.{State, stand_of}
use Rattle.ppm_step.specs.declared.row.Row.{Row}
use Rattle.ppm_step.specs.declared.row.Row.TheVariants.{Now, Store, Exchange}
use Rattle.ppm_step.specs.declared.row.Seat.{Seat}
use Rattle.ppm_step.specs.declared.row.Then.{Then}
use Rattle.ppm_step.specs.declared.row.Then.TheVariants.{Install, Fork, Begin, Move, Again}
use Rattle.ppm_step.specs.declared.turn.Act.{Act}
use Rattle.ppm_step.specs.declared.turn.Act.TheVariants.{Step}
use Rattle.ppm_step.specs.declared.turn.Turn.{Turn}

-- the store of a restart word or of a carry word ends a row
abbrev pub leaves : Then → Bool
leaves (Install restart) = true
leaves (Fork block) = true
leaves (Begin block frame bottom) = true
leaves (Move place) = true
leaves _ = false

-- a step after which the place goes on with the restart word that it has ends a row
abbrev pub goes_back : Then → Bool
goes_back Again = true
goes_back _ = false

-- but where a look of Seek finds nothing
abbrev pub exchange_ends : RestartKind → Then → Bool
exchange_ends kind.Seek next = false
exchange_ends _ next = goes_back next

abbrev pub row_ends : Seat → Row → Bool
row_ends seat (Now next) = leaves next
row_ends seat (Store cell content next) = goes_back next
row_ends seat (Exchange cell old new next) = exchange_ends seat.restart.kind next

-- a capsule installs what it goes on with, or finds its pool full
abbrev pub rest_ends : Rest → Bool
rest_ends (Installs into) = true
rest_ends Full = true
rest_ends _ = false

module _ (s : Shape) (code : CodeParts) (words : List ℕ) where
  -- a step that ends a row, and a load of the finish word that finds one
  abbrev pub step_ends : Standing → Bool
  step_ends (IsAt place restart) = nat_lt 0 (read s words FinishWord)
  step_ends (IsWithin seat row) = row_ends seat row
  step_ends (IsRunning seat rest) = rest_ends rest
  step_ends (IsBroken place) = true
  step_ends _ = false

  -- an act that ends a row: such a step, or a fault or a quit, wherever the processor stood
  abbrev pub act_ends : Act → Standing → Bool
  act_ends (Step victim) standing = step_ends standing
  act_ends act standing = true

  -- of rows: what ends one, and the loads of restart words
  abbrev pub row_is_shown : Act → Standing → Bool
  row_is_shown act IsDone = false
  row_is_shown act (IsPlaced place) = true
  row_is_shown act standing = act_ends act standing

  abbrev pub is_shown_at : Only → Act → Standing → Bool
  is_shown_at shows.Turns act standing = true
  is_shown_at shows.Rows act standing = row_is_shown act standing
  is_shown_at shows.Marks act standing = nat_lt 0 (length (marks_at s code words act standing))

-- whether a reader is shown a turn
abbrev pub is_shown : Shape → CodeParts → Only → State → Turn → Bool
is_shown s code only state turn = is_shown_at s code state.words only turn.act (stand_of state turn.processor)
