-- Where a processor stands, as its registers say it.
use Rattle.std.specs.Prelude.{◌≡◌, ℕ, ◌<◌, ◌+◌, true, List, IfSome, Option, Some, None}
use Rattle.ppm_cells.specs.Cells.{word_count}
use Rattle.ppm_cells.specs.Restart.{IsRestart}
use Rattle.ppm_cells.specs.declared.restart.RestartKind.TheVariants.{Run}
use Rattle.ppm_cells.specs.declared.shape.Shape.{Shape}
use Rattle.ppm_code.specs.declared.code.CodeParts.{CodeParts}
use Rattle.ppm_step.specs.declared.local.Local.{Local}
use Rattle.ppm_step.specs.declared.local.Stand.{Stand}
use Rattle.ppm_step.specs.declared.local.Stand.TheVariants.{Lost, Placed, At, Within, Runs, Broken, Done}
use Rattle.ppm_step.specs.declared.row.Point.TheVariants.{Header}
use Rattle.ppm_step.specs.declared.row.Row.TheVariants.{Now}
use Rattle.ppm_step.specs.declared.row.Seat.{Seat}
use Rattle.ppm_step.specs.declared.row.Then.TheVariants.{Load}
use Rattle.ppm_step.specs.declared.running.Running.{Running}
use Rattle.ppm_step.specs.Facts.{IsRow, IsSeat}
use Rattle.ppm_step.specs.Stages.{rest_at, IsUnderWay}
use Rattle.ppm_step.specs.Standings.{Standing, IsLost, IsPlaced, IsAt, IsWithin, IsRunning, IsBroken, IsDone, begins, row_is_there, went_rest}

-- as the rules say it
abbrev pub standing_at : Shape → CodeParts → List ℕ → Stand → Standing
standing_at s code registers Lost = IsLost
standing_at s code registers (Placed place) = IsPlaced place
standing_at s code registers (At place restart) = IsAt place restart
standing_at s code registers (Within seat row) = IsWithin seat row
standing_at s code registers (Runs running) = IsRunning running.seat (rest_at s code running running.stage registers)
standing_at s code registers (Broken place) = IsBroken place
standing_at s code registers Done = IsDone

abbrev pub standing_of : Shape → CodeParts → Local → Standing
standing_of s code local = standing_at s code local.registers local.stand

-- what always holds of a processor's state with this shape and this code
abbrev pub StandsFor : Shape → CodeParts → (own : ℕ) → List ℕ → Stand → Type 0
StandsFor s code own registers Lost = Unit {0}
StandsFor s code own registers (Placed place) = place < s.processors
StandsFor s code own registers (At place restart) = (place < s.processors) × IfSome restart IsRestart
StandsFor s code own registers (Within seat row) = IsSeat s seat × (seat.own ≡ own) × IsRow row × (row_is_there s seat row ≡ true)
StandsFor s code own registers (Runs running) = IsUnderWay s code running registers × (running.seat.own ≡ own)
StandsFor s code own registers (Broken place) = place < 65
StandsFor s code own registers Done = Unit {0}

pub record IsLocal (s : Shape) (code : CodeParts) (local : Local) : Type 0 where
  pub own : local.own < s.processors
  pub stand : StandsFor s code local.own local.registers local.stand

-- where it stands after a step of a capsule under way; else where it stood
abbrev pub went_running : Shape → CodeParts → List ℕ → (found : ℕ) → Stand → Standing
went_running s code registers found (Runs running) = went_rest s running.seat found (rest_at s code running running.stage registers)
went_running s code registers found stand = standing_at s code registers stand

abbrev pub went_if_running : Shape → CodeParts → Local → (found : ℕ) → Standing
went_if_running s code local found = went_running s code local.registers found local.stand

-- where a processor stands that has entered a capsule, or has met broken words as it did so
abbrev pub HasEntered : Shape → CodeParts → Seat → List ℕ → Standing → Option Running → Type 0
HasEntered s code seat registers standing None = standing ≡ IsBroken seat.place
HasEntered s code seat registers standing (Some running) = standing ≡ IsRunning running.seat (rest_at s code running running.stage registers)

-- a seat's frame goes on with the capsule whose number stands at this address, which is loaded where the finish word is 0
pub record IsHeaderOf (s : Shape) (seat : Seat) (address : ℕ) : Type 0 where
  pub seat_is : IsSeat s seat
  pub within : address < word_count s
  pub frame : ℕ
  pub copy : ℕ
  pub kind : seat.restart.kind ≡ Run frame copy
  pub is_at : address ≡ frame + 2 + copy
  pub begins_with : (code : CodeParts) → begins s code seat.own seat.place (Some seat.restart) ≡ IsWithin seat (Now (Load (Header frame copy)))

-- a seat's capsule is none of a frame, or after the finish word its place has met broken words
abbrev pub HasNoHeader : Shape → Seat → Type 0
HasNoHeader s seat =
    (code : CodeParts) (frame copy : ℕ) → seat.restart.kind ≡ Run frame copy
    → begins s code seat.own seat.place (Some seat.restart) ≡ IsBroken seat.place
