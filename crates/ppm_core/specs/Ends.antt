-- The stores with which a capsule ends.
use Rattle.std.specs.Prelude.{ℕ, List, Some}
use Rattle.ppm_cells.specs.Restart.{IsRestart}
use Rattle.ppm_cells.specs.declared.shape.Shape.{Shape}
use Rattle.ppm_code.specs.declared.code.CodeParts.{CodeParts}
use Rattle.ppm_step.specs.declared.row.Seat.{Seat}
use Rattle.ppm_step.specs.Frames.{Rest}
use Rattle.ppm_step.specs.Standings.{IsAt, IsBroken, running}
use Rattle.ppm_core.specs.declared.ends.EndStep.{EndStep}
use Rattle.ppm_core.specs.declared.ends.EndStep.TheVariants.{Before, Installed, Gone}
use Rattle.ppm_core.specs.Moments.{moment, StepsTo}

-- so many stores were made from where this was left of a capsule, and `left` says what is left before the n-th; they lead there, or the place goes
-- on with a restart, or it has met broken words
abbrev pub HasEnded : Shape → CodeParts → Seat → (left : ℕ → Rest) → (from : Rest) → (words words' : List ℕ) → (made : ℕ) → EndStep → Type 0
HasEnded s code seat left from words words' made (Before n) =
    StepsTo s code seat.own made made (moment words (running s seat from)) (moment words' (running s seat (left n)))
HasEnded s code seat left from words words' made (Installed restart) =
    StepsTo s code seat.own made made (moment words (running s seat from)) (moment words' (IsAt seat.place (Some restart))) × IsRestart restart
HasEnded s code seat left from words words' made Gone =
    StepsTo s code seat.own made made (moment words (running s seat from)) (moment words' (IsBroken seat.place))

-- the steps of one store
abbrev pub made_by : EndStep → ℕ
made_by (Before n) = 1
made_by (Installed restart) = 1
made_by Gone = 0
