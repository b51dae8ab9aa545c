-- What a capsule of a frame under way has still to do.
use Rattle.std.specs.Prelude.{◌≡◌, ℕ, ◌<◌, true, List, length, Some}
use Rattle.ppm_cells.specs.declared.shape.Shape.{Shape}
use Rattle.ppm_code.specs.Capsules.{capsule_from, at_step}
use Rattle.ppm_code.specs.Strands.{instrs_of}
use Rattle.ppm_code.specs.declared.code.CodeParts.{CodeParts}
use Rattle.ppm_step.specs.declared.running.Stage.{Stage}
use Rattle.ppm_step.specs.declared.running.Stage.TheVariants.{Before, Ending, Filled}
use Rattle.ppm_step.specs.declared.running.Running.{Running}
use Rattle.ppm_step.specs.Facts.{IsHome, IsEnd, IsSeat}
use Rattle.ppm_step.specs.Frames.{Rest, Full, ending, asks, at_counter, rest_of}
use Rattle.ppm_cells.specs.Cells.{pool_at}
use Rattle.ppm_step.specs.declared.going.Going.{Going}
use Rattle.ppm_step.specs.declared.going.Going.TheVariants.{Went, Installed}
use Rattle.ppm_step.specs.declared.row.Seat.{Seat}
use Rattle.ppm_cells.specs.Restart.{IsRestart}
use Rattle.ppm_step.specs.Standings.{Standing, IsAt, running_if, rest_is_there}

-- what is left from an instruction on
abbrev pub rest_from : Shape → CodeParts → Running → (skip : ℕ) → List ℕ → Rest
rest_from s code running skip registers =
    rest_of s code running.seat.place running.home
    (capsule_from s.arrays 0 skip (instrs_of code running.capsule) registers)

-- what is left where so many words are asked for, with the room counter
abbrev pub asked : Shape → CodeParts → Running → (counter words : ℕ) → List ℕ → Rest
asked s code running counter words registers =
    asks (pool_at s running.seat.place) s.room counter words
    (rest_of s code running.seat.place (at_counter running.home counter)
    (capsule_from s.arrays 0 running.next (instrs_of code running.capsule) registers))

-- by the stage
abbrev pub rest_at : Shape → CodeParts → Running → Stage → List ℕ → Rest
rest_at s code running (Before step) registers =
    rest_of s code running.seat.place running.home
    (at_step (λ t h. capsule_from s.arrays 0 t (instrs_of code running.capsule) h) running.next step registers)
rest_at s code running (Ending end n) registers = ending code running.home end n
rest_at s code running Filled registers = Full

-- an end names a line of the source
abbrev pub IsStage : Stage → Type 0
IsStage (Ending end n) = IsEnd end
IsStage _ = Unit {0}

-- its numbers fit the words, and what it asks next is there
pub record IsUnderWay (s : Shape) (code : CodeParts) (running : Running) (registers : List ℕ) : Type 0 where
  pub seat : IsSeat s running.seat
  pub home : IsHome running.home
  pub capsule : running.capsule < length code.capsules
  pub stage : IsStage running.stage
  pub is_there : rest_is_there s running.seat (rest_at s code running running.stage registers) ≡ true

-- where the processor stands after a step of the capsule, with what is left of it
abbrev pub went_on : Seat → Rest → Going → Standing
went_on seat rest (Went there) = running_if seat rest there
went_on seat rest (Installed restart) = IsAt seat.place (Some restart)

-- and what then holds
abbrev pub WentOn : Shape → CodeParts → Running → List ℕ → Going → Type 0
WentOn s code running registers (Went there) = there ≡ true → IsUnderWay s code running registers
WentOn s code running registers (Installed restart) = IsRestart restart
