-- Where a processor stands that has gone through a part of a capsule.
use Rattle.std.specs.Prelude.{◌≡◌, ℕ, List}
use Rattle.ppm_cells.specs.declared.restart.Restart.{Restart}
use Rattle.ppm_cells.specs.declared.restart.RestartKind.TheVariants.{Run}
use Rattle.ppm_cells.specs.declared.shape.Shape.{Shape}
use Rattle.ppm_strands.specs.Capsule.{Capsule}
use Rattle.ppm_code.specs.Capsules.{capsule_from, reached}
use Rattle.ppm_code.specs.Locations.{Where}
use Rattle.ppm_code.specs.declared.act.End.{End}
use Rattle.ppm_code.specs.declared.code.CodeParts.{CodeParts}
use Rattle.ppm_code.specs.declared.instr.Instr.{Instr}
use Rattle.ppm_code.specs.declared.work.Reached.{Reached}
use Rattle.ppm_code.specs.declared.work.Reached.TheVariants.{Before, AtEnd}
use Rattle.ppm_step.specs.declared.frame.Home.{Home}
use Rattle.ppm_step.specs.declared.row.Seat.{Seat}
use Rattle.ppm_step.specs.declared.running.Stage.{Stage}
use Rattle.ppm_step.specs.declared.running.Stage.TheVariants as stages
use Rattle.ppm_step.specs.Frames.{other_copy, rest_of}
use Rattle.ppm_step.specs.Standings.{Standing, running}

-- the stage of what register work has come to
abbrev pub stage_of : Reached → Stage
stage_of (Before step) = stages.Before step
stage_of (AtEnd end) = stages.Ending end 0

-- register work has come there
abbrev pub HasReached : Shape → List Instr → (next : ℕ) → Reached → List ℕ → Type 0
HasReached s instrs next what registers = (from : ℕ) × (before : List ℕ) × (capsule_from s.arrays 0 from instrs before ≡ reached s.arrays instrs next what registers)

-- the frame goes on with the other copy of its header
abbrev pub goes_round : Seat → Home → Restart
goes_round seat home = record { kind = Run home.frame (other_copy home.copy); bottom = seat.restart.bottom }

module _ (s : Shape) (code : CodeParts) (seat : Seat) (home : Home) where
  -- a processor stands within a capsule of a frame, with this left of it; where what comes next isn't there, at broken words
  abbrev pub stands_in : Capsule Where End → Standing
  stands_in left = running s seat (rest_of s code seat.place home left)

  -- before an instruction
  abbrev pub stands_before : List Instr → (at : ℕ) → List ℕ → Standing
  stands_before instrs at registers = stands_in (capsule_from s.arrays 0 at instrs registers)
