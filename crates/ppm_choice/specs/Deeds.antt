-- The acts of one processor in a run.
use Rattle.std.specs.Prelude.{◌≡◌, ℕ, ◌==◌, if◌then◌else◌, List, [], ◌∷◌, length}
use Rattle.ppm_cells.specs.declared.shape.Shape.{Shape}
use Rattle.ppm_code.specs.declared.code.CodeParts.{CodeParts}
use Rattle.ppm_plan.specs.declared.fault.Fault.{Fault}
use Rattle.ppm_plan.specs.declared.fault.Fault.TheVariants as faults
use Rattle.ppm_step.specs.declared.turn.Act.{Act}
use Rattle.ppm_step.specs.declared.turn.Act.TheVariants.{Soft, Hard}
use Rattle.ppm_step.specs.declared.turn.Turn.{Turn}
use Rattle.ppm_step.specs.Standings.{Standing}
use Rattle.ppm_step.specs.State.{State, stand_of, along, work_of}

-- the act that a fault is
abbrev pub act_of_fault : Fault → Act
act_of_fault faults.Soft = Soft
act_of_fault faults.Hard = Hard

-- an act of a processor, and where it stood before it
pub record Deed : Type 0 where
  pub stood : Standing
  pub act : Act

-- the one that a turn is, if it is a turn of this processor
abbrev pub deeds_by : (processor : ℕ) → State → Turn → List Deed
deeds_by processor state turn =
    if turn.processor == processor then record { stood = stand_of state processor; act = turn.act } ∷ [] else []

-- those of the turns of a run, in order
abbrev pub deeds_of : Shape → CodeParts → (processor : ℕ) → State → List Turn → List Deed
deeds_of s code processor = along s code (deeds_by processor)

-- how many work turns it makes in them
abbrev pub work_by : (processor : ℕ) → State → Turn → List ℕ
work_by processor state turn = if turn.processor == processor then work_of state turn else []

abbrev pub work_made : Shape → CodeParts → (processor : ℕ) → State → List Turn → ℕ
work_made s code processor state turns = length (along s code (work_by processor) state turns)

-- turns of this processor alone
abbrev pub AreOf : (processor : ℕ) → List Turn → Type 0
AreOf processor [] = Unit {0}
AreOf processor (turn ∷ turns) = (turn.processor ≡ processor) × AreOf processor turns
