-- The runs of a sweep with one fault in each schedule, by the numbers of the acts of its base run.
use Rattle.std.specs.Prelude.{◌≡◌, ℕ, ◌==◌, if◌then◌else◌, List, [], ◌∷◌, ◌++◌, length}
use Rattle.ppm_cells.specs.declared.shape.Shape.{Shape}
use Rattle.ppm_code.specs.declared.code.CodeParts.{CodeParts}
use Rattle.ppm_plan.specs.declared.fault.Fault.{Fault}
use Rattle.ppm_plan.specs.declared.fault.Fault.TheVariants.{Soft, Hard}
use Rattle.ppm_plan.specs.declared.schedule_item.ScheduleItem.{ScheduleItem}
use Rattle.ppm_step.specs.declared.turn.Turn.{Turn}
use Rattle.ppm_step.specs.State.{State}
use Rattle.ppm_choice.specs.Deeds.{act_of_fault}
use Rattle.ppm_choice.specs.Schedules.{schedule_turns}
use Rattle.ppm_sweep.specs.declared.options.Window.{Window}
use Rattle.ppm_sweep.specs.Sweep.{Swept, is_in, sweep_of}

-- these turns, and then a fault of a processor
abbrev pub struck_after : List Turn → (processor : ℕ) → Fault → List Turn
struck_after first c fault = first ++ record { processor = c; act = act_of_fault fault } ∷ []

-- first a soft one, and then a hard one, but not of the keeper
abbrev pub both_faults : (keeper : ℕ) → (first : List Turn) → (processor : ℕ) → List (List Turn)
both_faults keeper first c = struck_after first c Soft ∷ (if c == keeper then [] else struck_after first c Hard ∷ [])

-- before each turn of a run that is in the window, after those that come first, a fault of its processor
abbrev pub struck_turns : (keeper : ℕ) → Window → (first : List Turn) → List Turn → List (List Turn)
struck_turns keeper window first [] = []
struck_turns keeper window first (turn ∷ turns) =
    (if is_in window (length first) then both_faults keeper first turn.processor else [])
    ++ struck_turns keeper window (first ++ turn ∷ []) turns

-- the runs of some schedules begin with these turns, one for one
abbrev pub Begin : Shape → CodeParts → State → (turns : ℕ) → List Swept → List (List Turn) → Type 0
Begin s code state turns [] [] = Unit {0}
Begin s code state turns [] (first ∷ firsts) = ⊥
Begin s code state turns (v ∷ swept) [] = ⊥
Begin s code state turns (v ∷ swept) (first ∷ firsts) =
    ((rest : List Turn) × (schedule_turns s code state v.items turns ≡ first ++ rest)) × Begin s code state turns swept firsts

-- a sweep with one fault at most over each act of a window: its runs are that of the base schedule, and then, for each act of this run that is in the
-- window, in order, one that begins with the acts before it and a fault of its processor in its place
abbrev pub EachActIsStruck : Type 0
EachActIsStruck = (s : Shape) (code : CodeParts) (keeper turns : ℕ) (state : State) (items : List ScheduleItem) (window : Window)
    → let base = schedule_turns s code state items turns in
    Begin s code state turns (sweep_of s code keeper turns state items 1 (window ∷ [])) (base ∷ struck_turns keeper window [] base)
