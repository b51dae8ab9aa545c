-- That each schedule of a sweep may be obeyed as the base schedule may: with the same keeper.
use Rattle.std.specs.Prelude.{◌≡◌, ◌≤◌, ℕ, true, List, length}
use Rattle.std.specs.List.{All, AllByRecursion}
use Rattle.ppm_cells.specs.declared.shape.Shape.{Shape}
use Rattle.ppm_code.specs.declared.code.CodeParts.{CodeParts}
use Rattle.ppm_plan.specs.declared.schedule_item.ScheduleItem.{ScheduleItem}
use Rattle.ppm_plan.specs.Forms.{schedule_form}
use Rattle.ppm_plan.specs.Refusals.{item_limit, IsKeeper}
use Rattle.ppm_plan.specs.Schedules.{IsItemAmong}
use Rattle.ppm_step.specs.State.{State}
use Rattle.ppm_sweep.specs.declared.options.Window.{Window}
use Rattle.ppm_sweep.specs.Sweep.{Swept, is_short, sweep_of}

-- items for so many processors, with this keeper
pub record AreFair (processors keeper : ℕ) (items : List ScheduleItem) : Type 0 where
  pub among : All (IsItemAmong processors) items
  pub kept : IsKeeper schedule_form items keeper

-- a schedule of a sweep is such a list; one that is short has no more items than may be obeyed
pub record IsFair (processors keeper : ℕ) (v : Swept) : Type 0 where
  pub fair : AreFair processors keeper v.items
  pub few : is_short v ≡ true → length v.items ≤ item_limit

-- of a base schedule with this keeper they all are
abbrev pub SweepsAreFair : Type 0
SweepsAreFair = (s : Shape) (code : CodeParts) (keeper turns : ℕ) (state : State) (items : List ScheduleItem) (most : ℕ) (windows : List Window)
    → AreFair s.processors keeper items → AllByRecursion (IsFair s.processors keeper) (sweep_of s code keeper turns state items most windows)
