use Rattle.std.proofs.Common.{◌≡◌, length}
use Rattle.std.specs.List.{All}
use Rattle.ppm_core.specs.Machine.{seen}
use Rattle.ppm_plan.specs.Schedules.{IsItemAmong}
use Rattle.ppm_choice.specs.Schedules.{listed}
use Rattle.ppm_following.specs.Following.{IsReady, LeadsTo}
use Rattle.ppm_following.proofs.following.list.Given as goal

-- what is left, after what was done, is all
abbrev pub invariant-loop-left : goal.invariant-loop-left
invariant-loop-left l =
    LeadsTo (listed l.items) (listed l.left) (seen l.initial.machine) l.initial.way (seen l.machine) l.way
    × IsReady (seen l.machine) l.way
    × ((seen l.machine).shape ≡ (seen l.initial.machine).shape)
    × All (IsItemAmong (seen l.initial.machine).shape.processors) l.left

abbrev pub decreases-loop-left : goal.decreases-loop-left
decreases-loop-left l = length l.left
