use Rattle.std.proofs.Common.{◌≡◌}
use Rattle.ppm_core.specs.Machine.{seen}
use Rattle.ppm_choice.specs.Schedules.{rounds}
use Rattle.ppm_following.specs.Following.{IsReady, LeadsTo}
use Rattle.ppm_following.proofs.following.go_on.Given as goal

-- what is left, after what was done, is all
abbrev pub invariant-loop-left : goal.invariant-loop-left
invariant-loop-left l =
    LeadsTo (rounds (seen l.initial.machine).shape.processors l.count) (rounds (seen l.initial.machine).shape.processors l.left)
    (seen l.initial.machine) l.initial.way (seen l.machine) l.way
    × IsReady (seen l.machine) l.way
    × ((seen l.machine).shape ≡ (seen l.initial.machine).shape)

abbrev pub decreases-loop-left : goal.decreases-loop-left
decreases-loop-left l = l.left
