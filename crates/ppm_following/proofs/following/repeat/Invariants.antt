use Rattle.std.proofs.Common.{replicate, ◌≡◌}
use Rattle.ppm_core.specs.Machine.{seen}
use Rattle.ppm_choice.specs.Course.{Listed}
use Rattle.ppm_following.specs.Following.{IsReady, LeadsTo}
use Rattle.ppm_following.proofs.following.repeat.Given as goal

-- what is left, after what was done, is all
abbrev pub invariant-loop-left : goal.invariant-loop-left
invariant-loop-left l =
    LeadsTo (replicate l.times (Listed l.act)) (replicate l.left (Listed l.act)) (seen l.initial.machine) l.initial.way
    (seen l.machine) l.way
    × IsReady (seen l.machine) l.way
    × ((seen l.machine).shape ≡ (seen l.initial.machine).shape)

abbrev pub decreases-loop-left : goal.decreases-loop-left
decreases-loop-left l = l.left
