use Rattle.std.proofs.Common.{◌≡◌, ◌-◌, map}
use Rattle.std.specs.List.{range_with_len}
use Rattle.ppm_core.specs.Machine.{seen}
use Rattle.ppm_choice.specs.Course.{InRound}
use Rattle.ppm_choice.specs.Schedules.{round}
use Rattle.ppm_following.specs.Following.{IsReady, LeadsTo}
use Rattle.ppm_following.proofs.following.go_round.Given as goal

-- what is left, after what was done, is all
abbrev pub invariant-loop-processor : goal.invariant-loop-processor
invariant-loop-processor l =
    LeadsTo (round (seen l.initial.machine).shape.processors) (map InRound (range_with_len l.processor (l.processors - l.processor)))
    (seen l.initial.machine) l.initial.way (seen l.machine) l.way
    × IsReady (seen l.machine) l.way
    × ((seen l.machine).shape ≡ (seen l.initial.machine).shape)
    × (l.processors ≡ (seen l.initial.machine).shape.processors)

abbrev pub decreases-loop-processor : goal.decreases-loop-processor
decreases-loop-processor l = l.processors - l.processor
