use Rattle.std.proofs.Common.{◌+◌, ◌*◌, length}
use Rattle.ppm_sweep.specs.Ahead.{dues_in}
use Rattle.ppm_sweep.specs.Spots.{IsSpot}
use Rattle.ppm_sweep.proofs.WalkLemmas.{Walked}
use Rattle.ppm_sweep.proofs.sweeping.+sweeps.Given as goal

-- a fault less to put is five calls more
abbrev pub decreases-sweep_from : goal.decreases-sweep_from
decreases-sweep_from l = 5 * l.sweeping.faults + 4

abbrev pub decreases-further : goal.decreases-further
decreases-further l = 5 * l.sweeping.faults + 3

abbrev pub decreases-walk : goal.decreases-walk
decreases-walk l = 5 * l.sweeping.faults + 2

abbrev pub decreases-visit : goal.decreases-visit
decreases-visit l = 5 * l.sweeping.faults + 1

abbrev pub decreases-strikes : goal.decreases-strikes
decreases-strikes l = 5 * l.sweeping.faults

-- the schedules up to here were gone through
abbrev pub invariant-walk-acts : goal.invariant-walk-acts
invariant-walk-acts l =
    Walked l.wanted l.sweeping l.initial.spot l.spot l.initial.tally l.tally × IsSpot l.wanted l.spot

-- what is ahead becomes shorter
abbrev pub decreases-walk-acts : goal.decreases-walk-acts
decreases-walk-acts l = length (dues_in l.spot.ahead)
