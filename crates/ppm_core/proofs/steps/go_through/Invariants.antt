use Rattle.std.proofs.Common.{◌-◌, ◌≡◌, ◌≤◌}
use Rattle.ppm_cells.specs.Memory.{AreWordsOf}
use Rattle.ppm_core.specs.Moments.{moment, StepsTo}
use Rattle.ppm_step.specs.Stages.{IsUnderWay, rest_at}
use Rattle.ppm_step.specs.Standings.{IsRunning}
use Rattle.ppm_core.proofs.steps.go_through.Given as goal

-- the steps so far, each of them work, lead to the capsule as it is under way
abbrev pub invariant-loop-made : goal.invariant-loop-made
invariant-loop-made l =
    StepsTo l.shape l.code l.fn.running.seat.own l.made l.made
    (moment l.fn.words.items (IsRunning l.fn.running.seat (rest_at l.shape l.code l.fn.running l.fn.running.stage l.fn.registers)))
    (moment l.words.items (IsRunning l.fn.running.seat (rest_at l.shape l.code l.running l.running.stage l.registers)))
    × IsUnderWay l.shape l.code l.running l.registers
    × (l.running.seat ≡ l.fn.running.seat)
    × AreWordsOf l.shape l.words.items
    × (l.made ≤ l.most)

abbrev pub decreases-loop-made : goal.decreases-loop-made
decreases-loop-made l = l.most - l.made
