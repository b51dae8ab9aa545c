use Rattle.std.proofs.Common.{◌≡◌, ◌+◌, ◌*◌, ◌≤◌, ◌^◌, length}
use Rattle.ppm_plan.specs.Faults.{acts_of}
use Rattle.ppm_plan.proofs.schedule.acts_in.Given as goal

-- the acts so far, and those of the items that are left
abbrev pub invariant-loop-left : goal.invariant-loop-left
invariant-loop-left l =
    (l.count + length (acts_of l.left) ≡ length (acts_of l.items)) × (l.count + 2 ^ 32 * length l.left ≤ 2 ^ 32 * 4096)

abbrev pub decreases-loop-left : goal.decreases-loop-left
decreases-loop-left l = length l.left
