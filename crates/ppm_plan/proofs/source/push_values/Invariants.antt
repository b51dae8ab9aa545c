use Rattle.std.proofs.Common.{◌≡◌, ◌+◌, ◌<◌, ◌^◌, ◌++◌}
use Rattle.ppm_plan.specs.Sources.{values_from}
use Rattle.ppm_plan.proofs.source.push_values.Given as goal

-- the values so far, and those that are still to come
abbrev pub invariant-loop-left : goal.invariant-loop-left
invariant-loop-left l =
    (l.text.items ++ values_from l.seed l.index l.left ≡ l.initial.text.items ++ values_from l.seed l.first l.count)
    × (l.index + l.left < 2 ^ 32)

abbrev pub decreases-loop-left : goal.decreases-loop-left
decreases-loop-left l = l.left
