use Rattle.std.proofs.Common.{◌≡◌, ◌++◌, length, map}
use Rattle.ppm_trace_command.proofs.trace_names.with_arrays.Given as goal

-- the names so far, and those that are left
abbrev pub invariant-loop-left : goal.invariant-loop-left
invariant-loop-left l = l.named.items ++ map (λ a. a.name) l.left ≡ map (λ a. a.name) l.arrays

abbrev pub decreases-loop-left : goal.decreases-loop-left
decreases-loop-left l = length l.left
