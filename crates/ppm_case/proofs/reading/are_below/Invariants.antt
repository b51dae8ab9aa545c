use Rattle.std.proofs.Common.{◌≡◌, nat_lt, length}
use Rattle.std.specs.List.{list_all}
use Rattle.ppm_case.proofs.reading.are_below.Given as goal

-- the answer is that for those that are left
abbrev pub invariant-loop-left : goal.invariant-loop-left
invariant-loop-left l = list_all (λ number. nat_lt number l.limit) l.left ≡ list_all (λ number. nat_lt number l.limit) l.numbers

abbrev pub decreases-loop-left : goal.decreases-loop-left
decreases-loop-left l = length l.left
