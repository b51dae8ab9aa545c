use Rattle.std.proofs.Common.{◌≡◌, nat_le, length}
use Rattle.std.specs.List.{list_any}
use Rattle.ppm_words.specs.Limits.{array_limit}
use Rattle.ppm_listing_reader.proofs.rules.any_past_limit.Given as goal

-- the answer is that for those that are left
abbrev pub invariant-loop-left : goal.invariant-loop-left
invariant-loop-left l = list_any (λ a. nat_le array_limit a) l.left ≡ list_any (λ a. nat_le array_limit a) l.arrays

abbrev pub decreases-loop-left : goal.decreases-loop-left
decreases-loop-left l = length l.left
