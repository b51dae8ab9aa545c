use Rattle.std.proofs.Common.{◌≡◌, length}
use Rattle.ppm_listing_reader.specs.Tokens.{spelled}
use Rattle.ppm_listing_reader.proofs.token.first_spelled.Given as goal

-- the answer is that for those that are left
abbrev pub invariant-loop-table : goal.invariant-loop-table
invariant-loop-table l = spelled l.table l.bytes ≡ spelled l.initial.table l.bytes

abbrev pub decreases-loop-table : goal.decreases-loop-table
decreases-loop-table l = length l.table
