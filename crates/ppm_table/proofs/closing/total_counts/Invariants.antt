use Rattle.std.proofs.Common.{◌≡◌, length}
use Rattle.ppm_table.specs.Counting.{none_counted}
use Rattle.ppm_table.specs.Shown.{counts_with}
use Rattle.ppm_table.proofs.closing.total_counts.Given as goal

-- what is left comes to the whole
abbrev pub invariant-loop-left : goal.invariant-loop-left
invariant-loop-left l = counts_with l.all l.left ≡ counts_with none_counted l.processors

abbrev pub decreases-loop-left : goal.decreases-loop-left
decreases-loop-left l = length l.left
