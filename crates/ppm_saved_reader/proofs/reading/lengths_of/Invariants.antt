use Rattle.std.proofs.Common.{◌≡◌, ◌++◌, length}
use Rattle.ppm_saved.specs.Names.{lengths_of}
use Rattle.ppm_saved_reader.proofs.reading.lengths_of.Given as goal

-- those so far, and those that are left
abbrev pub invariant-loop-left : goal.invariant-loop-left
invariant-loop-left l = l.lengths.items ++ lengths_of l.left ≡ lengths_of l.arrays

abbrev pub decreases-loop-left : goal.decreases-loop-left
decreases-loop-left l = length l.left
