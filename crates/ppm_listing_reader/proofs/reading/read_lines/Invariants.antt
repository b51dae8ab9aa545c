use Rattle.std.proofs.Common.{length}
use Rattle.ppm_listing_reader.proofs.FrontLemmas.{Goes}
use Rattle.ppm_listing_reader.proofs.reading.read_lines.Given as goal

-- some lines were read, and the rest stands after them
abbrev pub invariant-loop-bytes : goal.invariant-loop-bytes
invariant-loop-bytes l = Goes l.text l.reader l.left

abbrev pub decreases-loop-bytes : goal.decreases-loop-bytes
decreases-loop-bytes l = length l.left
