use Rattle.std.proofs.Common.{length}
use Rattle.ppm_saved_reader.proofs.LoopLemmas.{ArraysSoFar}
use Rattle.ppm_saved_reader.proofs.heading.read_arrays.Given as goal

-- arrays were read up to a line
abbrev pub invariant-loop-bytes : goal.invariant-loop-bytes
invariant-loop-bytes l = ArraysSoFar l.text l.line l.arrays.items l.words l.number l.left

abbrev pub decreases-loop-bytes : goal.decreases-loop-bytes
decreases-loop-bytes l = length l.left
