use Rattle.std.proofs.Common.{length}
use Rattle.ppm_saved_reader.proofs.LoopLemmas.{RunsSoFar}
use Rattle.ppm_saved_reader.proofs.repeated.read_runs.Given as goal

-- runs were read up to a line
abbrev pub invariant-loop-read : goal.invariant-loop-read
invariant-loop-read l = RunsSoFar l.text l.line l.count l.words.items l.last l.number l.left

abbrev pub decreases-loop-read : goal.decreases-loop-read
decreases-loop-read l = length l.left
