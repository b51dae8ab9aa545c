use Rattle.std.proofs.Common.{length}
use Rattle.ppm_commands.proofs.WordLemmas.{IsSoFar}
use Rattle.ppm_commands.proofs.race.cell_of.Given as goal

-- the word is none of the arrays in front of those that are left
abbrev pub invariant-loop-left : goal.invariant-loop-left
invariant-loop-left l = IsSoFar l.arrays l.word l.left l.array l.index

abbrev pub decreases-loop-left : goal.decreases-loop-left
decreases-loop-left l = length l.left
