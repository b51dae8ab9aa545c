use Rattle.std.proofs.Common.{◌-◌, length}
use Rattle.ppm_interleaving.proofs.FallenLemmas.{StandBelow}
use Rattle.ppm_interleaving.proofs.machine.Machine.fallen.Given as goal

-- what strands before this one have settled stands
abbrev pub invariant-loop-strand : goal.invariant-loop-strand
invariant-loop-strand l = StandBelow l.self.words.items l.self.strands.items l.strand

abbrev pub decreases-loop-strand : goal.decreases-loop-strand
decreases-loop-strand l = length l.self.strands.items - l.strand
