use Rattle.std.proofs.Common.{◌≡◌, length}
use Rattle.ppm_strand_runs.specs.Made.{made_in}
use Rattle.ppm_strand_runs.proofs.made.made_turn.Given as goal

-- the notes that are left decide, with the turn so far
abbrev pub invariant-loop-first : goal.invariant-loop-first
invariant-loop-first l = made_in l.left l.strand l.number l.turn ≡ made_in l.made l.strand l.number 0

abbrev pub decreases-loop-first : goal.decreases-loop-first
decreases-loop-first l = length l.left
