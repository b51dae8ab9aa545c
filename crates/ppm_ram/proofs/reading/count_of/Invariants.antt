use Rattle.std.proofs.Common.{◌≡◌, ◌≤◌, ◌+◌, length}
use Rattle.ppm_pieces.specs.Pieces.{split}
use Rattle.ppm_ram.specs.Lines.{count_of}
use Rattle.ppm_ram.proofs.reading.count_of.Given as goal

-- the lines so far and those that are left; each has a byte at least
abbrev pub invariant-loop-rest : goal.invariant-loop-rest
invariant-loop-rest l = (l.lines + count_of (split 10 l.left) ≡ count_of (split 10 l.text)) × (l.lines + length l.left ≤ length l.text)

abbrev pub decreases-loop-rest : goal.decreases-loop-rest
decreases-loop-rest l = length l.left
