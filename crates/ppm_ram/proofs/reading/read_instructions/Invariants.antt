use Rattle.std.proofs.Common.{◌≡◌, ◌≤◌, ◌+◌, length}
use Rattle.ppm_pieces.specs.Pieces.{split}
use Rattle.ppm_ram.specs.Lines.{instructions_in}
use Rattle.ppm_ram.specs.Said.{behind}
use Rattle.ppm_ram.proofs.reading.read_instructions.Given as goal

-- all lines say the instructions so far and what those that are left say
abbrev pub invariant-loop-line : goal.invariant-loop-line
invariant-loop-line l =
    (behind l.instructions.items (instructions_in l.count l.number (split 10 l.left)) ≡ instructions_in l.count 0 (split 10 l.text))
    × (l.number + length l.left ≤ length l.text)

abbrev pub decreases-loop-line : goal.decreases-loop-line
decreases-loop-line l = length l.left
