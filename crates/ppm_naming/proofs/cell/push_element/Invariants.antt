use Rattle.std.proofs.Common.{◌≡◌, length}
use Rattle.ppm_naming.specs.Cells.{element_from}
use Rattle.ppm_naming.proofs.cell.push_element.Given as goal

-- nothing is written, and the arrays that are left decide
abbrev pub invariant-loop-names : goal.invariant-loop-names
invariant-loop-names l =
    (l.text.items ≡ l.fn.text.items)
    × (element_from l.fn.index l.names l.sizes l.left ≡ element_from l.fn.index l.arrays l.lengths l.fn.index)

abbrev pub decreases-loop-names : goal.decreases-loop-names
decreases-loop-names l = length l.names
