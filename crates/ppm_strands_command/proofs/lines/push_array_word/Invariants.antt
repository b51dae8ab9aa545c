use Rattle.std.proofs.Common.{◌≡◌, length, map}
use Rattle.ppm_naming.specs.Cells.{element_from}
use Rattle.ppm_strands_command.proofs.lines.push_array_word.Given as goal

-- nothing is written, and the arrays that are left decide
abbrev pub invariant-loop-rest : goal.invariant-loop-rest
invariant-loop-rest l =
    (l.text.items ≡ l.fn.text.items)
    × (element_from l.fn.word (map (λ a. a.name) l.rest) (map (λ a. length a.values) l.rest) l.left
    ≡ element_from l.fn.word (map (λ a. a.name) l.arrays) (map (λ a. length a.values) l.arrays) l.fn.word)

abbrev pub decreases-loop-rest : goal.decreases-loop-rest
decreases-loop-rest l = length l.rest
