use Rattle.std.proofs.Common.{◌≡◌, ◌++◌, ◌+◌}
use Rattle.ppm_cut_code.specs.Statements.{Instrs, names_code}
use Rattle.ppm_cut.proofs.arguments.push_loads.Given as goal

-- what was appended, and what is left
abbrev pub invariant-loop-left : goal.invariant-loop-left
invariant-loop-left l =
    ((rest : Instrs) → l.initial.body.items ++ names_code l.slot l.number l.count rest ≡ l.body.items ++ names_code l.at l.to l.left rest)
    × (l.at + l.left ≡ l.slot + l.count) × (l.to + l.left ≡ l.number + l.count)

abbrev pub decreases-loop-left : goal.decreases-loop-left
decreases-loop-left l = l.left
