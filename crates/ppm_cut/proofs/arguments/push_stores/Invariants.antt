use Rattle.std.proofs.Common.{◌≡◌, ◌++◌, ◌+◌}
use Rattle.ppm_cut_code.specs.Statements.{Instrs, stores_code}
use Rattle.ppm_cut.proofs.arguments.push_stores.Given as goal

-- what was appended, and what is left
abbrev pub invariant-loop-left : goal.invariant-loop-left
invariant-loop-left l =
    ((rest : Instrs) → l.initial.body.items ++ stores_code l.offset l.number l.count rest ≡ l.body.items ++ stores_code l.word l.from l.left rest)
    × (l.word + l.left ≡ l.offset + l.count) × (l.from + l.left ≡ l.number + l.count)

abbrev pub decreases-loop-left : goal.decreases-loop-left
decreases-loop-left l = l.left
