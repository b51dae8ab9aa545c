use Rattle.std.proofs.Common.{◌≡◌, ◌≤◌, ◌++◌, ◌+◌, ◌*◌, drop}
use Rattle.std.specs.List.{AllByRecursion}
use Rattle.ppm_cut_code.specs.Expressions.{size_of}
use Rattle.ppm_cut_code.specs.Statements.{Instrs, arguments_code}
use Rattle.ppm_cut.specs.Counts.{size_limit, arguments_of}
use Rattle.ppm_cut.proofs.arguments.push_arguments.Given as goal

-- what was appended, and what is left
abbrev pub invariant-loop-parameter : goal.invariant-loop-parameter
invariant-loop-parameter l =
    ((rest : Instrs) → l.initial.body.items ++ arguments_code l.layout l.parameters (arguments_of l.arguments) l.number l.at rest
    ≡ l.body.items ++ arguments_code l.layout (drop l.parameter-index l.parameters) (arguments_of l.left) l.to l.from rest)
    × (l.to ≡ l.number + l.parameter-index)
    × (l.from ≤ l.at + size_limit * l.parameter-index)
    × AllByRecursion (λ a. size_of a.value ≤ size_limit) (arguments_of l.left)
