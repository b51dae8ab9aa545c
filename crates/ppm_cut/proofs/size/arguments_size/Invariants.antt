use Rattle.std.proofs.Common.{◌≡◌, ◌≤◌, ◌+◌, ◌*◌, drop}
use Rattle.std.specs.List.{AllByRecursion}
use Rattle.ppm_cut_code.specs.Expressions.{size_of}
use Rattle.ppm_cut_code.specs.Statements.{arguments_size}
use Rattle.ppm_cut.specs.Counts.{size_limit, arguments_of}
use Rattle.ppm_cut.proofs.size.arguments_size.Given as goal

-- the size so far, and that of those that follow
abbrev pub invariant-loop-parameter : goal.invariant-loop-parameter
invariant-loop-parameter l =
    (l.size + arguments_size (drop l.parameter-index l.parameters) (arguments_of l.left) ≡ arguments_size l.parameters (arguments_of l.arguments))
    × (l.size ≤ size_limit * l.parameter-index)
    × AllByRecursion (λ a. size_of a.value ≤ size_limit) (arguments_of l.left)
