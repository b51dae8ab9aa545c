use Rattle.std.proofs.Common.{◌≡◌, length, map}
use Rattle.ppm_tree.specs.Tree.{procedure_of}
use Rattle.ppm_explain.specs.Bounds.{procedure_at}
use Rattle.ppm_explain.proofs.bounds.procedure_at.Given as goal

-- what is left decides
abbrev pub invariant-procedures : goal.invariant-procedures
invariant-procedures l = procedure_at l.ahead (map procedure_of l.left) ≡ procedure_at l.fn.number (map procedure_of l.fn.procedures)

abbrev pub decreases-procedures : goal.decreases-procedures
decreases-procedures l = length l.left
