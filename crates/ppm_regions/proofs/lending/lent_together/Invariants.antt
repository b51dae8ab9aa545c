use Rattle.std.proofs.Common.{[], take}
use Rattle.ppm_tree.specs.Tree.{ProgramTree}
use Rattle.ppm_regions.specs.Scope.{Scope}
use Rattle.ppm_regions.specs.Uses.{lent_together}
use Rattle.ppm_regions.specs.Deciding.{IsLeastOf}
use Rattle.ppm_regions.proofs.lending.lent_together.Given as goal

-- the first fault of the regions so far
abbrev pub invariant-loop-at : goal.invariant-loop-at
invariant-loop-at l = (t : ProgramTree) (s : Scope) → IsLeastOf t s (lent_together [] (take l.at l.lendings)) l.found
