use Rattle.std.proofs.Common.{◌≡◌, length, map}
use Rattle.ppm_tree.specs.Tree.{procedure_of}
use Rattle.ppm_tree.specs.State.{procedure_named}
use Rattle.ppm_by_name.proofs.entering.named.Given as goal

-- what is left has what is sought
abbrev pub invariant-loop-left : goal.invariant-loop-left
invariant-loop-left l = procedure_named (map procedure_of l.left) l.name ≡ procedure_named (map procedure_of l.procedures) l.name

abbrev pub decreases-loop-left : goal.decreases-loop-left
decreases-loop-left l = length l.left
