use Rattle.std.proofs.Common.{◌≡◌, ◌+◌, ℕ, drop, map}
use Rattle.std.specs.List.{AllByRecursion}
use Rattle.ppm_tree.specs.Tree.{procedure_of}
use Rattle.ppm_cut_bounds.specs.Bounds.{Keeps}
use Rattle.ppm_cut_bounds.specs.Refusals.{IsFirstPast}
use Rattle.ppm_cut_bounds.proofs.bounding.first_past.Given as goal

-- the procedures so far keep the bound
abbrev pub invariant-loop-procedure : goal.invariant-loop-procedure
invariant-loop-procedure l =
    (l.number ≡ l.procedure-index)
    × (AllByRecursion (Keeps l.bound) (map procedure_of (drop l.procedure-index l.procedures)) → AllByRecursion (Keeps l.bound) (map procedure_of l.procedures))
    × ((n : ℕ) → IsFirstPast l.bound (map procedure_of (drop l.procedure-index l.procedures)) n → IsFirstPast l.bound (map procedure_of l.procedures) (l.procedure-index + n))
