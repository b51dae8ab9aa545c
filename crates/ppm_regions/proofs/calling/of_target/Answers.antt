use Rattle.std.proofs.Common.{[], ◌∷◌}
use Rattle.ppm_tree.specs.Tree.{tree_of}
use Rattle.ppm_regions.specs.declared.ask.Ask.TheVariants as ask
use Rattle.ppm_regions.specs.Kept.{seen}
use Rattle.ppm_regions.specs.Uses.{Asks, Delivers}
use Rattle.ppm_regions.proofs.Least.{least_uses}
use Rattle.ppm_regions.proofs.calling.of_target.Goals as goal

-- the target, or the procedure's value
pub returns-in-Some : goal.returns-in-Some
returns-in-Some c =
    rw (c.in-Some.is, c.earlier.ensures)
    (least_uses (tree_of c.args.procedures.now) (seen c.args.scope.now) (Asks ask.Assigned c.in-Some.name ∷ []) (Delivers c.args.callee.now ∷ []) _ _
    (c.asked.ensures (tree_of c.args.procedures.now)) (c.of_value.ensures (seen c.args.scope.now)))
