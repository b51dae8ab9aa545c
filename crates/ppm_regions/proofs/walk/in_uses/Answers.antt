use Rattle.std.proofs.Common.{[], ◌∷◌}
use Rattle.ppm_tree.specs.Tree.{expression_of, tree_of}
use Rattle.ppm_regions.specs.declared.ask.Ask.TheVariants as ask
use Rattle.ppm_regions.specs.Kept.{seen}
use Rattle.ppm_regions.specs.Uses.{Asks, uses_in}
use Rattle.ppm_regions.proofs.Least.{least_uses}
use Rattle.ppm_regions.proofs.walk.in_uses.Goals as goal

-- the local, and its value
pub returns-in-Assign : goal.returns-in-Assign
returns-in-Assign c =
    let t = tree_of c.args.procedures.now in
    rw (c.in-Assign.is, c.earlier.ensures)
    (least_uses t (seen c.args.scope.now) (Asks ask.Assigned c.in-Assign.name ∷ []) (uses_in (expression_of c.in-Assign.value)) _ _ (c.asked.ensures t)
    (c.in_expression-inside.ensures t))

-- the region, its index and the value
pub returns-in-Put : goal.returns-in-Put
returns-in-Put c =
    let t = tree_of c.args.procedures.now in
    let index = uses_in (expression_of c.in-Put.index) in
    rw (c.in-Put.is, c.earlier-in-Put.ensures, c.earlier-written.ensures)
    (least_uses t (seen c.args.scope.now) (Asks ask.Written c.in-Put.name ∷ index) (uses_in (expression_of c.in-Put.value)) _ _
    (least_uses t (seen c.args.scope.now) (Asks ask.Written c.in-Put.name ∷ []) index _ _ (c.asked-in-Put.ensures t) (c.in_expression-inside-in-Put.ensures t))
    (c.in_expression-in-Put.ensures t))

-- the region, and how many words its first part has
pub returns-in-Split : goal.returns-in-Split
returns-in-Split c =
    let t = tree_of c.args.procedures.now in
    rw (c.in-Split.is, c.earlier-in-Split.ensures)
    (least_uses t (seen c.args.scope.now) (Asks ask.Region c.in-Split.region ∷ []) (uses_in (expression_of c.in-Split.at)) _ _ (c.asked-in-Split.ensures t)
    (c.in_expression-inside-in-Split.ensures t))
