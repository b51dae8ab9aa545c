use Rattle.std.proofs.Common.{[], ◌∷◌}
use Rattle.ppm_tree.specs.Tree.{expression_of}
use Rattle.ppm_regions.specs.declared.ask.Ask.TheVariants as ask
use Rattle.ppm_regions.specs.Kept.{seen}
use Rattle.ppm_regions.specs.Uses.{Asks, uses_in}
use Rattle.ppm_regions.proofs.Least.{least_uses}
use Rattle.ppm_regions.proofs.expression.+in_expression.Goals as goal

-- the region, or its index
pub returns-in-Element : goal.returns-in-Element
returns-in-Element n c = λ t.
    rw (c.in-Element.is, c.earlier.ensures)
    (least_uses t (seen c.args.scope.now) (Asks ask.Region c.in-Element.region ∷ []) (uses_in (expression_of c.in-Element.index.value)) _ _
    (c.asked-in-Element.ensures t) (rw c.deref.ensures at c.in_expression-inside.ensures t))

-- the one operand or the other
pub returns-in-Binary : goal.returns-in-Binary
returns-in-Binary n c = λ t.
    rw (c.in-Binary.is, c.earlier-in-Binary.ensures)
    (least_uses t (seen c.args.scope.now) (uses_in (expression_of c.in-Binary.left.value)) (uses_in (expression_of c.in-Binary.right.value)) _ _
    (rw c.deref-in-Binary.ensures at c.in_expression-in-Binary.ensures t) (rw c.deref-in-Binary-2.ensures at c.in_expression-in-Binary-2.ensures t))
