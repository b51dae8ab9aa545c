use Rattle.std.proofs.Common.{◌≡◌, [], ◌++◌, ap, ◌∙◌}
use Rattle.ppm_tree.specs.Tree.{side_of, tree_of}
use Rattle.ppm_regions.specs.Kept.{seen}
use Rattle.ppm_regions.specs.Uses.{uses_of_side, lent_by, lent_together}
use Rattle.ppm_regions.proofs.Least.{least_uses}
use Rattle.ppm_regions.proofs.calling.in_call.Goals as goal

-- the side, and what it lends
pub returns : goal.returns
returns c =
    let t = tree_of c.args.procedures.now in
    let s = seen c.args.scope.now in
    let side = side_of c.args.side.now in
    let lent : c.deref.result.now ≡ lent_by t side
    = c.deref.ensures.value ∙ c.in_ok-lend_by.ensures ∙ ap (λ ls. ls ++ lent_by t side) c.new-lendings.ensures.items in
    rw c.earlier.ensures
    (least_uses t s (uses_of_side t side) (lent_together [] (lent_by t side)) _ _ c.in_side-called.ensures (rw lent at c.lent_together.ensures t s))
