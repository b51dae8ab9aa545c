use Rattle.std.proofs.Common.{◌≡◌, [], ◌++◌, ap, ◌∙◌}
use Rattle.ppm_tree.specs.Tree.{side_of, tree_of}
use Rattle.ppm_regions.specs.Kept.{seen}
use Rattle.ppm_regions.specs.Uses.{uses_of_side, both_targets, lent_by, lent_together}
use Rattle.ppm_regions.proofs.Least.{least_uses}
use Rattle.ppm_regions.proofs.calling.in_fork.Goals as goal

-- both sides, their targets, and what they lend
pub returns : goal.returns
returns c =
    let t = tree_of c.args.procedures.now in
    let s = seen c.args.scope.now in
    let left = side_of c.args.left.now in
    let right = side_of c.args.right.now in
    let lent : c.deref.result.now ≡ lent_by t left ++ lent_by t right
    = c.deref.ensures.value ∙ c.in_ok-lend_by-2.ensures
    ∙ ap (λ ls. ls ++ lent_by t right) (c.in_ok-lend_by.ensures ∙ ap (λ ls. ls ++ lent_by t left) c.new-lendings.ensures.items) in
    rw (c.earlier-2.ensures, c.earlier-sides.ensures, c.earlier.ensures)
    (least_uses t s (uses_of_side t left ++ uses_of_side t right ++ both_targets left.target right.target) (lent_together [] (lent_by t left ++ lent_by t right)) _ _
    (least_uses t s (uses_of_side t left ++ uses_of_side t right) (both_targets left.target right.target) _ _
    (least_uses t s (uses_of_side t left) (uses_of_side t right) _ _ c.in_side-on_left.ensures c.in_side-on_right.ensures)
    (c.of_targets-targets.ensures t s)) (rw lent at c.lent_together-lent.ensures t s))
