use Rattle.std.proofs.Common.{◌≡◌, [], ◌∷◌, map, ap, ◌∙◌}
use Rattle.ppm_tree.specs.declared.mode.Mode.TheVariants as mode
use Rattle.ppm_regions.specs.Scope.{plain}
use Rattle.ppm_regions.specs.Uses.{sites_of_names, declaration_sites}
use Rattle.ppm_regions.proofs.Loops.{loop_step, names_more, names_next}
use Rattle.ppm_regions.proofs.declaring.repeated.Goals as goal

-- the names so far and one more
pub loop-item-preserved : goal.loop-item-preserved
loop-item-preserved g c =
    let f = g.T.Item.name_of in
    let made : c.plain.result ≡ plain mode.Int (f c.item-item.result) = c.plain.ensures ∙ ap (plain mode.Int) c.name.ensures in
    record {
      least = λ t.
          rw c.earlier-found.ensures
          (loop_step t (λ xs. sites_of_names (map f xs)) (λ xs x. declaration_sites (map (plain mode.Int) (map f xs)) (plain mode.Int (f x) ∷ [])) (names_more f)
          c.args.items.now c.loop-item.item-index c.item-item.result _ _ c.loop-item-test.true c.item-item.is (c.loop-item.invariant.least t)
          (rw (made, c.loop-item.invariant.scope) at c.in_ok-twice.ensures.least t));
      scope =
          names_next f c.args.items.now c.loop-item.item-index c.item-item.result _ _ _ c.loop-item-test.true c.item-item.is c.loop-item.invariant.scope made
          c.in_ok-twice.ensures.scope.scope;
    }
