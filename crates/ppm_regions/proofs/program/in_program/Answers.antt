use Rattle.std.proofs.Common.{◌≡◌, [], ◌∷◌, ◌++◌, map, ap, sym, ◌∙◌}
use Rattle.std.specs.List.{flat_map}
use Rattle.std.proofs.lemmas.Simd.{map-map}
use Rattle.ppm_tree.specs.Tree.{procedure_of, tree_of}
use Rattle.ppm_regions.specs.Uses.{Begins, Fills, uses_of_main, sites_at, sites_of_names, sites_of_procedure}
use Rattle.ppm_regions.proofs.Least.{least_append}
use Rattle.ppm_regions.proofs.program.in_program.Goals as goal

-- the names, what stands in the procedures, and what is asked of the whole
pub returns : goal.returns
returns c =
    let t = tree_of c.args.tree.now in
    let arrays = sites_of_names (map (λ a. a.name) t.arrays) in
    let procedures = sites_of_names (map (λ p. p.name) t.procedures) in
    let inputs = sites_of_names (map (λ i. i.name) t.inputs) in
    let inside = flat_map (sites_of_procedure t) t.procedures in
    let outside = sites_at [] (Begins ∷ flat_map uses_of_main t.procedures ++ map Fills t.inputs) in
    let named : map (λ p. p.name) c.as_slice-2.result.now ≡ map (λ p. p.name) t.procedures
    = ap (map (λ p. p.name)) c.as_slice-2.ensures ∙ sym (map-map (λ p. p.name) procedure_of c.args.tree.now.procedures) in
    rw (c.earlier-3.ensures, c.earlier-2.ensures, c.earlier-names.ensures, c.earlier.ensures)
    (least_append t (arrays ++ procedures ++ inputs ++ inside) outside _ _
    (least_append t (arrays ++ procedures ++ inputs) inside _ _
    (least_append t (arrays ++ procedures) inputs _ _
    (least_append t arrays procedures _ _ (rw c.as_slice.ensures at c.in_ok-arrays.ensures t) (rw named at c.in_ok-procedures.ensures t))
    (rw c.as_slice-3.ensures at c.in_ok-inputs.ensures t)) c.in_ok-inside.ensures) c.outside.ensures)
