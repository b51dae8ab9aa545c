use Rattle.std.proofs.Common.{◌≡◌, [], map, codes}
use Rattle.ppm_tree.specs.Tree.{give_of, procedure_of, tree_of}
use Rattle.ppm_tree.specs.Parts.{gives_of}
use Rattle.ppm_regions.specs.Uses.{MainTakes, MainGives}
use Rattle.ppm_regions.proofs.Least.{least_uses}
use Rattle.ppm_regions.proofs.Names.{bytes_same}
use Rattle.ppm_regions.proofs.program.of_main.Goals as goal

-- the parameters, and what is given
pub returns : goal.returns
returns c =
    let p = c.args.procedure.now in
    let main : p.name.name ≡ codes "main" = (c.is_main.ensures.0 (cc)).named in
    rw (bytes_same p.name.name (codes "main") main, c.earlier.ensures)
    (least_uses (tree_of c.args.tree.now) [] (map MainTakes p.parameters) (map MainGives (gives_of (give_of p.give))) _ _
    (rw c.as_slice.ensures at c.of_parameters.ensures) c.of_give-given.ensures)
