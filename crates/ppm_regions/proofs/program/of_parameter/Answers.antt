use Rattle.std.proofs.Common.{◌≡◌, false, [], inl, inr, arith}
use Rattle.ppm_tree.specs.Tree.{tree_of}
use Rattle.ppm_regions.specs.Scope.{is_region}
use Rattle.ppm_regions.proofs.MainLemmas.{number_is, takes_wrong}
use Rattle.ppm_regions.proofs.program.of_parameter.Goals as goal

-- the parameter is a number
pub returns-then-not-is_region : goal.returns-then-not-is_region
returns-then-not-is_region c =
    let number : is_region c.args.parameter.now.mode ≡ false = grind (arith, c.is_region.ensures, c.if-not-is_region.true) in
    takes_wrong (tree_of c.args.tree.now) [] c.args.parameter.now (inl (number_is c.args.parameter.now.mode number))

-- no array has its name
pub returns-in-None : goal.returns-in-None
returns-in-None c = takes_wrong (tree_of c.args.tree.now) [] c.args.parameter.now (inr (c.in-None.ensures))
