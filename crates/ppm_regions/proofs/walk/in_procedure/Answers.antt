use Rattle.std.proofs.Common.{◌≡◌, [], ◌++◌, map, ap, ◌∙◌}
use Rattle.ppm_tree.specs.Tree.{block_of, give_of, tree_of}
use Rattle.ppm_regions.specs.Scope.{of_parameter, scope_behind}
use Rattle.ppm_regions.specs.Kept.{seen}
use Rattle.ppm_regions.specs.Uses.{declaration_sites, sites_of_block, sites_of_give}
use Rattle.ppm_regions.proofs.Least.{least_append}
use Rattle.ppm_regions.proofs.walk.in_procedure.Goals as goal

-- the parameters, the statements, and what is given
pub returns : goal.returns
returns c =
    let t = tree_of c.args.procedures.now in
    let body = block_of c.args.procedure.now.body.items in
    let s = map of_parameter c.args.procedure.now.parameters in
    let none : seen c.new-scope.result ≡ [] = ap seen c.new-scope.ensures in
    let started : seen c.declare_all.new.scope ≡ s
    = c.in_ok-twice.ensures.scope.scope ∙ ap (λ z. z ++ map of_parameter c.as_slice.result.now) none ∙ ap (map of_parameter) c.as_slice.ensures in
    rw (c.earlier-2.ensures, c.earlier.ensures)
    (least_append t (declaration_sites [] s ++ sites_of_block t s body) (sites_of_give t (scope_behind s body) (give_of c.args.procedure.now.give)) _ _
    (least_append t (declaration_sites [] s) (sites_of_block t s body) _ _
    (rw (none, c.as_slice.ensures) at c.in_ok-twice.ensures.least t)
    (rw (started, c.deref.ensures.value) at c.in_ok-inside.ensures.least))
    (rw (c.in_ok-inside.ensures.scope.scope, started, c.deref.ensures.value) at c.in_give-given.ensures t))
