use Rattle.std.proofs.Common.{◌≡◌, map, ap, ap₂, subst, sym, ◌∙◌}
use Rattle.ppm_words.specs.Inputs.{IsInput}
use Rattle.ppm_tree.specs.Tree.{tree_of}
use Rattle.ppm_tree.specs.Program.{initial_array, initial_arrays}
use Rattle.ppm_regions.proofs.Inputs.{input_fits}
use Rattle.ppm_regions.proofs.initial.initial_input.Goals as goal

-- an admitted program's arrays keep the limits of an input
pub from_vec-requires : goal.from_vec-requires
from_vec-requires c =
    let inputs = c.as_slice.ensures ∙ ap (λ t. (tree_of t).inputs) c.tree-tree.ensures.value in
    let arrays = c.as_slice-2.ensures ∙ ap (λ t. (tree_of t).arrays) c.tree-tree.ensures.value in
    let all : c.in_ok-arrays.arrays.items ≡ initial_arrays (tree_of c.args.program.now)
    = c.in_ok-arrays.ensures ∙ ap₂ (λ xs ys. map (initial_array xs) ys) inputs arrays in
    subst IsInput (sym all) (input_fits (tree_of c.args.program.now) c.tree-tree.ensures.limits c.requires)
