use Rattle.std.proofs.Common.{◌≡◌, drop, map}
use Rattle.ppm_tree.specs.Tree.{expression_of}
use Rattle.ppm_cut_bounds.specs.Catching.{has, names_in}
use Rattle.ppm_cut.proofs.free.is_in_arguments.Given as goal

-- the rest names it exactly where the arguments do
abbrev pub invariant-loop-argument : goal.invariant-loop-argument
invariant-loop-argument l =
    has (names_in (map (λ a. expression_of a.value) (drop l.argument-index l.arguments))) l.name ≡ has (names_in (map (λ a. expression_of a.value) l.arguments)) l.name
