use Rattle.std.proofs.Common.{drop, map}
use Rattle.ppm_tree.specs.Tree.{expression_of}
use Rattle.ppm_cut_bounds.specs.Catching.{names_in}
use Rattle.ppm_cut_bounds.proofs.Notes.{InNames}
use Rattle.ppm_cut_bounds.proofs.walk.Walk.arguments.Given as goal

-- the names in the arguments that follow are still to come
abbrev pub invariant-loop-argument : goal.invariant-loop-argument
invariant-loop-argument l =
    InNames (names_in (map (λ a. expression_of a.value) l.arguments)) (names_in (map (λ a. expression_of a.value) (drop l.argument-index l.arguments))) l.initial.self l.self
