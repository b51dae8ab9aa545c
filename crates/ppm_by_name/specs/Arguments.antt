-- The arguments of a declared call, as those of a tree.
use Rattle.std.specs.Prelude.{List, map}
use Rattle.ppm_tree.specs.Tree.{Argument, expression_of}
use Rattle.ppm_tree.specs.declared.tree.Argument as declared

abbrev pub arguments_of : List declared.Argument → List Argument
arguments_of es = map (λ a. record { line = a.line; value = expression_of a.value }) es
