-- Arguments for parameters, in pairs.
use Rattle.std.proofs.Common.{◌≡◌, arith, List, [], ◌∷◌, length, min}
use Rattle.ppm_tree.specs.declared.tree.Argument as declared_argument
use Rattle.ppm_tree.specs.declared.tree.Parameter.{Parameter}
use Rattle.ppm_cut_code.specs.Statements.{paired}
use Rattle.ppm_cut.specs.Counts.{arguments_of}

-- there are as many as there are of both
pub paired_is : (ps : List Parameter) (xs : List declared_argument.Argument) → paired ps (arguments_of xs) ≡ min (length ps) (length xs)
paired_is [] xs = omega arith
paired_is (p ∷ ps) [] = omega arith
paired_is (p ∷ ps) (x ∷ xs) = let h = paired_is ps xs in omega (arith, h)
