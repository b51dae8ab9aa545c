use Rattle.std.proofs.Common.{◌≡◌, ◌++◌, drop, map}
use Rattle.ppm_tree.specs.Program.{whole_from}
use Rattle.ppm_cut.proofs.cutting.arrays_of.Given as goal

-- the numbers so far, and those of the parameters that follow
abbrev pub invariant-loop-parameter : goal.invariant-loop-parameter
invariant-loop-parameter l =
    l.numbers.items ++ map (λ p. (whole_from 0 l.arrays p.name.name).array) (drop l.parameter-index l.parameters)
    ≡ map (λ p. (whole_from 0 l.arrays p.name.name).array) l.parameters
