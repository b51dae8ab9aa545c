use Rattle.std.proofs.Common.{◌≡◌, ◌++◌, drop}
use Rattle.ppm_cut_code.specs.Layout.{parameter_layout}
use Rattle.ppm_cut.proofs.layout.Layout.of_parameters.Given as goal

-- the names so far, and those that follow
abbrev pub invariant-loop-parameter : goal.invariant-loop-parameter
invariant-loop-parameter l = l.layout ++ parameter_layout (drop l.parameter-index l.parameters) ≡ parameter_layout l.parameters
