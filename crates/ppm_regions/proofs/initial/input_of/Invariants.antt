use Rattle.std.proofs.Common.{◌≡◌, drop}
use Rattle.ppm_tree.specs.Program.{input_of}
use Rattle.ppm_regions.proofs.initial.input_of.Given as goal

-- what is not looked at yet has the input, if there is one
abbrev pub invariant-loop-input : goal.invariant-loop-input
invariant-loop-input l = input_of (drop l.input-index l.inputs) l.name ≡ input_of l.inputs l.name
