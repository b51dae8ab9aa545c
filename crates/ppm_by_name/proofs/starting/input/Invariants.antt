use Rattle.std.proofs.Common.{◌≡◌, length}
use Rattle.ppm_tree.specs.Program.{input_of}
use Rattle.ppm_by_name.proofs.starting.input.Given as goal

-- the values are those that the inputs left give
abbrev pub invariant-loop-left : goal.invariant-loop-left
invariant-loop-left l = input_of l.left l.name ≡ input_of l.inputs l.name

abbrev pub decreases-loop-left : goal.decreases-loop-left
decreases-loop-left l = length l.left
