-- The run stands where it has stood from the start, within as many steps less.
use Rattle.std.proofs.Common.{◌≡◌, ◌-◌, map}
use Rattle.ppm_tree.specs.Tree.{procedure_of}
use Rattle.ppm_standing.specs.Shown.{run_of}
use Rattle.ppm_standing.specs.Standing.{stands}
use Rattle.ppm_standing.proofs.standing.follow.Given as goal

abbrev pub invariant-steps : goal.invariant-steps
invariant-steps l =
    stands (l.steps - l.at) (map procedure_of l.procedures) (run_of l.run) ≡ stands l.steps (map procedure_of l.procedures) (run_of l.fn.run)
