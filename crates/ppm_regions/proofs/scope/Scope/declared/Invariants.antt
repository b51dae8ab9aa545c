use Rattle.std.proofs.Common.{◌≡◌, drop}
use Rattle.ppm_regions.specs.Kept.{behind_all}
use Rattle.ppm_regions.proofs.scope.Scope.declared.Given as goal

-- as it is seen in the blocks so far, it is seen in all of them
abbrev pub invariant-loop-veil : goal.invariant-loop-veil
invariant-loop-veil l = behind_all l.at (drop l.veil-index l.veil-items) l.found ≡ behind_all l.at l.veil-items l.initial.found
