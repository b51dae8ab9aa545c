use Rattle.std.proofs.Common.{◌≡◌, ◌+◌, drop}
use Rattle.ppm_loading.specs.Telling.{capsule_lines}
use Rattle.ppm_loading.proofs.telling.lines_of.Given as goal

-- the lines so far, and those of the capsules that are left
abbrev pub invariant-loop-capsule : goal.invariant-loop-capsule
invariant-loop-capsule l = l.lines + capsule_lines (drop l.capsule-index l.capsules) ≡ capsule_lines l.capsules
