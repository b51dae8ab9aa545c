use Rattle.std.proofs.Common.{length, ◌-◌, ◌≡◌, ◌≤◌, map, take}
use Rattle.ppm_code.specs.Paths.{may}
use Rattle.ppm_war.proofs.paths.decoded.Given as goal

-- the instructions so far are decoded
abbrev pub invariant-loop-at : goal.invariant-loop-at
invariant-loop-at l = record {
  within : l.at ≤ length l.instrs;
  full : length l.mays ≡ 160;
  so_far : take l.at l.mays ≡ map may (take l.at l.instrs);
}

abbrev pub decreases-loop-at : goal.decreases-loop-at
decreases-loop-at l = length l.instrs - l.at
