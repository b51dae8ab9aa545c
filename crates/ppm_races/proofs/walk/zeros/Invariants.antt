use Rattle.std.proofs.Common.{◌≡◌, replicate}
use Rattle.ppm_races.proofs.walk.zeros.Given as goal

-- as many as were pushed are there
abbrev pub invariant-loop : goal.invariant-loop
invariant-loop l = l.zeros.items ≡ replicate l.counter 0
