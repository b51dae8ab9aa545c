use Rattle.std.proofs.Common.{◌≡◌, [], replicate}
use Rattle.ppm_calls.proofs.recording.recorders.Given as goal

-- so many that were told nothing
abbrev pub invariant-loop : goal.invariant-loop
invariant-loop l = l.watch.items ≡ replicate l.counter []
