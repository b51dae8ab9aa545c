use Rattle.ppm_step.specs.Locals.{IsLocal}
use Rattle.ppm_test_threads.proofs.obeying.pace_behind.Given as goal

abbrev pub invariant-loop-event : goal.invariant-loop-event
invariant-loop-event l = IsLocal l.shape l.code l.local
