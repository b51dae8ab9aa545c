use Rattle.ppm_table.specs.Shown.{IsOf}
use Rattle.ppm_test_threads.proofs.turns.stored.Given as goal

abbrev pub invariant-loop : goal.invariant-loop
invariant-loop l = IsOf l.shared l.processor
