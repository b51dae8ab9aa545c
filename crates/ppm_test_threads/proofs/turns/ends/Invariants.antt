use Rattle.std.proofs.Common.{◌≡◌}
use Rattle.ppm_table.specs.Shown.{IsOf}
use Rattle.ppm_test_threads.proofs.turns.ends.Given as goal

abbrev pub invariant-loop-turn : goal.invariant-loop-turn
invariant-loop-turn l = IsOf l.shared l.processor × (l.processor.local.own ≡ l.fn.processor.local.own)
