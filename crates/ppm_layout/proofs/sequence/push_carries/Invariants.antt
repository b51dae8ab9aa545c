use Rattle.std.proofs.Common.{◌≡◌, ◌++◌}
use Rattle.std.specs.List.{range_with_len}
use Rattle.ppm_layout.proofs.sequence.push_carries.Given as goal

-- those of the processors so far
abbrev pub invariant-loop-processor : goal.invariant-loop-processor
invariant-loop-processor l = l.words.items ≡ l.fn.words.items ++ range_with_len 0 l.processor
