use Rattle.std.proofs.Common.{◌≡◌, ◌++◌}
use Rattle.std.specs.List.{flat_map, range_with_len}
use Rattle.ppm_lines.specs.Events.{thread_text}
use Rattle.ppm_lines.proofs.json.push_threads.Given as goal

-- the threads so far are named
abbrev pub invariant-loop-processor : goal.invariant-loop-processor
invariant-loop-processor l = l.text.items ≡ l.fn.text.items ++ flat_map thread_text (range_with_len 0 l.processor)
