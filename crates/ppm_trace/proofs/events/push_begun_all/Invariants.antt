use Rattle.std.proofs.Common.{◌≡◌, ◌++◌}
use Rattle.std.specs.List.{flat_map, range_with_len}
use Rattle.ppm_core.specs.Machine.{seen}
use Rattle.ppm_trace.specs.Json.{begun_of}
use Rattle.ppm_trace.proofs.events.push_begun_all.Given as goal

-- the rows so far have begun
abbrev pub invariant-loop-processor : goal.invariant-loop-processor
invariant-loop-processor l =
    l.text.items ≡ l.fn.text.items ++ flat_map (begun_of l.names (seen l.machine)) (range_with_len 0 l.processor)
