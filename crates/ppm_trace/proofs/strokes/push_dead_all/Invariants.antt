use Rattle.std.proofs.Common.{◌≡◌, ◌++◌}
use Rattle.std.specs.List.{flat_map, range_with_len}
use Rattle.ppm_core.specs.Machine.{seen}
use Rattle.ppm_trace.specs.Picture.{dead_lane}
use Rattle.ppm_trace.proofs.strokes.push_dead_all.Given as goal

-- the lanes so far are dotted
abbrev pub invariant-loop-processor : goal.invariant-loop-processor
invariant-loop-processor l = l.text.items ≡ l.fn.text.items ++ flat_map (dead_lane (seen l.machine)) (range_with_len 0 l.processor)
