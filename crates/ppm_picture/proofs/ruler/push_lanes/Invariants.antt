use Rattle.std.proofs.Common.{◌≡◌, ◌++◌}
use Rattle.std.specs.List.{flat_map, range_with_len}
use Rattle.ppm_picture.specs.Ruler.{lane_text}
use Rattle.ppm_picture.proofs.ruler.push_lanes.Given as goal

-- the lanes so far are written
abbrev pub invariant-loop-processor : goal.invariant-loop-processor
invariant-loop-processor l = l.text.items ≡ l.fn.text.items ++ flat_map lane_text (range_with_len 0 l.processor)
