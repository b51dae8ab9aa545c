use Rattle.std.proofs.Common.{◌≡◌, ◌-◌, ◌++◌}
use Rattle.std.specs.List.{flat_map, range_with_len}
use Rattle.ppm_picture.specs.Ruler.{tick_text}
use Rattle.ppm_picture.proofs.ruler.push_ticks_between.Given as goal

-- the ticks that are left come after those that are written
abbrev pub invariant-loop-number : goal.invariant-loop-number
invariant-loop-number l =
    l.fn.text.items ++ flat_map (tick_text l.canvas l.distance) (range_with_len l.first (l.end - l.first))
    ≡ l.text.items ++ flat_map (tick_text l.canvas l.distance) (range_with_len l.number (l.end - l.number))

abbrev pub decreases-loop-number : goal.decreases-loop-number
decreases-loop-number l = l.end - l.number
