use Rattle.std.proofs.Common.{◌≡◌, ◌++◌, ◌-◌}
use Rattle.std.specs.List.{flat_map, range_with_len}
use Rattle.ppm_show.specs.Lines.{inner_text}
use Rattle.ppm_show.proofs.block.push_inners.Given as goal

-- the words so far are written
abbrev pub invariant-loop-offset : goal.invariant-loop-offset
invariant-loop-offset l =
    l.text.items ≡ l.fn.text.items ++ flat_map (inner_text l.scene l.at l.is_fork) (range_with_len 1 (l.offset - 1))
