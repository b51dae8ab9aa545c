use Rattle.std.proofs.Common.{◌≡◌, ◌++◌, length}
use Rattle.ppm_strands_command.specs.Lines.{more_items_text}
use Rattle.ppm_strands_command.proofs.lines.push_more_items.Given as goal

-- the items so far, and those that are left
abbrev pub invariant-loop-left : goal.invariant-loop-left
invariant-loop-left l = l.text.items ++ more_items_text l.left ≡ l.initial.text.items ++ more_items_text l.items

abbrev pub decreases-loop-left : goal.decreases-loop-left
decreases-loop-left l = length l.left
