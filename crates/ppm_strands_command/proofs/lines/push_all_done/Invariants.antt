use Rattle.std.proofs.Common.{◌≡◌, ◌++◌, length}
use Rattle.ppm_strands_command.specs.Lines.{done_lines}
use Rattle.ppm_strands_command.proofs.lines.push_all_done.Given as goal

-- the lines so far, and those that are left
abbrev pub invariant-loop-left : goal.invariant-loop-left
invariant-loop-left l = l.text.items ++ done_lines l.arrays l.left ≡ l.initial.text.items ++ done_lines l.arrays l.done

abbrev pub decreases-loop-left : goal.decreases-loop-left
decreases-loop-left l = length l.left
