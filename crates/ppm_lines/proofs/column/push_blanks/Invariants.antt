use Rattle.std.proofs.Common.{◌≡◌, ◌++◌, replicate}
use Rattle.ppm_lines.proofs.column.push_blanks.Given as goal

-- so many blanks are written
abbrev pub invariant-loop : goal.invariant-loop
invariant-loop l = l.text.items ≡ l.fn.text.items ++ replicate l.counter 32
