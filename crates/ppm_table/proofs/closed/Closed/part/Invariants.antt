use Rattle.std.proofs.Common.{◌≡◌, drop, take}
use Rattle.ppm_table.proofs.closed.Closed.part.Given as goal

-- the words so far
abbrev pub invariant-loop-i : goal.invariant-loop-i
invariant-loop-i l = l.words.items ≡ take l.i (drop l.start l.self.words)
