use Rattle.std.proofs.Common.{◌≡◌, length, replicate, take}
use Rattle.ppm_widths.proofs.zeros.set_to_0.Given as goal

-- those so far hold 0
abbrev pub invariant-loop-index : goal.invariant-loop-index
invariant-loop-index l = (take l.index l.registers ≡ replicate l.index 0) × (length l.registers ≡ 64)
