use Rattle.std.proofs.Common.{length, ◌-◌, ◌↔◌, ◌<◌, ℕ}
use Rattle.ppm_code.specs.Limits.{instr_limit}
use Rattle.ppm_filled.specs.Filled.{Mark}
use Rattle.ppm_gaps.specs.Hanging.{HasAt, IsInRange}
use Rattle.ppm_gaps.proofs.HangingLemmas.{CameBy}
use Rattle.ppm_gaps.proofs.hanging.rows_of.Given as goal

-- a row says what comes of a find by an instruction that was passed
abbrev pub invariant-loop-at : goal.invariant-loop-at
invariant-loop-at l = (to : ℕ) (m : Mark) → to < instr_limit → IsInRange m → HasAt l.rows to m ↔ CameBy l.instrs l.at to m

abbrev pub decreases-loop-at : goal.decreases-loop-at
decreases-loop-at l = length l.instrs - l.at
