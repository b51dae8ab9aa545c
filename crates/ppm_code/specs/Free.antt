-- Codes without a write-after-read conflict: that is what the check accepts, and what is sound and compiled has.
use Rattle.std.specs.Prelude.{ℕ}
use Rattle.ppm_code.specs.declared.code.CodeParts.{CodeParts}
use Rattle.ppm_code.specs.Paths.{HasNoConflict}
use Rattle.ppm_code.specs.Strands.{instrs_of}

-- no capsule of the code has one on any path
abbrev pub IsFree : CodeParts → Type 0
IsFree code = (number : ℕ) → HasNoConflict (instrs_of code number)
