-- How capsules grow by instructions.
use Rattle.std.specs.Prelude.{◌≡◌, List, ◌++◌}
use Rattle.ppm_code.specs.declared.instr.Instr.{Instr}

-- instructions are appended: those that are put in front of any others
pub record Grows (code : List Instr → List Instr) (old new : List Instr) : Type 0 where
  pub whole : (rest : List Instr) → old ++ code rest ≡ new ++ rest
