-- A capsule that may race, and whose paths are filled.
use Rattle.std.specs.Prelude.{ℕ, List, [], ◌∷◌}
use Rattle.ppm_code.specs.declared.act.End.TheVariants.{Finish}
use Rattle.ppm_code.specs.declared.instr.Instr.{Instr}
use Rattle.ppm_code.specs.declared.instr.Instr.TheVariants.{Get, StoreCur, Ends}
use Rattle.ppm_code.specs.declared.register.Register.{Register}
use Rattle.ppm_code.specs.Paths.{HasNoConflict}
use Rattle.ppm_filled.specs.Filled.{IsFilledOnPaths}

-- it reads an array word that others may change meanwhile, and keeps it in a slot
abbrev pub read_and_keep : (region index to : Register) → (slot line : ℕ) → List Instr
read_and_keep region index to slot line = Get to region index line ∷ StoreCur slot to ∷ Ends Finish ∷ []

-- it has no conflict and is filled
pub record RacyReadIsFilled : Type 0 where
  pub free : (region index to : Register) (slot line : ℕ) → HasNoConflict (read_and_keep region index to slot line)
  pub filled : (region index to : Register) (slot line : ℕ) → IsFilledOnPaths (read_and_keep region index to slot line)
