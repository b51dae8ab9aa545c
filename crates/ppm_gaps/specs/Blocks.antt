-- Ends that build another block, by their places.
use Rattle.std.specs.Prelude.{◌≡◌, ◌≤◌, ℕ, List}
use Rattle.ppm_code.specs.declared.instr.Instr.{Instr}
use Rattle.ppm_filled.specs.Filled.{BuildsAnother}
use Rattle.ppm_gaps.specs.declared.blocks.OtherBlock.{OtherBlock}

-- some path stops at an end that builds something else than this one
abbrev pub HasOther : List Instr → (other : ℕ) → Type 0
HasOther is other = (stop : ℕ) × BuildsAnother is stop other

-- the least such stop
pub record IsFirstStopBeside (is : List Instr) (other : ℕ) (g : OtherBlock) : Type 0 where
  pub other_is : g.other ≡ other
  pub gap : BuildsAnother is g.stop g.other
  pub least_stop : (stop : ℕ) → BuildsAnother is stop g.other → g.stop ≤ stop
