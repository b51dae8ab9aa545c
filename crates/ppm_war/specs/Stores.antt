-- Stores into a new block.
use Rattle.std.specs.Prelude.{◌≡◌, ℕ, ◌+◌, ◌<◌, ◌≤◌, List, Option, Some, None, slice_get}
use Rattle.std.specs.List.{Contains}
use Rattle.ppm_code.specs.declared.act.End.{End}
use Rattle.ppm_code.specs.declared.code.CodeParts.{CodeParts}
use Rattle.ppm_code.specs.declared.instr.Instr.{Instr}
use Rattle.ppm_code.specs.declared.instr.Instr.TheVariants.{Ends, StoreNew}
use Rattle.ppm_code.specs.declared.register.Register.{Register}
use Rattle.ppm_code.specs.Strands.{instrs_of}
use Rattle.ppm_code.specs.Sizes.{slot_at}
use Rattle.ppm_code.specs.Tidy.{IsBuilder, IsTidyStore, IsTidyCapsule}

-- the word is a slot of the frame with so many slots that lies at `frame` of its block
abbrev pub IsWithinFrame : (frame slots word : ℕ) → Type 0
IsWithinFrame frame slots word = (frame + slot_at 0 ≤ word) × (word < frame + slot_at slots)

-- the end that an instruction is
abbrev pub end_in : Instr → Option End
end_in (Ends e) = Some e
end_in _ = None

-- some end of the capsule builds the word
abbrev pub HasBuilder : CodeParts → List Instr → ℕ → Type 0
HasBuilder code is word = (i : Instr) × Contains is i × IsBuilder code i word

-- the word of the new block that an instruction stores
abbrev pub stored_in : Instr → Option ℕ
stored_in (StoreNew word from) = Some word
stored_in _ = None

-- the instruction at a place, if it stores into the new block, is a tidy store
abbrev pub IsTidyAt : CodeParts → List Instr → ℕ → Type 0
IsTidyAt code is at = (word : ℕ) (from : Register) → slice_get is at ≡ Some (StoreNew word from) → IsTidyStore code is at word

-- the capsule with a number is tidy
abbrev pub IsTidyIn : CodeParts → ℕ → Type 0
IsTidyIn code number = IsTidyCapsule code (instrs_of code number)
