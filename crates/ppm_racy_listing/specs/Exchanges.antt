-- A code with an exchange in place of each put whose line says an old register.
use Rattle.std.specs.Prelude.{ℕ, ◌+◌, nat_lt, List, [], ◌∷◌, length, get_or, Option, Some, None}
use Rattle.std.proofs.Common.{refl}
use Rattle.ppm_code.specs.declared.code.Capsule.{Capsule}
use Rattle.ppm_code.specs.declared.code.CodeParts.{CodeParts}
use Rattle.ppm_code.specs.declared.instr.Instr.{Instr}
use Rattle.ppm_code.specs.declared.instr.Instr.TheVariants.{Put}
use Rattle.ppm_listing_reader.specs.Forms.{register_with}
use Rattle.ppm_racy.specs.declared.code.RacyCapsule.{RacyCapsule}
use Rattle.ppm_racy.specs.declared.code.RacyParts.{RacyParts}
use Rattle.ppm_racy.specs.declared.instr.RacyInstr.{RacyInstr}
use Rattle.ppm_racy.specs.declared.instr.RacyInstr.TheVariants.{Plain, Cam}

-- a put whose line says an old register is an exchange; the register with a number, or the last one
abbrev pub exchanged : Instr → Option ℕ → RacyInstr
exchanged (Put region index new line) (Some old) = Cam region index (register_with old (nat_lt old 64) refl) new line
exchanged i old = Plain i

module _ (olds : List (Option ℕ)) where
  -- instructions, whose lines have the numbers from one on
  abbrev pub exchanged_instrs : (line : ℕ) → List Instr → List RacyInstr
  exchanged_instrs line [] = []
  exchanged_instrs line (i ∷ is) = exchanged i (get_or olds line None) ∷ exchanged_instrs (line + 1) is

  -- capsules, each after its own line
  abbrev pub exchanged_capsules : (line : ℕ) → List Capsule → List RacyCapsule
  exchanged_capsules line [] = []
  exchanged_capsules line (c ∷ cs) = record { procedure = c.procedure; instrs = exchanged_instrs (line + 1) c.instrs }
      ∷ exchanged_capsules (line + 1 + length c.instrs) cs

  -- a code, after the lines of the version, of the root and of the procedures
  abbrev pub exchanged_code : CodeParts → RacyParts
  exchanged_code code = record {
    root = code.root;
    arrays = code.arrays;
    procedures = code.procedures;
    capsules = exchanged_capsules (2 + length code.procedures) code.capsules;
  }
