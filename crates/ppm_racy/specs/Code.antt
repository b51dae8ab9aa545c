-- Codes whose capsules may race, and codes with puts in place of their exchanges.
use Rattle.std.specs.Prelude.{ℕ, List, [], map, Option, Some, None, slice_get}
use Rattle.ppm_code.specs.declared.code.Capsule.{Capsule}
use Rattle.ppm_code.specs.declared.code.CodeParts.{CodeParts}
use Rattle.ppm_code.specs.Code.{IsCode}
use Rattle.ppm_racy.specs.declared.instr.RacyInstr.{RacyInstr}
use Rattle.ppm_racy.specs.declared.instr.RacyInstr.TheVariants.{Plain}
use Rattle.ppm_racy.specs.declared.code.RacyCapsule.{RacyCapsule}
use Rattle.ppm_racy.specs.declared.code.RacyParts.{RacyParts}
use Rattle.ppm_racy.specs.Acts.{plain_of}

-- a capsule and a code, with a put in place of each exchange
abbrev pub plain_capsule : RacyCapsule → Capsule
plain_capsule c = record { procedure = c.procedure; instrs = map plain_of c.instrs }

abbrev pub plain_code : RacyParts → CodeParts
plain_code code =
    record { root = code.root; arrays = code.arrays; procedures = code.procedures; capsules = map plain_capsule code.capsules }

-- the rules of a code are those with puts: what an exchange names is there where a put may name it
abbrev pub IsRacyCode : RacyParts → Type 0
IsRacyCode code = IsCode (plain_code code)

-- the instructions of a capsule; none where there is no capsule
abbrev pub instrs_in : Option RacyCapsule → List RacyInstr
instrs_in None = []
instrs_in (Some c) = c.instrs

abbrev pub instrs_of : RacyParts → ℕ → List RacyInstr
instrs_of code number = instrs_in (slice_get code.capsules number)

-- a code without exchanges, among those with them
abbrev pub racy_capsule : Capsule → RacyCapsule
racy_capsule c = record { procedure = c.procedure; instrs = map Plain c.instrs }

abbrev pub as_racy : CodeParts → RacyParts
as_racy code =
    record { root = code.root; arrays = code.arrays; procedures = code.procedures; capsules = map racy_capsule code.capsules }
