-- Marked places, and which instructions a path may pass.
use Rattle.std.specs.Prelude.{◌≡◌, ℕ, Bool, true, false, List, get_or, map, Option, Some, None}
use Rattle.ppm_code.specs.declared.class.Class.{Class}
use Rattle.ppm_code.specs.declared.class.May.{May}
use Rattle.ppm_code.specs.declared.instr.Instr.{Instr}
use Rattle.ppm_code.specs.Paths.{Exposes, GoesTo, may}

-- the place is marked
abbrev pub IsMarked : List Bool → ℕ → Type 0
IsMarked marks place = get_or marks place false ≡ true

-- any instruction may be passed, or those that leave the class exposed
abbrev pub Allows : Option Class → May → Type 0
Allows None m = Unit {0}
Allows (Some c) m = Exposes c m

-- the place `at` is marked, what its instruction may do is allowed, and a path goes on at `to` from there
abbrev pub GoesOnTo : List Bool → Option Class → May → (at to : ℕ) → Type 0
GoesOnTo marks class m at to = IsMarked marks at × Allows class m × GoesTo m at to

-- these are what the instructions may do, one by one
abbrev pub IsDecoded : List Instr → List May → Type 0
IsDecoded is mays = mays ≡ map may is
