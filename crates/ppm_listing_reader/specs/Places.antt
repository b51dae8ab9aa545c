-- Which lines stand, each where those before it lead, and the code that they declare.
use Rattle.std.specs.Prelude.{ℕ, zero, suc, ◌+◌, ◌==◌, Bool, true, false, if◌then◌else◌, List, [], ◌∷◌, Option, Some, None}
use Rattle.ppm_code.specs.declared.act.End.TheVariants.{Finish}
use Rattle.ppm_code.specs.declared.code.Capsule.{Capsule}
use Rattle.ppm_code.specs.declared.code.Procedure.{Procedure}
use Rattle.ppm_code.specs.declared.code.CodeParts.{CodeParts}
use Rattle.ppm_code.specs.declared.instr.Instr.{Instr}
use Rattle.ppm_code.specs.declared.instr.Instr.TheVariants.{Room, Ends}
use Rattle.ppm_listing_reader.specs.declared.part.Part.{Part}
use Rattle.ppm_listing_reader.specs.declared.part.Part.TheVariants as part
use Rattle.ppm_listing_reader.specs.declared.place.Place.{Place}
use Rattle.ppm_listing_reader.specs.declared.place.Place.TheVariants.{AtVersion, AtRoot, AtProcedure, Within}

-- whether a part may stand at a place
abbrev pub may_stand : Place → Part → Bool
may_stand AtVersion part.Version = true
may_stand AtRoot (part.Root procedure arrays) = true
may_stand (AtProcedure number) (part.Procedure i slots entry) = i == number
may_stand (AtProcedure number) (part.Capsule c procedure) = c == 0
may_stand (Within capsule procedure at room) (part.Capsule c p) = c == capsule + 1
may_stand (Within capsule procedure at room) (part.Instr i) = true
may_stand _ _ = false

-- what stands at a place; a line of no form, or of one that may not stand there, is none
abbrev pub standing : Place → Option Part → Option Part
standing place None = None
standing place (Some p) = if may_stand place p then Some p else None

-- the words that an instruction asks for
abbrev pub asked : Option Instr → Option ℕ
asked (Some (Room words)) = Some words
asked _ = None

-- the words that a capsule asks for, after the instruction at a place of it: what its first one does
abbrev pub room_behind : (at : ℕ) → Option Instr → Option ℕ → Option ℕ
room_behind zero i room = asked i
room_behind (suc at) i room = room

-- the place after what stands; in a capsule a line of no form counts as an instruction
abbrev pub next : Place → Option Part → Place
next AtVersion (Some part.Version) = AtRoot
next AtRoot (Some (part.Root procedure arrays)) = AtProcedure 0
next (AtProcedure number) (Some (part.Procedure i slots entry)) = AtProcedure (number + 1)
next (AtProcedure number) (Some (part.Capsule c procedure)) = Within c procedure 0 None
next (Within capsule procedure at room) (Some (part.Capsule c p)) = Within c p 0 None
next (Within capsule procedure at room) (Some (part.Instr i)) = Within capsule procedure (at + 1) (room_behind at i room)
next (Within capsule procedure at room) None = Within capsule procedure (at + 1) (room_behind at None room)
next place _ = place

-- the lines of which each is what stands there
abbrev pub standing_from : Place → List (Option Part) → List (Option Part)
standing_from place [] = []
standing_from place (l ∷ ls) = standing place l ∷ standing_from (next place (standing place l)) ls

-- the root's procedure
abbrev pub root_in : List (Option Part) → ℕ
root_in [] = 0
root_in (Some (part.Root procedure arrays) ∷ ls) = procedure
root_in (l ∷ ls) = root_in ls

-- its arrays
abbrev pub arrays_in : List (Option Part) → List ℕ
arrays_in [] = []
arrays_in (Some (part.Root procedure arrays) ∷ ls) = arrays
arrays_in (l ∷ ls) = arrays_in ls

-- the procedures
abbrev pub procedures_in : List (Option Part) → List Procedure
procedures_in [] = []
procedures_in (Some (part.Procedure i slots entry) ∷ ls) = record { slots = slots; entry = entry } ∷ procedures_in ls
procedures_in (l ∷ ls) = procedures_in ls

-- a line that says no whole instruction counts as an end
abbrev pub instr_or_end : Option Instr → Instr
instr_or_end None = Ends Finish
instr_or_end (Some i) = i

-- the instructions up to the next capsule
abbrev pub instrs_in : List (Option Part) → List Instr
instrs_in [] = []
instrs_in (Some (part.Capsule c procedure) ∷ ls) = []
instrs_in (Some (part.Instr i) ∷ ls) = instr_or_end i ∷ instrs_in ls
instrs_in (l ∷ ls) = Ends Finish ∷ instrs_in ls

-- the capsules, each with the instructions after it
abbrev pub capsules_in : List (Option Part) → List Capsule
capsules_in [] = []
capsules_in (Some (part.Capsule c procedure) ∷ ls) = record { procedure = procedure; instrs = instrs_in ls } ∷ capsules_in ls
capsules_in (l ∷ ls) = capsules_in ls

-- the code that lines declare
abbrev pub code_in : List (Option Part) → CodeParts
code_in ls = record { root = root_in ls; arrays = arrays_in ls; procedures = procedures_in ls; capsules = capsules_in ls }

-- how many lines a place counts
abbrev pub counted : Place → ℕ
counted (AtProcedure number) = number
counted (Within capsule procedure at room) = at
counted _ = 0
