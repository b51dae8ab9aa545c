-- How many words a new block takes.
use Rattle.std.specs.Prelude.{ℕ, ◌+◌, Option, Some, None, slice_get}
use Rattle.ppm_code.specs.declared.code.Capsule.{Capsule}
use Rattle.ppm_code.specs.declared.code.Procedure.{Procedure}
use Rattle.ppm_code.specs.declared.code.CodeParts.{CodeParts}

-- the slots of a procedure; none where there is no procedure
abbrev pub slots_in : Option Procedure → ℕ
slots_in None = 0
slots_in (Some p) = p.slots

-- the slots of the procedure with a number
abbrev pub slots_of : CodeParts → ℕ → ℕ
slots_of code procedure = slots_in (slice_get code.procedures procedure)

-- a frame: link, outcome, two headers, value, target, and then its slots
abbrev pub frame_size : CodeParts → ℕ → ℕ
frame_size code procedure = 6 + slots_of code procedure

-- the procedure of a capsule, by its number; 0 where there is no capsule
abbrev pub procedure_in : Option Capsule → ℕ
procedure_in None = 0
procedure_in (Some c) = c.procedure

abbrev pub procedure_at : CodeParts → (number : ℕ) → ℕ
procedure_at code number = procedure_in (slice_get code.capsules number)

-- the slots of the frame in which a capsule is run, and the words of that frame
abbrev pub slots_at : CodeParts → (number : ℕ) → ℕ
slots_at code number = slots_of code (procedure_at code number)

abbrev pub size_at : CodeParts → (number : ℕ) → ℕ
size_at code number = frame_size code (procedure_at code number)

-- a fork block: link, order, two outcomes, the offset of the right frame, and then the frames of both branches
abbrev pub fork_size : CodeParts → (left right : ℕ) → ℕ
fork_size code left right = 5 + frame_size code left + frame_size code right

-- where in a frame its value and its slots lie
abbrev pub value_at : ℕ
value_at = 4

abbrev pub slot_at : ℕ → ℕ
slot_at slot = 6 + slot

-- where in a fork block the frames of its branches lie
abbrev pub left_at : ℕ
left_at = 5

abbrev pub right_at : CodeParts → (left : ℕ) → ℕ
right_at code left = 5 + frame_size code left
