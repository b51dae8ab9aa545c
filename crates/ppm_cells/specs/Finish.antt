-- The packing of finish words and outcomes: tag in bits 0 to 2, trap in 3 to 5, number in 6 to 31; bits 32 to 63 are 0.
use Rattle.std.specs.Prelude.{ℕ, ◌+◌, ◌-◌, ◌^◌, ◌<◌, ◌≤◌, ◌==◌, nat_le, if◌then◌else◌, List, [], ◌∷◌, Option, Some, None}
use Rattle.std.specs.Option.{option_map}
use Rattle.ppm_words.specs.declared.trap.Trap.{Trap}
use Rattle.ppm_words.specs.declared.trap.Trap.TheVariants.{Overflow, DivZero, Index, Split}
use Rattle.ppm_cells.specs.Fields.{Field, Bits, number_of, bits}
use Rattle.ppm_cells.specs.Exact.{unpacked}
use Rattle.ppm_cells.specs.declared.finish.Finish.{Finish}
use Rattle.ppm_cells.specs.declared.finish.Finish.TheVariants.{Unset, Ended, Trapped, OutOfTurns, OutOfRoom, Stopped, Broken}

-- the traps by number
abbrev pub trap_number : Trap → ℕ
trap_number Overflow = 1
trap_number DivZero = 2
trap_number Index = 3
trap_number Split = 4

-- tag, trap and number, and no other bits
abbrev pub fields_with : (tag trap number : ℕ) → List Field
fields_with tag trap number = Bits 3 tag ∷ Bits 3 trap ∷ Bits 26 number ∷ Bits 32 0 ∷ []

-- a finish word's fields, the lowest first
abbrev pub finish_fields : Finish → List Field
finish_fields Unset = fields_with 0 0 0
finish_fields Ended = fields_with 1 0 0
finish_fields (Trapped trap line) = fields_with 2 (trap_number trap) line
finish_fields (OutOfTurns processor) = fields_with 3 0 processor
finish_fields (OutOfRoom place) = fields_with 4 0 place
finish_fields Stopped = fields_with 6 0 0
finish_fields (Broken place) = fields_with 7 0 (place + 1)

-- the word that it packs to
abbrev pub finish_word : Finish → ℕ
finish_word finish = number_of (finish_fields finish)

-- lines count from 1 and fit their field; processors and places are below 64, and 64 is the place that isn't known
abbrev pub IsFinish : Finish → Type 0
IsFinish Unset = Unit {0}
IsFinish Ended = Unit {0}
IsFinish (Trapped trap line) = (1 ≤ line) × (line < 2 ^ 26)
IsFinish (OutOfTurns processor) = processor < 64
IsFinish (OutOfRoom place) = place < 64
IsFinish Stopped = Unit {0}
IsFinish (Broken place) = place ≤ 64

-- the two ends that a strand may have
abbrev pub IsOutcome : Finish → Type 0
IsOutcome Ended = Unit {0}
IsOutcome (Trapped trap line) = Unit {0}
IsOutcome Unset = ⊥
IsOutcome (OutOfTurns processor) = ⊥
IsOutcome (OutOfRoom place) = ⊥
IsOutcome Stopped = ⊥
IsOutcome (Broken place) = ⊥

-- the trap with a number
abbrev pub trap_with : ℕ → Option Trap
trap_with number =
    if number == 1 then Some Overflow
    else (if number == 2 then Some DivZero
    else (if number == 3 then Some Index
    else (if number == 4 then Some Split
    else None)))

-- by a trap in this line
abbrev pub at_line : ℕ → Trap → Finish
at_line line trap = Trapped trap line

-- what a tag says with a trap and a number
abbrev pub finish_with : (tag trap number : ℕ) → Option Finish
finish_with tag trap number =
    if tag == 0 then Some Unset
    else (if tag == 1 then Some Ended
    else (if tag == 2 then (if number == 0 then None else option_map (at_line number) (trap_with trap))
    else (if tag == 3 then (if nat_le 64 number then None else Some (OutOfTurns number))
    else (if tag == 4 then (if nat_le 64 number then None else Some (OutOfRoom number))
    else (if tag == 6 then Some Stopped
    else (if tag == 7 then (if nat_le 66 number then None else Some (Broken (number - 1)))
    else None))))))

-- a finish word read from its bits
abbrev pub finish_read : ℕ → Option Finish
finish_read word = finish_with (bits 0 3 word) (bits 3 3 word) (bits 6 26 word)

-- what a word stands for
abbrev pub finish_of : ℕ → Option Finish
finish_of word = unpacked finish_word finish_read word
