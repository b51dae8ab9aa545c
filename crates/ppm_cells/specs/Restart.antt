-- The packing of restart words: kind in bits 59 to 63, bottom in 32 to 58, address in 0 to 31.
use Rattle.std.specs.Prelude.{ℕ, ◌^◌, ◌<◌, ◌==◌, if◌then◌else◌, List, [], ◌∷◌, Option, Some, None}
use Rattle.std.specs.Option.{option_map}
use Rattle.ppm_cells.specs.Fields.{Field, Bits, number_of, Fit, bits}
use Rattle.ppm_cells.specs.Exact.{unpacked}
use Rattle.ppm_cells.specs.Sides.{side_number, side_with}
use Rattle.ppm_cells.specs.declared.restart.Restart.{Restart}
use Rattle.ppm_cells.specs.declared.restart.RestartKind.{RestartKind}
use Rattle.ppm_cells.specs.declared.restart.RestartKind.TheVariants.{Run, Bump, Push1, Push2, Unwind, Arrive, Join, Pop1, Pop2, Seek, Steal, Check, Take, Take2}

-- the kinds by number
abbrev pub kind_number : RestartKind → ℕ
kind_number (Run frame copy) = 1
kind_number (Bump block) = 2
kind_number (Push1 block) = 3
kind_number (Push2 block) = 4
kind_number (Unwind frame) = 5
kind_number (Arrive block side) = 6
kind_number (Join block side) = 7
kind_number Pop1 = 8
kind_number (Pop2 block) = 9
kind_number Seek = 10
kind_number (Steal victim slot) = 11
kind_number (Check victim slot) = 12
kind_number (Take victim dead) = 13
kind_number (Take2 victim) = 14

-- the fields of the address, the lowest first; its other bits are 0
abbrev pub address_fields : RestartKind → List Field
address_fields (Run frame copy) = Bits 28 frame ∷ Bits 1 copy ∷ Bits 3 0 ∷ []
address_fields (Bump block) = Bits 28 block ∷ Bits 4 0 ∷ []
address_fields (Push1 block) = Bits 28 block ∷ Bits 4 0 ∷ []
address_fields (Push2 block) = Bits 28 block ∷ Bits 4 0 ∷ []
address_fields (Unwind frame) = Bits 28 frame ∷ Bits 4 0 ∷ []
address_fields (Arrive block side) = Bits 28 block ∷ Bits 1 (side_number side) ∷ Bits 3 0 ∷ []
address_fields (Join block side) = Bits 28 block ∷ Bits 1 (side_number side) ∷ Bits 3 0 ∷ []
address_fields Pop1 = Bits 32 0 ∷ []
address_fields (Pop2 block) = Bits 28 block ∷ Bits 4 0 ∷ []
address_fields Seek = Bits 32 0 ∷ []
address_fields (Steal victim slot) = Bits 16 slot ∷ Bits 6 victim ∷ Bits 10 0 ∷ []
address_fields (Check victim slot) = Bits 16 slot ∷ Bits 6 victim ∷ Bits 10 0 ∷ []
address_fields (Take victim dead) = Bits 6 dead ∷ Bits 6 victim ∷ Bits 20 0 ∷ []
address_fields (Take2 victim) = Bits 6 victim ∷ Bits 26 0 ∷ []

-- a restart word's fields, the lowest first: address, bottom, kind
abbrev pub restart_fields : Restart → List Field
restart_fields restart =
    Bits 32 (number_of (address_fields restart.kind)) ∷ Bits 27 restart.bottom ∷ Bits 5 (kind_number restart.kind) ∷ []

-- the word that a restart packs to
abbrev pub restart_word : Restart → ℕ
restart_word restart = number_of (restart_fields restart)

-- each of its numbers fits its field
abbrev pub IsRestart : Restart → Type 0
IsRestart restart = Fit (address_fields restart.kind) × (restart.bottom < 2 ^ 27)

-- the kind with a number, read from an address
abbrev pub kind_with : (number address : ℕ) → Option RestartKind
kind_with number address =
    if number == 1 then Some (Run (bits 0 28 address) (bits 28 1 address))
    else (if number == 2 then Some (Bump (bits 0 28 address))
    else (if number == 3 then Some (Push1 (bits 0 28 address))
    else (if number == 4 then Some (Push2 (bits 0 28 address))
    else (if number == 5 then Some (Unwind (bits 0 28 address))
    else (if number == 6 then Some (Arrive (bits 0 28 address) (side_with (bits 28 1 address)))
    else (if number == 7 then Some (Join (bits 0 28 address) (side_with (bits 28 1 address)))
    else (if number == 8 then Some Pop1
    else (if number == 9 then Some (Pop2 (bits 0 28 address))
    else (if number == 10 then Some Seek
    else (if number == 11 then Some (Steal (bits 16 6 address) (bits 0 16 address))
    else (if number == 12 then Some (Check (bits 16 6 address) (bits 0 16 address))
    else (if number == 13 then Some (Take (bits 6 6 address) (bits 0 6 address))
    else (if number == 14 then Some (Take2 (bits 0 6 address))
    else None)))))))))))))

-- with this bottom
abbrev pub with_bottom : ℕ → RestartKind → Restart
with_bottom bottom kind = record { kind = kind; bottom = bottom }

-- a restart read from its bits
abbrev pub restart_read : ℕ → Option Restart
restart_read word = option_map (with_bottom (bits 32 27 word)) (kind_with (bits 59 5 word) (bits 0 32 word))

-- the restart that a word stands for
abbrev pub restart_of : ℕ → Option Restart
restart_of word = unpacked restart_word restart_read word
