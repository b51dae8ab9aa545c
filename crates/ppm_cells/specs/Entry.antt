-- The packing of a deque's entries: kind in bits 62 and 63, tag in 28 to 61, payload in 0 to 27.
use Rattle.std.specs.Prelude.{ℕ, ◌==◌, if◌then◌else◌, List, [], ◌∷◌, Option, Some}
use Rattle.ppm_cells.specs.Fields.{Field, Bits, number_of, Fit, bits}
use Rattle.ppm_cells.specs.Exact.{unpacked}
use Rattle.ppm_cells.specs.declared.entry.Entry.{Entry}
use Rattle.ppm_cells.specs.declared.entry.Entry.TheVariants.{Empty, Local, Job, Taken}

-- an entry's fields: payload, tag, kind
abbrev pub entry_fields : Entry → List Field
entry_fields (Empty tag) = Bits 28 0 ∷ Bits 34 tag ∷ Bits 2 0 ∷ []
entry_fields (Local tag block) = Bits 28 block ∷ Bits 34 tag ∷ Bits 2 1 ∷ []
entry_fields (Job tag block) = Bits 28 block ∷ Bits 34 tag ∷ Bits 2 2 ∷ []
entry_fields (Taken tag taker) = Bits 7 taker ∷ Bits 21 0 ∷ Bits 34 tag ∷ Bits 2 3 ∷ []

-- the word that an entry packs to
abbrev pub entry_word : Entry → ℕ
entry_word entry = number_of (entry_fields entry)

-- each of its numbers fits its field
abbrev pub IsEntry : Entry → Type 0
IsEntry entry = Fit (entry_fields entry)

-- the entry with this kind and tag and the payload of a word
abbrev pub entry_with : (kind tag word : ℕ) → Entry
entry_with kind tag word =
    if kind == 0 then Empty tag
    else (if kind == 1 then Local tag (bits 0 28 word)
    else (if kind == 2 then Job tag (bits 0 28 word)
    else Taken tag (bits 0 7 word)))

-- an entry read from its bits
abbrev pub entry_read : ℕ → Option Entry
entry_read word = Some (entry_with (bits 62 2 word) (bits 28 34 word) word)

-- the entry that a word stands for
abbrev pub entry_of : ℕ → Option Entry
entry_of word = unpacked entry_word entry_read word
