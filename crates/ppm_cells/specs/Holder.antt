-- The packing of holder words: tag in bits 6 to 63, processor in 0 to 5.
use Rattle.std.specs.Prelude.{ℕ, List, [], ◌∷◌, Option, Some}
use Rattle.ppm_cells.specs.Fields.{Field, Bits, number_of, Fit, bits}
use Rattle.ppm_cells.specs.Exact.{unpacked}
use Rattle.ppm_cells.specs.declared.holder.Holder.{Holder}

-- a holder word's fields: processor, tag
abbrev pub holder_fields : Holder → List Field
holder_fields holder = Bits 6 holder.processor ∷ Bits 58 holder.tag ∷ []

-- the word that a holder packs to
abbrev pub holder_word : Holder → ℕ
holder_word holder = number_of (holder_fields holder)

-- each of its numbers fits its field
abbrev pub IsHolder : Holder → Type 0
IsHolder holder = Fit (holder_fields holder)

-- a holder read from its bits
abbrev pub holder_read : ℕ → Option Holder
holder_read word = Some (record { tag = bits 6 58 word; processor = bits 0 6 word })

-- the holder that a word stands for
abbrev pub holder_of : ℕ → Option Holder
holder_of word = unpacked holder_word holder_read word
