-- The packing of region words: start in bits 32 to 63, length in 0 to 31.
use Rattle.std.specs.Prelude.{ℕ, List, [], ◌∷◌, Option, Some}
use Rattle.ppm_cells.specs.Fields.{Field, Bits, number_of, Fit, bits}
use Rattle.ppm_cells.specs.Exact.{unpacked}
use Rattle.ppm_cells.specs.declared.region.Region.{Region}

-- a region word's fields, the lowest first: length, start
abbrev pub region_fields : Region → List Field
region_fields region = Bits 32 region.length ∷ Bits 32 region.start ∷ []

-- the word that a region packs to
abbrev pub region_word : Region → ℕ
region_word region = number_of (region_fields region)

-- each of its numbers fits its field
abbrev pub IsRegion : Region → Type 0
IsRegion region = Fit (region_fields region)

-- a region read from its bits
abbrev pub region_read : ℕ → Option Region
region_read word = Some (record { start = bits 32 32 word; length = bits 0 32 word })

-- the region that a word stands for
abbrev pub region_of : ℕ → Option Region
region_of word = unpacked region_word region_read word
