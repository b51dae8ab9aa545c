-- Regions come back from their words, and every word is that of one.
use Rattle.std.proofs.Common.{◌≡◌, ℕ, ◌^◌, ◌<◌, [], ◌∷◌, Some, IsSome, refl}
use Rattle.std.proofs.lemmas.Bool.{eq-eqb}
use Rattle.ppm_cells.specs.Fields.{Bits, bits}
use Rattle.ppm_cells.specs.Exact.{unpacked, IsExact}
use Rattle.ppm_cells.specs.Region.{region_word, IsRegion, region_read, region_of}
use Rattle.ppm_cells.specs.declared.region.Region.{Region}
use Rattle.ppm_cells.proofs.FieldsLemmas.{bits-number_of, bits-bound, number_of-both}
use Rattle.ppm_cells.proofs.ExactLemmas.{exact}

fits : (word : ℕ) → IsRegion (record { length = bits 0 32 word; start = bits 32 32 word })
fits word = (bits-bound 0 32 word, (bits-bound 32 32 word, tt))

again : (region : Region) → IsRegion region → region_read (region_word region) ≡ Some region
again region fit =
    let low : bits 0 32 (region_word region) ≡ region.length = bits-number_of [] 32 region.length (Bits 32 region.start ∷ []) tt fit.0 in
    let high : bits 32 32 (region_word region) ≡ region.start = bits-number_of (Bits 32 region.length ∷ []) 32 region.start [] (fit.0, tt) fit.1.0 in
    λ i. Some (record { length = low i; start = high i })

pub regions_exact : IsExact region_word IsRegion region_of
regions_exact word region = exact region_word region_read IsRegion fits again word region

-- every word of 64 bits is that of one
pub every_word : (word : ℕ) → word < 2 ^ 64 → IsSome (region_of word)
unfolding unpacked
every_word word small = rw (eq-eqb _ word (number_of-both 32 32 word small)) refl
