-- Holders come back from their words, and every word is that of one.
use Rattle.std.proofs.Common.{◌≡◌, ℕ, ◌^◌, ◌<◌, [], ◌∷◌, Some, IsSome, refl}
use Rattle.std.proofs.lemmas.Bool.{eq-eqb}
use Rattle.ppm_cells.specs.Fields.{Bits, bits}
use Rattle.ppm_cells.specs.Exact.{unpacked, IsExact}
use Rattle.ppm_cells.specs.Holder.{holder_word, IsHolder, holder_read, holder_of}
use Rattle.ppm_cells.specs.declared.holder.Holder.{Holder}
use Rattle.ppm_cells.proofs.FieldsLemmas.{bits-number_of, bits-bound, number_of-both}
use Rattle.ppm_cells.proofs.ExactLemmas.{exact}

fits : (word : ℕ) → IsHolder (record { processor = bits 0 6 word; tag = bits 6 58 word })
fits word = (bits-bound 0 6 word, (bits-bound 6 58 word, tt))

again : (holder : Holder) → IsHolder holder → holder_read (holder_word holder) ≡ Some holder
again holder fit =
    let low : bits 0 6 (holder_word holder) ≡ holder.processor = bits-number_of [] 6 holder.processor (Bits 58 holder.tag ∷ []) tt fit.0 in
    let high : bits 6 58 (holder_word holder) ≡ holder.tag = bits-number_of (Bits 6 holder.processor ∷ []) 58 holder.tag [] (fit.0, tt) fit.1.0 in
    λ i. Some (record { processor = low i; tag = high i })

pub holders_exact : IsExact holder_word IsHolder holder_of
holders_exact word holder = exact holder_word holder_read IsHolder fits again word holder

-- every word of 64 bits is that of one
pub every_word : (word : ℕ) → word < 2 ^ 64 → IsSome (holder_of word)
unfolding unpacked
every_word word small = rw (eq-eqb _ word (number_of-both 6 58 word small)) refl
