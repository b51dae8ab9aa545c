-- Entries come back from their words.
use Rattle.std.proofs.Common.{◌≡◌, ℕ, eqb, [], ◌∷◌, Some, refl, lit<}
use Rattle.std.proofs.lemmas.Bool.{cond_both}
use Rattle.ppm_cells.specs.Fields.{Bits, bits}
use Rattle.ppm_cells.specs.Exact.{IsExact}
use Rattle.ppm_cells.specs.Entry.{entry_word, IsEntry, entry_with, entry_read, entry_of}
use Rattle.ppm_cells.specs.declared.entry.Entry.{Entry}
use Rattle.ppm_cells.specs.declared.entry.Entry.TheVariants.{Empty, Local, Job, Taken}
use Rattle.ppm_cells.proofs.FieldsLemmas.{bits-number_of, bits-bound}
use Rattle.ppm_cells.proofs.ExactLemmas.{exact}

-- what is read fits its fields
fits : (word : ℕ) → IsEntry (entry_with (bits 62 2 word) (bits 28 34 word) word)
fits word =
    let tag_fits = bits-bound 28 34 word in
    cond_both (eqb (bits 62 2 word) 0) _ _ IsEntry (λ _. (lit< tt, (tag_fits, (lit< tt, tt))))
    (λ _. cond_both (eqb (bits 62 2 word) 1) _ _ IsEntry (λ _. (bits-bound 0 28 word, (tag_fits, (lit< tt, tt))))
    (λ _. cond_both (eqb (bits 62 2 word) 2) _ _ IsEntry (λ _. (bits-bound 0 28 word, (tag_fits, (lit< tt, tt))))
    (λ _. (bits-bound 0 7 word, (lit< tt, (tag_fits, (lit< tt, tt)))))))

-- an entry's own word is read as that entry
again : (entry : Entry) → IsEntry entry → entry_read (entry_word entry) ≡ Some entry
again (Empty tag) fit =
    let w : ℕ = entry_word (Empty tag) in
    let kind : bits 62 2 w ≡ 0 = bits-number_of (Bits 28 0 ∷ Bits 34 tag ∷ []) 2 0 [] (fit.0, (fit.1.0, tt)) (lit< tt) in
    let tagged : bits 28 34 w ≡ tag = bits-number_of (Bits 28 0 ∷ []) 34 tag (Bits 2 0 ∷ []) (fit.0, tt) fit.1.0 in
    rw (kind, tagged) refl
again (Local tag block) fit =
    let w : ℕ = entry_word (Local tag block) in
    let kind : bits 62 2 w ≡ 1 = bits-number_of (Bits 28 block ∷ Bits 34 tag ∷ []) 2 1 [] (fit.0, (fit.1.0, tt)) (lit< tt) in
    let tagged : bits 28 34 w ≡ tag = bits-number_of (Bits 28 block ∷ []) 34 tag (Bits 2 1 ∷ []) (fit.0, tt) fit.1.0 in
    let payload : bits 0 28 w ≡ block = bits-number_of [] 28 block (Bits 34 tag ∷ Bits 2 1 ∷ []) tt fit.0 in
    rw (kind, tagged, payload) refl
again (Job tag block) fit =
    let w : ℕ = entry_word (Job tag block) in
    let kind : bits 62 2 w ≡ 2 = bits-number_of (Bits 28 block ∷ Bits 34 tag ∷ []) 2 2 [] (fit.0, (fit.1.0, tt)) (lit< tt) in
    let tagged : bits 28 34 w ≡ tag = bits-number_of (Bits 28 block ∷ []) 34 tag (Bits 2 2 ∷ []) (fit.0, tt) fit.1.0 in
    let payload : bits 0 28 w ≡ block = bits-number_of [] 28 block (Bits 34 tag ∷ Bits 2 2 ∷ []) tt fit.0 in
    rw (kind, tagged, payload) refl
again (Taken tag taker) fit =
    let w : ℕ = entry_word (Taken tag taker) in
    let kind : bits 62 2 w ≡ 3
    = bits-number_of (Bits 7 taker ∷ Bits 21 0 ∷ Bits 34 tag ∷ []) 2 3 [] (fit.0, (fit.1.0, (fit.1.1.0, tt))) (lit< tt) in
    let tagged : bits 28 34 w ≡ tag = bits-number_of (Bits 7 taker ∷ Bits 21 0 ∷ []) 34 tag (Bits 2 3 ∷ []) (fit.0, (fit.1.0, tt)) fit.1.1.0 in
    let payload : bits 0 7 w ≡ taker = bits-number_of [] 7 taker (Bits 21 0 ∷ Bits 34 tag ∷ Bits 2 3 ∷ []) tt fit.0 in
    rw (kind, tagged, payload) refl

pub entries_exact : IsExact entry_word IsEntry entry_of
entries_exact word entry = exact entry_word entry_read IsEntry fits again word entry
