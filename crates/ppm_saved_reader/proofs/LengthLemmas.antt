-- The text of a state is never too long: a listing is not, and each word takes at most 21 bytes.
use Rattle.std.proofs.Common.{◌≡◌, ℕ, ◌+◌, ◌*◌, ◌<◌, ◌≤◌, ◌==◌, Bool, true, false, cond, List, [], ◌∷◌, ◌++◌, length, codes, decimal, refl, sym, ap, ◌∙◌, arith, length-append}
use Rattle.std.specs.List.{flat_map, AllByRecursion}
use Rattle.std.proofs.lemmas.Bool.{eqb-false}
use Rattle.std.proofs.lemmas.Fmt.{length-decimal-le}
use Rattle.std.proofs.lemmas.List.Elements.{recursion_from_All}
use Rattle.ppm_words.specs.Names.{IsName}
use Rattle.ppm_cells.specs.declared.shape.Shape.{Shape}
use Rattle.ppm_code.specs.declared.code.CodeParts.{CodeParts}
use Rattle.ppm_listing.specs.Listing.{listing_of}
use Rattle.ppm_listing_reader.proofs.NoFaultLemmas.{listing_short}
use Rattle.ppm_saved.specs.Correct.{IsWord, LengthFits, RunFits}
use Rattle.ppm_saved.specs.Names.{IsArrayName}
use Rattle.ppm_saved.specs.Runs.{runs_of, AreLongest}
use Rattle.ppm_saved.specs.Text.{spaced, numbers_text, version_line, shape_line, array_line, code_line, words_line, times_text, run_line, head_text, code_text, words_text}
use Rattle.ppm_saved.specs.declared.names.NamedLength.{NamedLength}
use Rattle.ppm_saved.specs.declared.run.Run.{Run}
use Rattle.ppm_saved.proofs.RunLemmas.{runs_are_longest}
use Rattle.ppm_saved_reader.specs.Rules.{saved_limit}
use Rattle.ppm_saved_reader.specs.Correct.{sizes_of, IsSavedText}
use Rattle.ppm_saved_reader.proofs.CountLemmas.{times_sum, length-words_of}
use Rattle.ppm_saved_reader.proofs.SpelledLemmas.{sizes_are, place_words}

-- a number of 64 bits has at most 20 digits
number_short : (n : ℕ) → IsWord n → length (decimal n) ≤ 20
number_short n h = length-decimal-le 20 n (omega arith) (omega (arith, h)) h

-- numbers after a word
numbers_short : (ns : List ℕ) → AllByRecursion IsWord ns → length (flat_map spaced ns) ≤ 21 * length ns
numbers_short [] h = omega arith
numbers_short (n ∷ ns) h =
    omega (arith, number_short n h.0, numbers_short ns h.1, length-append (spaced n) (flat_map spaced ns))

line_short : (word ns : List ℕ) → AllByRecursion IsWord ns → length (word ++ numbers_text ns) ≤ length word + 21 * length ns + 1
line_short word ns h =
    omega (arith, numbers_short ns h, length-append word (numbers_text ns), length-append (flat_map spaced ns) (10 ∷ []))

-- the lines of arrays
name_short : (name : List ℕ) → IsName name → length name ≤ 32
name_short [] h = omega arith
name_short (b ∷ bs) h = omega (arith, h.2)

arrays_short : (arrays : List NamedLength) → AllByRecursion (λ (a : NamedLength). IsArrayName a.name) arrays → AllByRecursion LengthFits arrays
    → length (flat_map array_line arrays) ≤ 60 * length arrays
arrays_short [] h fits = omega arith
arrays_short (a ∷ arrays) h fits =
    omega (
      arith,
      arrays_short arrays h.1 fits.1,
      name_short a.name h.0.form,
      line_short a.name (a.len ∷ []) (fits.0, tt),
      length-append (codes "array ") (a.name ++ numbers_text (a.len ∷ [])),
      length-append (array_line a) (flat_map array_line arrays),
    )

-- the line of a run has at most 21 bytes for each of its words
run_short : (r : Run) → RunFits r → 1 ≤ r.times → length (run_line r) ≤ 21 * r.times
run_short r fits least = by (r.times == 1) refl
  where
    whole : length (run_line r) ≡ length (decimal r.word) + length (times_text r.times) + 1
    whole = omega (arith, length-append (decimal r.word ++ times_text r.times) (10 ∷ []), length-append (decimal r.word) (times_text r.times))

    by : (one : Bool) → (r.times == 1) ≡ one → length (run_line r) ≤ 21 * r.times
    by true e =
        let none = ap (λ (b : Bool). length (cond b [] (42 ∷ decimal r.times))) e in
        omega (arith, whole, none, number_short r.word fits.0, least)
    by false e =
        let some = ap (λ (b : Bool). length (cond b [] (42 ∷ decimal r.times))) e in
        omega (arith, whole, some, number_short r.word fits.0, number_short r.times fits.1, least, eqb-false r.times 1 e)

runs_short : (rs : List Run) → AreLongest rs → AllByRecursion RunFits rs → length (flat_map run_line rs) ≤ 21 * times_sum rs
runs_short [] h fits = omega arith
runs_short (r ∷ []) h fits = omega (arith, run_short r fits.0 h, length-append (run_line r) [])
runs_short (r ∷ q ∷ rs) h fits =
    omega (arith, run_short r fits.0 h.0, runs_short (q ∷ rs) h.2 fits.1, length-append (run_line r) (flat_map run_line (q ∷ rs)))

module _ (text : List ℕ) (s : Shape) (arrays : List NamedLength) (code : CodeParts) (words : List ℕ)
    (h : IsSavedText text s arrays code words) where
  -- the listing of its code is not long
  listed_short : length (listing_of code) ≤ 433000000
  listed_short = listing_short code h.code_is h.fits.numbers

  -- its words are few
  words_few : length words ≤ 8651201
  words_few =
      let z = sizes_are (sizes_of s) h.sizes in
      omega (arith, h.whole.words_are, place_words (sizes_of s) z, z.processors_most, s.within.arrays_most)

  words_short : length (flat_map run_line (runs_of words)) ≤ 21 * length words
  words_short =
      let summed : times_sum (runs_of words) ≡ length words =
      sym (length-words_of (runs_of words)) ∙ ap (λ (l : List ℕ). length l) (runs_are_longest.words words) in
      omega (arith, summed, runs_short (runs_of words) (runs_are_longest.longest words) h.fits.runs)

  -- a text of a state is no longer than a saved text may be
  pub text_short : length text ≤ saved_limit
  text_short =
      let z = sizes_are (sizes_of s) h.sizes in
      let listing : List ℕ = listing_of code in
      let sizes : List ℕ = s.processors ∷ s.room ∷ s.slots ∷ [] in
      let named = arrays_short arrays (recursion_from_All (λ (a : NamedLength). IsArrayName a.name) arrays h.fits.names.names) h.fits.lengths in
      let first = line_short (codes "shape") sizes
      (omega (arith, z.processors_most), (omega (arith, z.room_most), (omega (arith, z.slots_most), tt))) in
      let coded = line_short (codes "code") (length listing ∷ []) (h.fits.bytes, tt) in
      let counted = line_short (codes "words") (length words ∷ []) (h.fits.count, tt) in
      let same = ap (λ (l : List ℕ). length l) h.same in
      let parts = length-append (head_text s arrays ++ code_text listing) (words_text words) in
      let front = length-append (head_text s arrays) (code_text listing) in
      let head = length-append (version_line ++ shape_line s.processors s.room s.slots) (flat_map array_line arrays) in
      let opening = length-append version_line (shape_line s.processors s.room s.slots) in
      let code_part = length-append (code_line (length listing)) listing in
      let words_part = length-append (words_line (length words)) (flat_map run_line (runs_of words)) in
      omega (
        arith,
        named,
        first,
        coded,
        counted,
        same,
        parts,
        front,
        head,
        opening,
        code_part,
        words_part,
        listed_short,
        words_few,
        words_short,
        h.fits.names.most,
      )
