-- A text without a fault is of a case.
use Rattle.std.proofs.Common.{◌≡◌, ◌∙◌, ◌⊎◌, inl, inr, ℕ, zero, suc, ◌+◌, ◌<◌, ◌≤◌, Bool, true, false, nat_lt, List, [], ◌∷◌, ◌++◌, length, map, Option, Some, None, refl, sym, ap, subst, arith, length-append}
use Rattle.std.specs.List.{list_all}
use Rattle.std.specs.Str.{bytes_eq}
use Rattle.std.proofs.lemmas.Bool.{both_ways, ltb-true, ltb-false}
use Rattle.std.proofs.lemmas.Slice.Eq.{bytes_eq-Decides}
use Rattle.ppm_words.specs.declared.named_array.NamedArray.{NamedArray}
use Rattle.ppm_code.specs.declared.code.CodeParts.{CodeParts}
use Rattle.ppm_pieces.specs.Pieces.{split, halves_of}
use Rattle.ppm_listing_reader.specs.Correct.{IsListing, FaultsTellListings}
use Rattle.ppm_case.specs.declared.line.Numbers.{Numbers}
use Rattle.ppm_case.specs.declared.case_error.InputFault.{InputFault}
use Rattle.ppm_case.specs.declared.case_error.InputFault.TheVariants as input
use Rattle.ppm_case.specs.declared.case_error.CaseFault.{CaseFault}
use Rattle.ppm_case.specs.declared.case_error.CaseFault.TheVariants as fault
use Rattle.ppm_case.specs.Spelling.{array_word, array_of, is_array_name, begins_array}
use Rattle.ppm_case.specs.Rules.{case_limit, is_named, is_past}
use Rattle.ppm_case.specs.Judged.{numbers_of, HasHead, IsNext}
use Rattle.ppm_case.specs.Case.{Front}
use Rattle.ppm_case.specs.Faults.{HasFault, TooLong, BadLine, IsBadLine}
use Rattle.ppm_case.specs.Correct.{HasCase}
use Rattle.ppm_case.proofs.WordLemmas.{halves_back, split_some, split_none}
use Rattle.ppm_case.proofs.JudgeLemmas.{no_numbers, no_head, no_form, past_range, named_again, too_many, next_is}
use Rattle.ppm_case.proofs.LoopLemmas.{SoFar, front, no_arrays, bad_of_front, unended_bad, array_more}
use Rattle.ppm_case.proofs.CaseLemmas.{named_from, named_back}
use Rattle.ppm_case.proofs.ReadLemmas.{at_line, unnamed, case_is}
use Rattle.ppm_case.proofs.LeastLemmas.{no_fault}

-- a word by its place among others
abbrev first_word : List (List ℕ) → List ℕ
first_word [] = []
first_word (w ∷ ws) = w

abbrev second_word : List (List ℕ) → List ℕ
second_word [] = []
second_word (w ∷ ws) = first_word ws

-- a line has name and numbers, or it has none
abbrev Head : List ℕ → Type 0
Head line = ((name : List ℕ) × (numbers : List ℕ) × HasHead line name numbers) ⊎ ((name numbers : List ℕ) → HasHead line name numbers → ⊥)

head_or_none : (line : List ℕ) → Head line
head_or_none line = by (halves_of 32 line) refl
  where
    one_word : split 32 line ≡ line ∷ [] → (name numbers : List ℕ) → HasHead line name numbers → ⊥
    one_word e name numbers h = omega (arith, ap (λ (l : List (List ℕ)). length l) (sym h.words ∙ e))

    named : (w n numbers : List ℕ) → split 32 line ≡ w ∷ n ∷ split 32 numbers → (a b : Bool) → bytes_eq w array_word ≡ a → is_array_name n ≡ b → Head line
    named w n numbers e true true f g =
        inl (n, numbers, record { words = e ∙ ap (λ (v : List ℕ). v ∷ n ∷ split 32 numbers) ((bytes_eq-Decides w array_word).0 f); name_is = g })
    named w n numbers e true false f g =
        inr (λ name others h. both_ways (is_array_name n) g
        (ap (λ (l : List (List ℕ)). is_array_name (second_word l)) (sym e ∙ h.words) ∙ h.name_is))
    named w n numbers e false b f g =
        inr (λ name others h. both_ways (bytes_eq w array_word) f
        ((bytes_eq-Decides w array_word).1 (ap (λ (l : List (List ℕ)). first_word l) (sym e ∙ h.words))))

    after_word : (w rest : List ℕ) → split 32 line ≡ w ∷ split 32 rest → (o : Option (List ℕ × List ℕ)) → halves_of 32 rest ≡ o → Head line
    after_word w rest e None f = inr (λ name numbers h. no_numbers line w rest name numbers e (split_none 32 rest f) h)
    after_word w rest e (Some (n, numbers)) f =
        named w n numbers (e ∙ ap (λ (l : List (List ℕ)). w ∷ l) (split_some 32 rest n numbers f)) (bytes_eq w array_word) (is_array_name n) refl refl

    by : (o : Option (List ℕ × List ℕ)) → halves_of 32 line ≡ o → Head line
    by None e = inr (one_word (split_none 32 line e))
    by (Some (w, rest)) e = after_word w rest (split_some 32 line w rest e) (halves_of 32 rest) refl

-- The lines of arrays of a text that is not too long, and has no bad one: whatever follows from what was read once no array begins, follows from the text.
module _ (Q : Type 0) (text : List ℕ) (short : length text ≤ case_limit)
    (none : (f : Front text) (bad : InputFault) → IsBadLine (map array_of f.arrays) f.rest bad → ⊥)
    (done : (arrays : List NamedArray) (words lines : ℕ) (rest : List ℕ) → SoFar text arrays words lines rest → begins_array rest ≡ false → Q) where
  -- reading goes on from what is shorter
  abbrev Going : ℕ → Type 0
  Going n = (xs : List NamedArray) (k m : ℕ) (more : List ℕ) → length more < n → SoFar text xs k m more → Q

  -- what follows the line of an array
  module _ {arrays : List NamedArray} {words lines : ℕ} {rest : List ℕ} (h : SoFar text arrays words lines rest) (begins : begins_array rest ≡ true)
      (line more : List ℕ) (cut : halves_of 10 rest ≡ Some (line, more))
      (goes : (xs : List NamedArray) (n m : ℕ) → SoFar text xs n m more → Q) where
    bad : (f : InputFault) → IsBadLine arrays rest f → Q
    bad f b = absurd (none (front h short) f (bad_of_front h f b))

    by_rules : (name numbers : List ℕ) → HasHead line name numbers → (k : Numbers) → numbers_of (split 32 numbers) ≡ Some k → (a b c : Bool)
        → k.fits ≡ a → is_named arrays name ≡ b → is_past arrays k.len ≡ c → Q
    by_rules name numbers head k says false b c f g i = bad input.OutOfRange (past_range arrays line rest more cut name numbers head k says f)
    by_rules name numbers head k says true true c f g i = bad input.NamedTwice (named_again arrays line rest more cut name numbers head k says f g)
    by_rules name numbers head k says true false true f g i = bad input.TooMuch (too_many arrays line rest more cut name numbers head k says f g i)
    by_rules name numbers head k says true false false f g i =
        let next = next_is arrays line name numbers k head says f g i in
        goes (arrays ++ array_of next.array ∷ []) (words + k.len) (lines + 1) (array_more h more (array_of next.array) cut next refl)

    by_numbers : (name numbers : List ℕ) → HasHead line name numbers → (o : Option Numbers) → numbers_of (split 32 numbers) ≡ o → Q
    by_numbers name numbers head None e = bad input.NoSuchForm (no_form arrays line rest more cut name numbers head begins e)
    by_numbers name numbers head (Some k) e =
        by_rules name numbers head k e k.fits (is_named arrays name) (is_past arrays k.len) refl refl refl

    by_head : Head line → Q
    by_head (inl (name, numbers, head)) = by_numbers name numbers head (numbers_of (split 32 numbers)) refl
    by_head (inr never) = bad input.NoSuchForm (no_head arrays line rest more cut begins never)

  -- the lines of arrays, and what follows
  shorter : (n : ℕ) (rest line more : List ℕ) → length rest < suc n → halves_of 10 rest ≡ Some (line, more) → length more < n
  shorter n rest line more less cut =
      omega (arith, less, ap (λ (l : List ℕ). length l) (halves_back 10 rest line more cut), length-append line (10 ∷ more))

  from : (n : ℕ) (arrays : List NamedArray) (words lines : ℕ) (rest : List ℕ) → length rest < n → SoFar text arrays words lines rest → Q
  from zero arrays words lines rest less h = absurd (omega (arith, less))
  from (suc n) arrays words lines rest less h = by (begins_array rest) refl (λ xs k m more small so. from n xs k m more small so)
    where
      by_line : Going n → begins_array rest ≡ true → (o : Option (List ℕ × List ℕ)) → halves_of 10 rest ≡ o → Q
      by_line go begins None e = absurd (none (front h short) input.NoSuchForm (bad_of_front h input.NoSuchForm (unended_bad h begins e)))
      by_line go begins (Some (line, more)) e =
          by_head h begins line more e (λ xs k m so. go xs k m more (shorter n rest line more less e) so) (head_or_none line)

      by : (b : Bool) → begins_array rest ≡ b → Going n → Q
      by true e go = by_line go e (halves_of 10 rest) refl
      by false e go = done arrays words lines rest h e

  pub after_arrays : Q
  after_arrays = from (suc (length text)) [] 0 0 text (omega arith) (no_arrays text)

module _ (law : FaultsTellListings) (text : List ℕ) (none : (f : CaseFault) (line : ℕ) → HasFault text f line → ⊥) (short : length text ≤ case_limit) where
  -- the listing and its root
  by_listing : (arrays : List NamedArray) (words lines : ℕ) (rest : List ℕ) → SoFar text arrays words lines rest → begins_array rest ≡ false → HasCase text
  by_listing arrays words lines rest h begins = of_code listed.0 listed.1 (list_all (λ number. nat_lt number (length arrays)) listed.0.arrays) refl
    where
      listed : (code : CodeParts) × IsListing rest code
      listed = law.covers rest (no_fault rest (λ rule line first. none (fault.OfListing rule) (lines + line) (at_line h.read short begins rule line first)))

      of_code : (code : CodeParts) → IsListing rest code → (b : Bool) → list_all (λ number. nat_lt number (length arrays)) code.arrays ≡ b → HasCase text
      of_code code l true e = record { code = code; input = arrays; is = case_is h.read short code l (named_from (length arrays) code.arrays e) }
      of_code code l false e =
          absurd (none (fault.OfInput input.NotThere) (lines + 2)
          (unnamed h.read short code l (λ named. both_ways _ e (named_back (length arrays) code.arrays named))))

  from_arrays : HasCase text
  from_arrays = after_arrays (HasCase text) text short (λ f bad b. none (fault.OfInput bad) (length f.arrays + 1) (BadLine f bad b)) by_listing

pub covers : FaultsTellListings → (text : List ℕ) → ((f : CaseFault) (line : ℕ) → HasFault text f line → ⊥) → HasCase text
covers law text none = by (nat_lt case_limit (length text)) refl
  where
    by : (b : Bool) → nat_lt case_limit (length text) ≡ b → HasCase text
    by true e = absurd (none (fault.OfInput input.TooMuch) 1 (TooLong (ltb-true case_limit (length text) e)))
    by false e = from_arrays law text none (ltb-false case_limit (length text) e)
