-- The region words with which the depth-first run begins are those of whole arrays.
use Rattle.std.proofs.Common.{◌≡◌, ℕ, zero, suc, ◌+◌, ◌*◌, ◌^◌, ◌<◌, List, [], ◌∷◌, length, map, take, get_or, sym, ap, ◌∙◌, arith, inl, inr}
use Rattle.std.specs.Prelude.{slice_get}
use Rattle.std.specs.List.{All}
use Rattle.std.proofs.lemmas.Bool.{cases_lt}
use Rattle.std.proofs.lemmas.List.{get_or-map, get_or_past, length-map}
use Rattle.std.proofs.lemmas.List.Elements.{All-get_or}
use Rattle.ppm_words.specs.declared.named_array.NamedArray.{NamedArray}
use Rattle.ppm_words.specs.Inputs.{value_count}
use Rattle.ppm_cells.specs.Fields.{number_of}
use Rattle.ppm_cells.specs.Region.{region_word}
use Rattle.ppm_layout.specs.Opening.{values_in, whole_array}
use Rattle.ppm_layout.proofs.InputLemmas.{value_count-cons}
use Rattle.ppm_depth.specs.Start.{regions_from}

-- a region's word in plain arithmetic
region_word-is : (start size : ℕ) → region_word (record { start = start; length = size }) ≡ start * 2 ^ 32 + size
unfolding number_of
region_word-is start size = let is : 0 + start ≡ start = omega arith in ap (λ n. n * 2 ^ 32 + size) is

-- the region of an array after others
region_at : (start : ℕ) (input : List NamedArray) (number : ℕ) → number < length input
    → get_or (regions_from start input) number 0
    ≡ (start + value_count (take number input)) * 2 ^ 32 + length (values_in (slice_get input number))
region_at start [] number h = absurd (omega (arith, h))
region_at start (a ∷ input) zero h = let is : start ≡ start + 0 = omega arith in ap (λ n. n * 2 ^ 32 + length a.values) is
region_at start (a ∷ input) (suc number) h =
    let rest = region_at (start + length a.values) input number (omega (arith, h)) in
    let all = value_count-cons a (take number input) in
    let is : start + length a.values + value_count (take number input) ≡ start + value_count (a ∷ take number input) = omega (arith, all) in
    rest ∙ ap (λ n. n * 2 ^ 32 + length (values_in (slice_get input number))) is

region_is : (input : List NamedArray) (number : ℕ) → number < length input → region_word (whole_array input number) ≡ get_or (regions_from 0 input) number 0
region_is input number h =
    let start : ℕ = value_count (take number input) in
    let size : ℕ = length (values_in (slice_get input number)) in
    let is : 0 + start ≡ start = omega arith in
    region_word-is start size ∙ sym (region_at 0 input number h ∙ ap (λ n. n * 2 ^ 32 + size) is)

-- the words of slots
pub slots_same : (input : List NamedArray) (arrays : List ℕ) (slot : ℕ) → All (λ a. a < length input) arrays
    → get_or (map (λ number. region_word (whole_array input number)) arrays) slot 0
    ≡ get_or (map (λ a. get_or (regions_from 0 input) a 0) arrays) slot 0
slots_same input arrays slot named =
    let whole : ℕ → ℕ = λ number. region_word (whole_array input number) in
    let from : ℕ → ℕ = λ a. get_or (regions_from 0 input) a 0 in
    elim (cases_lt slot (length arrays)) [
      | inl h ↦
          let there = All-get_or (λ a. a < length input) arrays slot 0 h named in
          get_or-map whole arrays slot 0 0 h ∙ region_is input (get_or arrays slot 0) there ∙ sym (get_or-map from arrays slot 0 0 h)
      | inr h ↦
          let one = length-map arrays whole in
          let two = length-map arrays from in
          get_or_past (map whole arrays) slot 0 (omega (arith, h, one)) ∙ sym (get_or_past (map from arrays) slot 0 (omega (arith, h, two)))
    ]
