-- Whole arrays lie within the array words.
use Rattle.std.proofs.Common.{◌≡◌, ℕ, zero, suc, ◌+◌, ◌≤◌, ◌<◌, List, [], ◌∷◌, length, map, take, get_or, Some, sym, ap, ◌∙◌, arith}
use Rattle.std.specs.Prelude.{slice_get}
use Rattle.std.specs.List.{sum_by}
use Rattle.std.proofs.lemmas.List.Sums.{sum-map, sum_by-cons, sum_by_more_le, sum_by-take-le}
use Rattle.std.proofs.lemmas.List.{take_all}
use Rattle.std.proofs.lemmas.Option.{slice_get-get_or}
use Rattle.ppm_words.specs.declared.named_array.NamedArray.{NamedArray}
use Rattle.ppm_words.specs.Inputs.{value_count}
use Rattle.ppm_layout.specs.Opening.{values_in, whole_array}

counted : (input : List NamedArray) → value_count input ≡ sum_by (λ (a : NamedArray). length a.values) input
counted input = sum-map (λ (a : NamedArray). length a.values) input

pub value_count-cons : (a : NamedArray) (input : List NamedArray) → value_count (a ∷ input) ≡ length a.values + value_count input
value_count-cons a input = sum_by-cons (λ x. x) (length a.values) (map (λ (b : NamedArray). length b.values) input)

-- the region of a whole array ends within the array words
pub whole_within : (input : List NamedArray) (number : ℕ) → (whole_array input number).start + (whole_array input number).length ≤ value_count input
whole_within [] zero = omega arith
whole_within [] (suc number) = omega arith
whole_within (a ∷ input) zero = let all = value_count-cons a input in omega (arith, all)
whole_within (a ∷ input) (suc number) =
    let all = value_count-cons a input in
    let front = value_count-cons a (take number input) in
    let rest = whole_within input number in
    omega (arith, all, front, rest)

-- the values of the arrays so far, and of the next one
pub next_within : (input : List NamedArray) (i : ℕ) (d : NamedArray) → i < length input
    → value_count (take i input) + length (get_or input i d).values ≤ value_count input
next_within input i d h =
    let more = sum_by_more_le (λ (a : NamedArray). length a.values) input i d h in
    let front = counted (take i input) in
    let all = counted input in
    omega (arith, more, front, all)

-- fewer arrays have fewer values
pub front_within : (input : List NamedArray) (n : ℕ) → value_count (take n input) ≤ value_count input
front_within input n =
    let less = sum_by-take-le (λ (a : NamedArray). length a.values) input n in
    let front = counted (take n input) in
    let all = counted input in
    omega (arith, less, front, all)

-- an array among the first so many, with those in front of it
pub within_front : (input : List NamedArray) (n i : ℕ) (d : NamedArray) → i < length (take n input)
    → value_count (take i (take n input)) + length (get_or (take n input) i d).values ≤ value_count input
within_front input n i d h =
    let next = next_within (take n input) i d h in
    let all = front_within input n in
    omega (arith, next, all)

-- a region with the start and the length of a whole array
pub whole_is : (input : List NamedArray) (number i start : ℕ) (d : NamedArray) → number < length input → length (take number input) ≤ i
    → start ≡ value_count (take i (take number input)) → record { start = start; length = length (get_or input number d).values } ≡ whole_array input number
whole_is input number i start d h all begun =
    let there : slice_get input number ≡ Some (get_or input number d) = slice_get-get_or input number d h in
    let long : length (get_or input number d).values ≡ length (values_in (slice_get input number)) = ap (λ o. length (values_in o)) (sym there) in
    let front : start ≡ value_count (take number input) = begun ∙ ap (λ xs. value_count xs) (take_all i (take number input) all) in
    λ k. record { start = front k; length = long k }
