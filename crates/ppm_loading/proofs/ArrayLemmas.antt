-- The arrays that the words of a machine have are those that its array words have one by one.
use Rattle.std.proofs.Common.{◌≡◌, ℕ, zero, suc, ◌+◌, ◌<◌, ◌≤◌, ℤ, List, [], ◌∷◌, ◌++◌, length, map, take, drop, get_or, refl, sym, ap, ap₂, ◌∙◌, arith}
use Rattle.std.specs.List.{sum}
use Rattle.std.proofs.lemmas.List.{append_assoc, drop_more, get_or-append-add, length-append, take-append-le, take_all}
use Rattle.std.proofs.lemmas.List.Sums.{sum_by-append, sum_by-cons}
use Rattle.ppm_words.specs.TwosComplement.{value_of}
use Rattle.ppm_words.specs.declared.named_array.NamedArray.{NamedArray}
use Rattle.ppm_cells.specs.Cells.{arrays_at as arrays_begin}
use Rattle.ppm_cells.specs.Memory.{read, AreWordsOf}
use Rattle.ppm_cells.specs.declared.cell.Cell.TheVariants.{ArrayWord}
use Rattle.ppm_cells.specs.declared.shape.Shape.{Shape}
use Rattle.ppm_strands.specs.Tree.{Words}
use Rattle.ppm_depth.specs.Run.{values_at, arrays_at}
use Rattle.ppm_loading.specs.Says.{arrays_from}

abbrev lengths_of : List NamedArray → List ℕ
lengths_of arrays = map (λ a. length a.values) arrays

-- so many words from a place on, and those that another list of words has one by one
same_values : (words : List ℕ) (at : ℕ) (w : Words) (start n : ℕ) → at + n ≤ length words
    → ((i : ℕ) → i < n → get_or words (at + i) 0 ≡ w (start + i))
    → map value_of (take n (drop at words)) ≡ values_at w start n
same_values words at w start zero fits same = refl
same_values words at w start (suc n) fits same =
    let there : at < length words = omega (arith, fits) in
    let first : get_or words at 0 ≡ w start =
    let here : at ≡ at + 0 = omega arith in
    let begun : start + 0 ≡ start = omega arith in
    ap (λ (k : ℕ). get_or words k 0) here ∙ same 0 (omega arith) ∙ ap w begun in
    ap (λ (l : List ℕ). map value_of (take (suc n) l)) (drop_more words at 0 there)
    ∙ ap₂ (λ (x : ℤ) (xs : List ℤ). x ∷ xs) (ap value_of first)
    (same_values words (at + 1) w (start + 1) n (omega (arith, fits)) (λ i less. later i less))
  where
    later : (i : ℕ) → i < n → get_or words (at + 1 + i) 0 ≡ w (start + 1 + i)
    later i less =
        let here : at + 1 + i ≡ at + suc i = omega arith in
        let begun : start + suc i ≡ start + 1 + i = omega arith in
        ap (λ (k : ℕ). get_or words k 0) here ∙ same (suc i) (omega (arith, less)) ∙ ap w begun

-- sums of what stands in front
sum_more : (front : List ℕ) (n : ℕ) → sum (front ++ n ∷ []) ≡ sum front + n
sum_more front n =
    let both = sum_by-append (λ (x : ℕ). x) front (n ∷ []) in
    let one = sum_by-cons (λ (x : ℕ). x) n [] in
    let none : sum [] ≡ 0 = refl in
    omega (arith, both, one, none)

front_of : (front rest : List ℕ) → take (length front) (front ++ rest) ≡ front
front_of front rest = take-append-le (length front) front rest (omega arith) ∙ take_all (length front) front (omega arith)

module _ (s : Shape) (lengths words : List ℕ) (fit : AreWordsOf s words) (w : Words)
    (same : (x : ℕ) → x < s.arrays → read s words (ArrayWord x) ≡ w x) where
  -- the arrays after some, whose lengths stand in front
  arrays_behind : (front : List ℕ) (arrays : List NamedArray) → lengths ≡ front ++ lengths_of arrays
      → sum front + sum (lengths_of arrays) ≤ s.arrays
      → arrays_from s lengths words (length front) arrays ≡ arrays_at w (sum front) arrays
  arrays_behind front [] is within = refl
  arrays_behind front (a ∷ arrays) is within =
      let n : ℕ = length a.values in
      let long : get_or lengths (length front) 0 ≡ n =
      let at : length front ≡ length front + 0 = omega arith in
      ap (λ (l : List ℕ). get_or l (length front) 0) is ∙ ap (λ (k : ℕ). get_or (front ++ lengths_of (a ∷ arrays)) k 0) at
      ∙ get_or-append-add front (lengths_of (a ∷ arrays)) 0 0 in
      let begun : sum (take (length front) lengths) ≡ sum front =
      ap (λ (l : List ℕ). sum (take (length front) l)) is ∙ ap sum (front_of front (lengths_of (a ∷ arrays))) in
      let all = sum_by-cons (λ (x : ℕ). x) n (lengths_of arrays) in
      let values : map value_of (take (get_or lengths (length front) 0) (drop (arrays_begin s + sum (take (length front) lengths)) words))
      ≡ values_at w (sum front) n =
      ap₂ (λ (k b : ℕ). map value_of (take k (drop (arrays_begin s + b) words))) long begun
      ∙ same_values words (arrays_begin s + sum front) w (sum front) n (omega (arith, within, all, fit))
      (λ i less. word i less (omega (arith, within, all, less))) in
      let behind : lengths ≡ (front ++ n ∷ []) ++ lengths_of arrays = is ∙ sym (append_assoc front (n ∷ []) (lengths_of arrays)) in
      let more = sum_more front n in
      let longer : length (front ++ n ∷ []) ≡ length front + 1 = length-append front (n ∷ []) in
      let rest = arrays_behind (front ++ n ∷ []) arrays behind (omega (arith, within, all, more)) in
      ap₂ (λ (v : List ℤ) (l : List NamedArray). record { name = a.name; values = v } ∷ l) values
      (ap (λ (k : ℕ). arrays_from s lengths words k arrays) (sym longer) ∙ rest ∙ ap (λ (k : ℕ). arrays_at w k arrays) more)
    where
      word : (i : ℕ) → i < length a.values → sum front + i < s.arrays
          → get_or words (arrays_begin s + sum front + i) 0 ≡ w (sum front + i)
      word i less within_arrays =
          let at : arrays_begin s + sum front + i ≡ arrays_begin s + (sum front + i) = omega arith in
          ap (λ (k : ℕ). get_or words k 0) at ∙ same (sum front + i) within_arrays

  -- all of them
  pub same_arrays : (arrays : List NamedArray) → lengths ≡ lengths_of arrays → sum (lengths_of arrays) ≤ s.arrays
      → arrays_from s lengths words 0 arrays ≡ arrays_at w 0 arrays
  same_arrays arrays is within = arrays_behind [] arrays is (let none : sum [] ≡ 0 = refl in omega (arith, within, none))
