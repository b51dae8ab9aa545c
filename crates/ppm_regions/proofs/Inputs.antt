-- The arrays that an admitted program starts with keep the limits of an input.
use Rattle.std.proofs.Common.{◌≡◌, ◌<◌, ◌≤◌, ◌+◌, ◌-◌, ℕ, suc, ℤ, pos, Bool, true, false, List, [], ◌∷◌, ◌++◌, Option, Some, None, map, drop, length, replicate, get_or, drop-cons, length-append, refl, sym, ap, subst, ◌∙◌, arith}
use Rattle.std.specs.Str.{bytes_eq}
use Rattle.std.specs.List.{Contains, sum}
use Rattle.std.proofs.lemmas.List.Sums.{sum_by-cons}
use Rattle.std.proofs.lemmas.List.{length-map, length-replicate}
use Rattle.ppm_words.specs.Limits.{array_limit, word_limit}
use Rattle.ppm_words.specs.Inputs.{IsInput, value_count}
use Rattle.ppm_tree.specs.declared.tree.Array.{Array}
use Rattle.ppm_tree.specs.declared.tree.ArrayInput.{ArrayInput}
use Rattle.ppm_tree.specs.Tree.{ProgramTree}
use Rattle.ppm_tree.specs.Limits.{IsWithin}
use Rattle.ppm_tree.specs.Program.{input_of, initial_array, initial_arrays}
use Rattle.ppm_regions.specs.Scope.{first_named}
use Rattle.ppm_regions.specs.Admission.{IsAdmitted}
use Rattle.ppm_regions.proofs.Names.{bytes_same, same_bytes, bytes_other}
use Rattle.ppm_regions.proofs.Faultless.{array_is_its_own, fits_its_array}

-- an input that a loop has come to
ahead : (xs : List ArrayInput) (k : ℕ) (i : ArrayInput) → k < length xs → i ≡ get_or xs k i → drop k xs ≡ i ∷ drop (k + 1) xs
ahead xs k i in' at =
    let next : suc k ≡ k + 1 = omega arith in
    drop-cons xs k i in' ∙ ap (λ y. y ∷ drop (suc k) xs) (sym at) ∙ ap (λ n. i ∷ drop n xs) next

module _ (x : List ℕ) where
  pub input_here : (xs : List ArrayInput) (k : ℕ) (i : ArrayInput) → k < length xs → i ≡ get_or xs k i → i.name.name ≡ x → input_of (drop k xs) x ≡ i.values
  input_here xs k i in' at e = rw (ahead xs k i in' at, bytes_same i.name.name x e) refl

  pub input_not_here : (xs : List ArrayInput) (k : ℕ) (i : ArrayInput) → k < length xs → i ≡ get_or xs k i → (i.name.name ≡ x → ⊥)
      → input_of (drop (k + 1) xs) x ≡ input_of (drop k xs) x
  input_not_here xs k i in' at h = sym (rw (ahead xs k i in' at, bytes_other i.name.name x h) refl)

-- values that fit in a name's array are no more than its words
front_fits : (inputs : List ArrayInput) (x : List ℕ) (words : ℕ) → ((i : ArrayInput) → Contains inputs i → i.name.name ≡ x → length i.values ≤ words)
    → length (input_of inputs x) ≤ words
front_fits [] x words h = omega arith
front_fits (i ∷ inputs) x words h = go (bytes_eq i.name.name x) refl (front_fits inputs x words (λ j c n. h j (suc c.0, (omega arith), c.2) n))
  where
    go : (b : Bool) → bytes_eq i.name.name x ≡ b → length (input_of inputs x) ≤ words → length (input_of (i ∷ inputs) x) ≤ words
    go true e further = rw e (h i (0, (omega arith), refl) (same_bytes i.name.name x e))
    go false e further = rw e further

-- an array that its input fits in has as many values as words
values_fit : (inputs : List ArrayInput) (a : Array) → length (input_of inputs a.name.name) ≤ a.words → length (initial_array inputs a).values ≤ a.words
values_fit inputs a le =
    let front = input_of inputs a.name.name in
    let zeros = replicate (a.words - length front) (pos 0) in
    let whole = length-append front zeros in
    let rest = length-replicate (a.words - length front) (pos 0) in
    omega (arith, whole, rest, le)

total_fits : (inputs : List ArrayInput) (arrays : List Array) → ((a : Array) → Contains arrays a → length (input_of inputs a.name.name) ≤ a.words)
    → value_count (map (initial_array inputs) arrays) ≤ sum (map (λ a. a.words) arrays)
total_fits inputs [] h = omega arith
total_fits inputs (a ∷ arrays) h =
    let here = values_fit inputs a (h a (0, (omega arith), refl)) in
    let more = total_fits inputs arrays (λ b c. h b (suc c.0, (omega arith), c.2)) in
    let values = sum_by-cons (λ n. n) (length (initial_array inputs a).values) (map (λ x. length x.values) (map (initial_array inputs) arrays)) in
    let words = sum_by-cons (λ n. n) a.words (map (λ (b : Array). b.words) arrays) in
    omega (arith, here, more, values, words)

-- the arrays that an admitted program within the limits starts with
pub input_fits : (t : ProgramTree) → IsWithin t → IsAdmitted t → IsInput (initial_arrays t)
input_fits t within admitted = record {
  arrays_bound = let e = length-map t.arrays (initial_array t.inputs) in omega (arith, e, within.array_count);
  values_bound =
      let total = total_fits t.inputs t.arrays
      (λ a c. front_fits t.inputs a.name.name a.words
      (λ i d named. fits_its_array t admitted i d a (subst (λ x. first_named (λ (b : Array). b.name.name) t.arrays x ≡ Some a) (sym named) (array_is_its_own t admitted a c)))) in
      omega (arith, total, within.words);
}
