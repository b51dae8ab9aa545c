-- What a program starts with is an input for its arrays, and its code's root names arrays of each input for them.
use Rattle.std.proofs.Common.{◌≡◌, ◌≢◌, ◌<◌, ◌≤◌, ◌-◌, ℕ, zero, suc, ℤ, pos, negsuc, cond, Bool, true, false, List, [], ◌∷◌}
use Rattle.std.proofs.Common.{Some, None, map, length, replicate, refl, sym, ap, ap₂, subst, arith, length-append}
use Rattle.std.specs.List.{All, Contains}
use Rattle.std.specs.Str.{bytes_eq}
use Rattle.std.proofs.lemmas.List.{length-replicate}
use Rattle.std.proofs.lemmas.List.Elements.{All-nil, All-cons, All-head, All-tail, All-append, All-weaker}
use Rattle.ppm_tree.specs.declared.tree.Array.{Array}
use Rattle.ppm_tree.specs.declared.tree.ArrayInput.{ArrayInput}
use Rattle.ppm_tree.specs.declared.tree.Parameter.{Parameter}
use Rattle.ppm_tree.specs.Limits.{IsArrayInput, IsInputValue}
use Rattle.ppm_tree.specs.State.{Region}
use Rattle.ppm_tree.specs.Program.{input_of, initial_array, main_of, whole_from}
use Rattle.ppm_regions.specs.Scope.{first_named}
use Rattle.ppm_regions.proofs.Elements.{contains_head, contains_tail}
use Rattle.ppm_regions.proofs.Faultless.{array_is_its_own, fits_its_array}
use Rattle.ppm_regions.proofs.ScopeLemmas.{same_names}
use Rattle.ppm_cut_code.specs.Inputs.{IsValue}
use Rattle.ppm_cut_code.proofs.MainLemmas.{whole_at, main_names}
use Rattle.ppm_cut_correct.specs.Beginning.{StartWithInput, NameArrays}
use Rattle.ppm_cut_correct.proofs.RootLemmas.{as_many}

-- ---- what a program starts with

-- an input that fits leaves its array as long as it is declared
input_short : (inputs : List ArrayInput) (x : List ℕ) (words : ℕ) → ((i : ArrayInput) → Contains inputs i → i.name.name ≡ x → length i.values ≤ words)
    → length (input_of inputs x) ≤ words
input_short [] x words h = omega arith
input_short (i ∷ inputs) x words h =
    go (bytes_eq i.name.name x) refl (input_short inputs x words (λ j c e. h j (contains_tail i j inputs c) e))
  where
    go : (b : Bool) → bytes_eq i.name.name x ≡ b → length (input_of inputs x) ≤ words → length (cond b i.values (input_of inputs x)) ≤ words
    go true e rest = h i (contains_head i inputs) (same_names i.name.name x e)
    go false e rest = rest

filled_length : (inputs : List ArrayInput) (a : Array) → length (input_of inputs a.name.name) ≤ a.words → length (initial_array inputs a).values ≡ a.words
filled_length inputs a short =
    let front = input_of inputs a.name.name in
    let whole = length-append front (replicate (a.words - length front) (pos 0)) in
    let rest = length-replicate (a.words - length front) (pos 0) in
    omega (arith, whole, rest, short)

-- all arrays of a program are as long as they are declared
all_lengths : (inputs : List ArrayInput) (arrays : List Array) → ((a : Array) → Contains arrays a → length (input_of inputs a.name.name) ≤ a.words)
    → map (λ a. length a.values) (map (initial_array inputs) arrays) ≡ map (λ a. a.words) arrays
all_lengths inputs [] h = refl
all_lengths inputs (a ∷ arrays) h =
    ap₂ (λ (n : ℕ) (ns : List ℕ). n ∷ ns) (filled_length inputs a (h a (contains_head a arrays)))
    (all_lengths inputs arrays (λ b c. h b (contains_tail a b arrays c)))

-- and have their names
all_names : (inputs : List ArrayInput) (arrays : List Array)
    → map (λ a. a.name) (map (initial_array inputs) arrays) ≡ map (λ a. a.name.name) arrays
all_names inputs [] = refl
all_names inputs (a ∷ arrays) = ap (λ (ns : List (List ℕ)). a.name.name ∷ ns) (all_names inputs arrays)

-- a value of an input is one of the language
is_value : (v : ℤ) → IsInputValue v → IsValue v
is_value (pos n) h = h
is_value (negsuc n) h = omega (arith, h)

input_values : (inputs : List ArrayInput) (x : List ℕ) → All IsArrayInput inputs → All IsValue (input_of inputs x)
input_values [] x h = All-nil IsValue
input_values (i ∷ inputs) x h = go (bytes_eq i.name.name x) (input_values inputs x (All-tail IsArrayInput i inputs h))
  where
    go : (b : Bool) → All IsValue (input_of inputs x) → All IsValue (cond b i.values (input_of inputs x))
    go true rest = All-weaker IsInputValue IsValue is_value i.values (All-head IsArrayInput i inputs h).values
    go false rest = rest

zeros : (n : ℕ) → All IsValue (replicate n (pos 0))
zeros zero = All-nil IsValue
zeros (suc n) = All-cons IsValue (pos 0) (replicate n (pos 0)) (omega arith) (zeros n)

all_values : (inputs : List ArrayInput) (arrays : List Array) → All IsArrayInput inputs
    → All (λ a. All IsValue a.values) (map (initial_array inputs) arrays)
all_values inputs [] h = All-nil (λ a. All IsValue a.values)
all_values inputs (a ∷ arrays) h =
    let front = input_of inputs a.name.name in
    All-cons (λ a. All IsValue a.values) (initial_array inputs a) (map (initial_array inputs) arrays)
    (All-append IsValue front (replicate (a.words - length front) (pos 0)) (input_values inputs a.name.name h) (zeros (a.words - length front)))
    (all_values inputs arrays h)

-- a program starts with an input for its arrays
pub starts_with_input : StartWithInput
starts_with_input t within admitted = record {
  names = all_names t.inputs t.arrays;
  lengths = all_lengths t.inputs t.arrays (λ a c. input_short t.inputs a.name.name a.words
      (λ i d named. fits_its_array t admitted i d a
      (subst (λ (x : List ℕ). first_named (λ (b : Array). b.name.name) t.arrays x ≡ Some a) (sym named) (array_is_its_own t admitted a c))));
  values = all_values t.inputs t.arrays within.inputs;
}

-- ---- the arrays of the code's root

-- the number of an array that has the name
array_below : (arrays : List Array) (x : List ℕ) → first_named (λ a. a.name.name) arrays x ≢ None → (whole_from 0 arrays x).array < length arrays
array_below arrays x there =
    let w = whole_at 0 arrays x there in
    let same = ap (λ (r : Region). r.array) w.2 in
    omega (arith, same, w.1)

-- the numbers of the root's arrays are below their count
roots_below : (arrays : List Array) (n : ℕ) → n ≡ length arrays → (ps : List Parameter)
    → ((p : Parameter) → Contains ps p → first_named (λ a. a.name.name) arrays p.name.name ≢ None)
    → All (λ a. a < n) (map (λ p. (whole_from 0 arrays p.name.name).array) ps)
roots_below arrays n e [] h = All-nil (λ a. a < n)
roots_below arrays n e (p ∷ ps) h =
    let here = array_below arrays p.name.name (h p (contains_head p ps)) in
    All-cons (λ a. a < n) (whole_from 0 arrays p.name.name).array (map (λ p. (whole_from 0 arrays p.name.name).array) ps)
    (omega (arith, here, e)) (roots_below arrays n e ps (λ q c. h q (contains_tail p q ps c)))

pub root_names_arrays : NameArrays
root_names_arrays t admitted input is =
    roots_below t.arrays (length input) (as_many t input admitted is) (main_of t).parameters (λ p c. (main_names t admitted p c).found)
