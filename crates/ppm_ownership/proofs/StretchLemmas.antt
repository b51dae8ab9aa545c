-- What an element's block of an `each` owns is in each stretch with that element; and how long the arrays are at the start.
use Rattle.std.proofs.Common.{◌≡◌, ◌≤◌, ◌-◌, cond, Bool, true, false, ℕ, zero, suc, List, [], ◌∷◌, Some, map, length, replicate}
use Rattle.std.proofs.Common.{refl, sym, subst, arith, length-append}
use Rattle.std.specs.Prelude.{pos}
use Rattle.std.specs.Str.{bytes_eq}
use Rattle.std.specs.List.{Contains}
use Rattle.std.proofs.lemmas.List.{length-replicate}
use Rattle.ppm_tree.specs.declared.named.Named.{Named}
use Rattle.ppm_tree.specs.declared.tree.Array.{Array}
use Rattle.ppm_tree.specs.declared.tree.ArrayInput.{ArrayInput}
use Rattle.ppm_tree.specs.Tree.{ProgramTree}
use Rattle.ppm_tree.specs.State.{Region, Frame, array_at, part_at}
use Rattle.ppm_tree.specs.Program.{input_of, initial_array, initial_arrays, values_of}
use Rattle.ppm_regions.specs.Scope.{Scope, first_named}
use Rattle.ppm_regions.specs.Admission.{IsAdmitted}
use Rattle.ppm_regions.proofs.Elements.{contains_head, contains_tail}
use Rattle.ppm_regions.proofs.Faultless.{array_is_its_own, fits_its_array}
use Rattle.ppm_ownership.specs.Words.{HasWord, IsPart}
use Rattle.ppm_ownership.specs.Owning.{Owns, MayWrite, words_at}
use Rattle.ppm_ownership.specs.Coming.{each_frame, part_frame}
use Rattle.ppm_regions.proofs.ScopeLemmas.{same_names}
use Rattle.ppm_ownership.proofs.PartLemmas.{word_of_whole}

module _ (scope : Scope) (f : Frame) (r i x : Named) (q : Region) (k : ℕ) (part : IsPart (part_at k (f.regions r.name)) q) where
  -- the words of a name in the element's frame are words of it in the stretch's
  word_in : (z : List ℕ) (a j : ℕ) → HasWord ((each_frame f r k i x).regions z) a j → HasWord ((part_frame f x q).regions z) a j
  word_in z a j h = go (bytes_eq x.name z) h
    where
      go : (b : Bool) → HasWord (cond b (part_at k (f.regions r.name)) (f.regions z)) a j → HasWord (cond b q (f.regions z)) a j
      go true h = word_of_whole part a j h
      go false h = h

  pub owned_in : (inner : Scope) (a j : ℕ) → Owns inner (each_frame f r k i x).regions a j → Owns inner (part_frame f x q).regions a j
  owned_in inner a j h = record { name = h.name; seen = h.seen; has = word_in h.name a j h.has }

  pub written_in : (inner : Scope) (a j : ℕ) → MayWrite inner (each_frame f r k i x).regions a j → MayWrite inner (part_frame f x q).regions a j
  written_in inner a j h = record { name = h.name; writable = h.writable; has = word_in h.name a j h.has }

-- an input that fits leaves its array as long as it is declared
input_short : (inputs : List ArrayInput) (x : List ℕ) (words : ℕ) → ((i : ArrayInput) → Contains inputs i → i.name.name ≡ x → length i.values ≤ words)
    → length (input_of inputs x) ≤ words
input_short [] x words h = omega arith
input_short (i ∷ inputs) x words h =
    go (bytes_eq i.name.name x) refl (input_short inputs x words (λ j c e. h j (contains_tail i j inputs c) e))
  where
    go : (b : Bool) → bytes_eq i.name.name x ≡ b → length (input_of inputs x) ≤ words → length (cond b i.values (input_of inputs x)) ≤ words
    go true e rest = h i (contains_head i inputs) (same_names i.name.name x e)
    go false e rest = rest

filled_length : (inputs : List ArrayInput) (a : Array) → length (input_of inputs a.name.name) ≤ a.words → length (initial_array inputs a).values ≡ a.words
filled_length inputs a short =
    let front = input_of inputs a.name.name in
    let whole = length-append front (replicate (a.words - length front) (pos 0)) in
    let rest = length-replicate (a.words - length front) (pos 0) in
    omega (arith, whole, rest, short)

start_length : (inputs : List ArrayInput) (arrays : List Array) → ((a : Array) → Contains arrays a → length (input_of inputs a.name.name) ≤ a.words)
    → (k : ℕ) → length (array_at (values_of (map (initial_array inputs) arrays)) k) ≡ words_at arrays k
start_length inputs [] h k = refl
start_length inputs (a ∷ arrays) h zero = filled_length inputs a (h a (contains_head a arrays))
start_length inputs (a ∷ arrays) h (suc k) = start_length inputs arrays (λ b c. h b (contains_tail a b arrays c)) k

pub starts_so : (t : ProgramTree) → IsAdmitted t → (k : ℕ) → length (array_at (values_of (initial_arrays t)) k) ≡ words_at t.arrays k
starts_so t admitted =
    start_length t.inputs t.arrays (λ a c. input_short t.inputs a.name.name a.words
    (λ i d named. fits_its_array t admitted i d a
    (subst (λ (x : List ℕ). first_named (λ (b : Array). b.name.name) t.arrays x ≡ Some a) (sym named) (array_is_its_own t admitted a c))))
