-- The arrays that an admitted program within the limits starts with are named as those of a saved state.
use Rattle.std.proofs.Common.{◌≡◌, ◌≢◌, ◌≤◌, ℕ, suc, Bool, true, false, List, [], ◌∷◌, ◌++◌, Some, None, cond, map, length, refl, sym, ap, subst}
use Rattle.std.specs.Bool.{Decides}
use Rattle.std.specs.List.{AllByRecursion, Contains, IsDistinct, flat_map, sum}
use Rattle.std.specs.Str.{bytes_eq}
use Rattle.std.proofs.lemmas.List.Elements.{All-from_recursion, recursion_from_All}
use Rattle.std.proofs.lemmas.Map.Keys.{IsDistinct-cons}
use Rattle.std.proofs.lemmas.Slice.Eq.{bytes_eq-Decides}
use Rattle.ppm_words.specs.Limits.{array_limit, word_limit}
use Rattle.ppm_words.specs.declared.named_array.NamedArray.{NamedArray}
use Rattle.ppm_text.specs.Spelling.{spelled, keyword_of, keywords as spellings}
use Rattle.ppm_tree.specs.declared.mode.Mode.TheVariants as mode
use Rattle.ppm_tree.specs.declared.named.Named.{Named}
use Rattle.ppm_tree.specs.declared.tree.Array.{Array}
use Rattle.ppm_tree.specs.declared.tree.ArrayInput.{ArrayInput}
use Rattle.ppm_tree.specs.Tree.{ProgramTree}
use Rattle.ppm_tree.specs.Limits.{IsNamed, IsArray, IsWithin, keywords}
use Rattle.ppm_tree.specs.Program.{initial_array, initial_arrays}
use Rattle.ppm_regions.specs.Admission.{IsAdmitted}
use Rattle.ppm_regions.specs.Scope.{Declaration, Scope, first_named, plain}
use Rattle.ppm_regions.specs.Uses.{Begins, Fills, Site, Use, declaration_sites, sites_at, sites_of_names, sites_of_procedure, uses_of_main}
use Rattle.ppm_regions.proofs.Elements.{contains_head, contains_map, contains_tail}
use Rattle.ppm_regions.proofs.Faultless.{IsFaultless, faultless_left, declares_new}
use Rattle.ppm_regions.proofs.Inputs.{input_fits}
use Rattle.ppm_saved.specs.Names.{AreNames, IsArrayName, lengths_of}
use Rattle.ppm_saved.specs.declared.names.NamedLength.{NamedLength}
use Rattle.ppm_outcomes.specs.Stops.{names_of}

-- bytes that are none of the spellings of rows are spelled by none
not_spelled : {K : Type 0} (bytes : List ℕ) (rows : List (List ℕ × K)) → AllByRecursion (λ w. w ≢ bytes) (map (λ r. r.0) rows) → spelled rows bytes ≡ None
not_spelled bytes [] h = refl
not_spelled {K} bytes (row ∷ rows) h = go (bytes_eq row.0 bytes) (bytes_eq-Decides row.0 bytes) (not_spelled bytes rows h.1)
  where
    go : (same : Bool) → Decides same (row.0 ≡ bytes) → spelled rows bytes ≡ None → cond same (Some row.1) (spelled rows bytes) ≡ None
    go true d next = absurd (h.0 (d.0 refl))
    go false d next = next

-- a name of a tree is no keyword
named : (x : Named) → IsNamed x → IsArrayName x.name
unfolding keyword_of
named x h = record { form = h.form; plain = not_spelled x.name spellings (recursion_from_All (λ w. w ≢ x.name) keywords h.no_keyword) }

named_all : (inputs : List ArrayInput) (arrays : List Array) → AllByRecursion IsArray arrays
    → AllByRecursion (λ (a : NamedLength). IsArrayName a.name) (names_of (map (initial_array inputs) arrays))
named_all inputs [] h = tt
named_all inputs (a ∷ arrays) h = (named a.name h.0.name, named_all inputs arrays h.1)

-- a list has no item of a name, so its last one has another
last_differs : (xs : Scope) (d : Declaration) (x : List ℕ) → first_named (λ (e : Declaration). e.name.name) (xs ++ d ∷ []) x ≡ None
    → bytes_eq d.name.name x ≡ false
last_differs [] d x h = go (bytes_eq d.name.name x) refl
  where
    go : (b : Bool) → bytes_eq d.name.name x ≡ b → bytes_eq d.name.name x ≡ false
    go true e = let found : Some d ≡ None = rw e at h in cc
    go false e = e
last_differs (e ∷ xs) d x h = go (bytes_eq e.name.name x) refl (λ g. last_differs xs d x g)
  where
    go : (b : Bool) → bytes_eq e.name.name x ≡ b
        → (first_named (λ (e : Declaration). e.name.name) (xs ++ d ∷ []) x ≡ None → bytes_eq d.name.name x ≡ false) → bytes_eq d.name.name x ≡ false
    go true f further = let found : Some e ≡ None = rw f at h in cc
    go false f further = further (rw f at h)

-- the declarations of arrays
abbrev declared_by : List Array → List Declaration
declared_by arrays = map (plain mode.Int) (map (λ (a : Array). a.name) arrays)

-- the names that a saved state has for them
abbrev saved_names : List ArrayInput → List Array → List (List ℕ)
saved_names inputs arrays = map (λ (a : NamedLength). a.name) (names_of (map (initial_array inputs) arrays))

module _ (t : ProgramTree) where
  -- after a site there is none with a fault either
  behind_first : (site : Site) (more : List Site) → IsFaultless t (site ∷ more) → IsFaultless t more
  behind_first site more h e f = h e (record { site = f.site; within = contains_tail site f.site more f.within; wrong = f.wrong })

  -- the name of an array is none of those after it
  apart : (s : Scope) (a : Array) (inputs : List ArrayInput) (all arrays : List Array)
      → IsFaultless t (declaration_sites (s ++ plain mode.Int a.name ∷ []) (declared_by all))
      → ((b : Array) → Contains arrays b → Contains all b) → AllByRecursion (λ y. bytes_eq a.name.name y ≡ false) (saved_names inputs arrays)
  apart s a inputs all [] h within = tt
  apart s a inputs all (b ∷ arrays) h within = (
    last_differs s (plain mode.Int a.name) b.name.name
        (declares_new t (s ++ plain mode.Int a.name ∷ []) (declared_by all) h (plain mode.Int b.name)
        (contains_map (plain mode.Int) b.name (map (λ (z : Array). z.name) all)
        (contains_map (λ (z : Array). z.name) b all (within b (contains_head b arrays))))),
    apart s a inputs all arrays h (λ z c. within z (contains_tail b z arrays c)),
  )

  -- no two names are the same
  differ : (s : Scope) (inputs : List ArrayInput) (arrays : List Array) → IsFaultless t (declaration_sites s (declared_by arrays))
      → IsDistinct bytes_eq (saved_names inputs arrays)
  unfolding IsDistinct
  differ s inputs [] h = tt
  differ s inputs (a ∷ arrays) h =
      let free = behind_first _ _ h in
      IsDistinct-cons bytes_eq a.name.name (saved_names inputs arrays) (apart s a inputs arrays arrays free (λ b c. c))
      (differ (s ++ plain mode.Int a.name ∷ []) inputs arrays free)

  module _ (admitted : IsAdmitted t) where
    abbrev array_sites : List Site
    array_sites = sites_of_names (map (λ a. a.name) t.arrays)

    abbrev procedure_sites : List Site
    procedure_sites = sites_of_names (map (λ p. p.name) t.procedures)

    abbrev input_sites : List Site
    input_sites = sites_of_names (map (λ i. i.name) t.inputs)

    abbrev inside : List Site
    inside = flat_map (sites_of_procedure t) t.procedures

    abbrev outside : List Use
    outside = Begins ∷ flat_map uses_of_main t.procedures ++ map Fills t.inputs

    arrays_faultless : IsFaultless t array_sites
    arrays_faultless =
        faultless_left t array_sites procedure_sites (faultless_left t (array_sites ++ procedure_sites) input_sites
        (faultless_left t (array_sites ++ procedure_sites ++ input_sites) inside
        (faultless_left t (array_sites ++ procedure_sites ++ input_sites ++ inside) (sites_at [] outside) admitted.faultless)))

-- arrays have as many words as values
pub lengths_are : (arrays : List NamedArray) → lengths_of (names_of arrays) ≡ map (λ (a : NamedArray). length a.values) arrays
lengths_are [] = refl
lengths_are (a ∷ arrays) = ap (λ ls. length a.values ∷ ls) (lengths_are arrays)

pub as_many : (arrays : List NamedArray) → length (names_of arrays) ≡ length arrays
as_many [] = refl
as_many (a ∷ arrays) = ap suc (as_many arrays)

pub names_are : (t : ProgramTree) → IsWithin t → IsAdmitted t → AreNames (names_of (initial_arrays t))
names_are t within admitted =
    let fits = input_fits t within admitted in
    record {
      most = subst (λ n. n ≤ array_limit) (sym (as_many (initial_arrays t))) fits.arrays_bound;
      names = All-from_recursion (λ (a : NamedLength). IsArrayName a.name) (names_of (initial_arrays t))
          (named_all t.inputs t.arrays (recursion_from_All IsArray t.arrays within.arrays));
      differ = differ t [] t.inputs t.arrays (arrays_faultless t admitted);
      words_most = subst (λ ls. sum ls ≤ word_limit) (sym (lengths_are (initial_arrays t))) fits.values_bound;
    }
