-- The arrays that an admitted program within the limits starts with are named as those of a case.
use Rattle.std.proofs.Common.{◌≡◌, ◌≢◌, ◌<◌, ℕ, Bool, true, false, ◌&&◌, nat_lt, is_none, List, [], ◌∷◌, ◌++◌, Some, None, Option, cond, map, length}
use Rattle.std.proofs.Common.{refl, sym, ap, ◌∙◌, subst}
use Rattle.std.specs.Bool.{Decides}
use Rattle.std.specs.List.{All, AllByRecursion, Contains, IsDistinct, flat_map, list_all}
use Rattle.std.specs.Str.{bytes_eq}
use Rattle.std.specs.Cmp.Derive.{both_true}
use Rattle.std.proofs.lemmas.Bool.{lt-ltb}
use Rattle.std.proofs.lemmas.List.Elements.{All-from_recursion, recursion_from_All}
use Rattle.std.proofs.lemmas.Map.Keys.{IsDistinct-cons}
use Rattle.std.proofs.lemmas.Slice.Eq.{bytes_eq-Decides}
use Rattle.ppm_words.specs.Limits.{name_limit}
use Rattle.ppm_words.specs.Names.{IsName, is_letter, is_name_byte}
use Rattle.ppm_words.specs.declared.named_array.NamedArray.{NamedArray}
use Rattle.ppm_text.specs.Spelling.{spelled, keyword_of, keywords as spellings}
use Rattle.ppm_tree.specs.declared.mode.Mode.TheVariants as mode
use Rattle.ppm_tree.specs.declared.named.Named.{Named}
use Rattle.ppm_tree.specs.declared.tree.Array.{Array}
use Rattle.ppm_tree.specs.declared.tree.ArrayInput.{ArrayInput}
use Rattle.ppm_tree.specs.Tree.{ProgramTree}
use Rattle.ppm_tree.specs.Limits.{IsNamed, IsArray, IsWithin, keywords}
use Rattle.ppm_tree.specs.Program.{initial_array, initial_arrays}
use Rattle.ppm_regions.specs.Admission.{IsAdmitted}
use Rattle.ppm_regions.specs.Scope.{Declaration, Scope, first_named, plain}
use Rattle.ppm_regions.specs.Uses.{Begins, Fills, Site, Use, declaration_sites, sites_at, sites_of_names, sites_of_procedure, uses_of_main}
use Rattle.ppm_regions.proofs.Elements.{contains_head, contains_map, contains_tail}
use Rattle.ppm_regions.proofs.Faultless.{IsFaultless, faultless_left, declares_new}
use Rattle.ppm_case.specs.Spelling.{is_name, is_array_name}

-- bytes that are none of the spellings of rows are spelled by none
not_spelled : {K : Type 0} (bytes : List ℕ) (rows : List (List ℕ × K)) → AllByRecursion (λ w. w ≢ bytes) (map (λ r. r.0) rows) → spelled rows bytes ≡ None
not_spelled bytes [] h = refl
not_spelled {K} bytes (row ∷ rows) h = go (bytes_eq row.0 bytes) (bytes_eq-Decides row.0 bytes) (not_spelled bytes rows h.1)
  where
    go : (same : Bool) → Decides same (row.0 ≡ bytes) → spelled rows bytes ≡ None → cond same (Some row.1) (spelled rows bytes) ≡ None
    go true d next = absurd (h.0 (d.0 refl))
    go false d next = next

-- a name of a tree is no keyword
no_keyword : (x : Named) → IsNamed x → keyword_of x.name ≡ None
unfolding keyword_of
no_keyword x h = not_spelled x.name spellings (recursion_from_All (λ w. w ≢ x.name) keywords h.no_keyword)

all_bytes : (bs : List ℕ) → AllByRecursion (λ c. is_name_byte c ≡ true) bs → list_all is_name_byte bs ≡ true
all_bytes [] h = refl
all_bytes (b ∷ bs) h = both_true h.0 (all_bytes bs h.1)

name_from : (name : List ℕ) → IsName name → is_name name ≡ true
name_from [] h = absurd h
name_from (b ∷ bs) h =
    both_true h.0 (both_true (all_bytes bs (recursion_from_All (λ c. is_name_byte c ≡ true) bs h.1)) (lt-ltb (length bs) name_limit h.2))

-- the name of an array may be that of a case's
named : (x : Named) → IsNamed x → is_array_name x.name ≡ true
named x h = both_true (name_from x.name h.form) (ap (λ (o : Option _). is_none o) (no_keyword x h))

named_all : (inputs : List ArrayInput) (arrays : List Array) → AllByRecursion IsArray arrays
    → AllByRecursion (λ (a : NamedArray). is_array_name a.name ≡ true) (map (initial_array inputs) arrays)
named_all inputs [] h = tt
named_all inputs (a ∷ arrays) h = (named a.name h.0.name, named_all inputs arrays h.1)

-- a list has no item of a name, so its last one has another
last_differs : (xs : Scope) (d : Declaration) (x : List ℕ) → first_named (λ (e : Declaration). e.name.name) (xs ++ d ∷ []) x ≡ None
    → bytes_eq d.name.name x ≡ false
last_differs [] d x h = go (bytes_eq d.name.name x) refl
  where
    go : (b : Bool) → bytes_eq d.name.name x ≡ b → bytes_eq d.name.name x ≡ false
    go true e = let found : Some d ≡ None = rw e at h in cc
    go false e = e
last_differs (e ∷ xs) d x h = go (bytes_eq e.name.name x) refl (λ g. last_differs xs d x g)
  where
    go : (b : Bool) → bytes_eq e.name.name x ≡ b
        → (first_named (λ (e : Declaration). e.name.name) (xs ++ d ∷ []) x ≡ None → bytes_eq d.name.name x ≡ false) → bytes_eq d.name.name x ≡ false
    go true f further = let found : Some e ≡ None = rw f at h in cc
    go false f further = further (rw f at h)

-- the declarations of arrays
abbrev declared_by : List Array → List Declaration
declared_by arrays = map (plain mode.Int) (map (λ (a : Array). a.name) arrays)

-- their names, as arrays start with them
abbrev names_by : List ArrayInput → List Array → List (List ℕ)
names_by inputs arrays = map (λ (a : NamedArray). a.name) (map (initial_array inputs) arrays)

module _ (t : ProgramTree) where
  -- after a site there is none with a fault either
  behind_first : (site : Site) (more : List Site) → IsFaultless t (site ∷ more) → IsFaultless t more
  behind_first site more h e f = h e (record { site = f.site; within = contains_tail site f.site more f.within; wrong = f.wrong })

  -- the name of an array is none of those after it
  apart : (s : Scope) (a : Array) (inputs : List ArrayInput) (all arrays : List Array)
      → IsFaultless t (declaration_sites (s ++ plain mode.Int a.name ∷ []) (declared_by all))
      → ((b : Array) → Contains arrays b → Contains all b) → AllByRecursion (λ y. bytes_eq a.name.name y ≡ false) (names_by inputs arrays)
  apart s a inputs all [] h within = tt
  apart s a inputs all (b ∷ arrays) h within = (
    last_differs s (plain mode.Int a.name) b.name.name
        (declares_new t (s ++ plain mode.Int a.name ∷ []) (declared_by all) h (plain mode.Int b.name)
        (contains_map (plain mode.Int) b.name (map (λ (z : Array). z.name) all)
        (contains_map (λ (z : Array). z.name) b all (within b (contains_head b arrays))))),
    apart s a inputs all arrays h (λ z c. within z (contains_tail b z arrays c)),
  )

  -- no two names are the same
  differ : (s : Scope) (inputs : List ArrayInput) (arrays : List Array) → IsFaultless t (declaration_sites s (declared_by arrays))
      → IsDistinct bytes_eq (names_by inputs arrays)
  unfolding IsDistinct
  differ s inputs [] h = tt
  differ s inputs (a ∷ arrays) h =
      let free = behind_first _ _ h in
      IsDistinct-cons bytes_eq a.name.name (names_by inputs arrays) (apart s a inputs arrays arrays free (λ b c. c))
      (differ (s ++ plain mode.Int a.name ∷ []) inputs arrays free)

  module _ (admitted : IsAdmitted t) where
    abbrev array_sites : List Site
    array_sites = sites_of_names (map (λ a. a.name) t.arrays)

    abbrev procedure_sites : List Site
    procedure_sites = sites_of_names (map (λ p. p.name) t.procedures)

    abbrev input_sites : List Site
    input_sites = sites_of_names (map (λ i. i.name) t.inputs)

    abbrev inside : List Site
    inside = flat_map (sites_of_procedure t) t.procedures

    abbrev outside : List Use
    outside = Begins ∷ flat_map uses_of_main t.procedures ++ map Fills t.inputs

    arrays_faultless : IsFaultless t array_sites
    arrays_faultless =
        faultless_left t array_sites procedure_sites (faultless_left t (array_sites ++ procedure_sites) input_sites
        (faultless_left t (array_sites ++ procedure_sites ++ input_sites) inside
        (faultless_left t (array_sites ++ procedure_sites ++ input_sites ++ inside) (sites_at [] outside) admitted.faultless)))

-- each array that a program starts with has the name of one
pub names_fit : (t : ProgramTree) → IsWithin t → All (λ (a : NamedArray). is_array_name a.name ≡ true) (initial_arrays t)
names_fit t within = All-from_recursion (λ (a : NamedArray). is_array_name a.name ≡ true) (initial_arrays t)
    (named_all t.inputs t.arrays (recursion_from_All IsArray t.arrays within.arrays))

-- and no two have the same
pub names_differ : (t : ProgramTree) → IsAdmitted t → IsDistinct bytes_eq (map (λ (a : NamedArray). a.name) (initial_arrays t))
names_differ t admitted = differ t [] t.inputs t.arrays (arrays_faultless t admitted)
