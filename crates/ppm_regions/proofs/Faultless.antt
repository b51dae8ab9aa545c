-- What an admitted program keeps: names are declared, of the right kind, and once; each use has none of the faults.
use Rattle.std.proofs.Common.{◌≡◌, ◌≢◌, ◌<◌, ◌≤◌, inl, inr, ℕ, zero, suc, Bool, true, false, List, [], ◌∷◌, ◌++◌, Option, Some, None, map, length, refl, sym, ap, subst, ◌∙◌, arith}
use Rattle.std.specs.Str.{bytes_eq}
use Rattle.std.specs.List.{Contains, flat_map}
use Rattle.std.proofs.lemmas.Bool.{cases_lt}
use Rattle.std.proofs.lemmas.List.Elements.{Contains-append_left, Contains-append_right}
use Rattle.ppm_tree.specs.declared.mode.Mode.TheVariants as mode
use Rattle.ppm_tree.specs.declared.named.Named.{Named}
use Rattle.ppm_tree.specs.declared.tree.Array.{Array}
use Rattle.ppm_tree.specs.declared.tree.ArrayInput.{ArrayInput}
use Rattle.ppm_tree.specs.Tree.{ProgramTree}
use Rattle.ppm_regions.specs.declared.region_error.RegionError.{RegionError}
use Rattle.ppm_regions.specs.declared.region_error.RegionError.TheVariants as error
use Rattle.ppm_regions.specs.Scope.{Declaration, Scope, first_named, declared, plain}
use Rattle.ppm_regions.specs.Uses.{Use, Declares, Fills, Begins, Site, sites_at, declaration_sites, sites_of_names, sites_of_procedure, uses_of_main, sites_of}
use Rattle.ppm_regions.specs.Faults.{IsWrong, HasFault, array_named}
use Rattle.ppm_regions.specs.Faults as fault
use Rattle.ppm_regions.specs.Admission.{IsAdmitted}
use Rattle.ppm_regions.specs.Deciding.{IsLeast}
use Rattle.ppm_regions.proofs.Elements.{contains_map, contains_head, contains_tail, contains_cases}
use Rattle.ppm_regions.proofs.Names.{bytes_same, same_bytes, bytes_other, found_head, found_later}

-- no site of a list has a fault
abbrev pub IsFaultless : ProgramTree → List Site → Type 0
IsFaultless t sites = (e : RegionError) → ¬ HasFault t sites e

none_and_some : {A : Type 0} {o : Option A} {x : A} → o ≡ None → o ≡ Some x → ⊥
none_and_some p q = cc

module _ (t : ProgramTree) where
  pub faultless_left : (xs ys : List Site) → IsFaultless t (xs ++ ys) → IsFaultless t xs
  faultless_left xs ys h e f = h e (record { site = f.site; within = Contains-append_left xs ys f.site f.within; wrong = f.wrong })

  pub faultless_right : (xs ys : List Site) → IsFaultless t (xs ++ ys) → IsFaultless t ys
  faultless_right xs ys h e f = h e (record { site = f.site; within = Contains-append_right xs ys f.site f.within; wrong = f.wrong })

  -- a site of a list without a fault has none
  pub right_at : (sites : List Site) → IsFaultless t sites → (site : Site) → Contains sites site → (e : RegionError) → ¬ IsWrong t site.scope site.made e
  right_at sites h site c e w = h e (record { site = site; within = c; wrong = w })

  -- a name that a longer list has not is not in its front
  not_before : {A : Type 0} (name_of : A → List ℕ) (xs ys : List A) (x : List ℕ) → first_named name_of (xs ++ ys) x ≡ None → first_named name_of xs x ≡ None
  not_before name_of [] ys x h = refl
  not_before name_of (i ∷ xs) ys x h = go (bytes_eq (name_of i) x) refl (not_before name_of xs ys x)
    where
      go : (b : Bool) → bytes_eq (name_of i) x ≡ b → (first_named name_of (xs ++ ys) x ≡ None → first_named name_of xs x ≡ None)
          → first_named name_of (i ∷ xs) x ≡ None
      go true e further = absurd (none_and_some h (found_head name_of x i (xs ++ ys) (same_bytes (name_of i) x e)))
      go false e further = rw e (further (rw e at h))

  -- and is not at its end
  not_last : {A : Type 0} (name_of : A → List ℕ) (xs : List A) (i : A) (x : List ℕ) → first_named name_of (xs ++ i ∷ []) x ≡ None → name_of i ≡ x → ⊥
  not_last name_of [] i x h e = none_and_some h (found_head name_of x i [] e)
  not_last name_of (j ∷ xs) i x h e = go (bytes_eq (name_of j) x) refl (λ g. not_last name_of xs i x g e)
    where
      go : (b : Bool) → bytes_eq (name_of j) x ≡ b → (first_named name_of (xs ++ i ∷ []) x ≡ None → ⊥) → ⊥
      go true f further = none_and_some h (found_head name_of x j (xs ++ i ∷ []) (same_bytes (name_of j) x f))
      go false f further = further (rw f at h)

  -- the name of a declaration without a fault is new
  new_here : (s : Scope) (d : Declaration) (more : List Site) → IsFaultless t (record { scope = s; made = Declares d.name } ∷ more) → declared s d.name.name ≡ None
  new_here s d more h = go (declared s d.name.name) refl
    where
      go : (o : Option Declaration) → declared s d.name.name ≡ o → declared s d.name.name ≡ None
      go None e = e
      go (Some f) e =
          absurd (right_at (record { scope = s; made = Declares d.name } ∷ more) h (record { scope = s; made = Declares d.name }) (contains_head _ more)
          (error.TwiceNamed d.name.line) (fault.TwiceNamed d.name f e))

  behind_first : (site : Site) (more : List Site) → IsFaultless t (site ∷ more) → IsFaultless t more
  behind_first site more h e f = h e (record { site = f.site; within = contains_tail site f.site more f.within; wrong = f.wrong })

  -- what is declared without a fault has a name that is not in force before it
  pub declares_new : (s : Scope) (ds : List Declaration) → IsFaultless t (declaration_sites s ds) → (d : Declaration) → Contains ds d → declared s d.name.name ≡ None
  declares_new s [] h d c = absurd (omega (arith, c.1))
  declares_new s (e ∷ ds) h d c =
      contains_cases (declared s d.name.name ≡ None) e d ds
      (λ same. subst (λ (z : Declaration). declared s z.name.name ≡ None) same (new_here s e (declaration_sites (s ++ e ∷ []) ds) h))
      (λ later. not_before (λ z. z.name.name) s (e ∷ []) d.name.name (declares_new (s ++ e ∷ []) ds (behind_first _ _ h) d later)) c

  -- each array is the first of its name
  own_name : (s : Scope) (arrays : List Array) → IsFaultless t (declaration_sites s (map (plain mode.Int) (map (λ a. a.name) arrays)))
      → (a : Array) → Contains arrays a → first_named (λ b. b.name.name) arrays a.name.name ≡ Some a
  own_name s [] h a c = absurd (omega (arith, c.1))
  own_name s (b ∷ arrays) h a c =
      contains_cases (first_named (λ z. z.name.name) (b ∷ arrays) a.name.name ≡ Some a) b a arrays
      (λ same. found_head (λ z. z.name.name) a.name.name b arrays (ap (λ (z : Array). z.name.name) same) ∙ ap Some same)
      (λ later.
      let declarations = map (plain mode.Int) (map (λ z. z.name) arrays) in
      let free = behind_first _ _ h in
      let there = contains_map (plain mode.Int) a.name (map (λ z. z.name) arrays) (contains_map (λ z. z.name) a arrays later) in
      let new = declares_new (s ++ plain mode.Int b.name ∷ []) declarations free (plain mode.Int a.name) there in
      found_later (λ z. z.name.name) a.name.name b arrays (not_last (λ z. z.name.name) s (plain mode.Int b.name) a.name.name new)
      ∙ own_name (s ++ plain mode.Int b.name ∷ []) arrays free a later) c

  module _ (admitted : IsAdmitted t) where
    abbrev array_sites : List Site
    array_sites = sites_of_names (map (λ a. a.name) t.arrays)

    abbrev procedure_sites : List Site
    procedure_sites = sites_of_names (map (λ p. p.name) t.procedures)

    abbrev input_sites : List Site
    input_sites = sites_of_names (map (λ i. i.name) t.inputs)

    abbrev inside : List Site
    inside = flat_map (sites_of_procedure t) t.procedures

    abbrev outside : List Use
    outside = Begins ∷ flat_map uses_of_main t.procedures ++ map Fills t.inputs

    -- each array is the first of its name
    pub array_is_its_own : (a : Array) → Contains t.arrays a → array_named t a.name ≡ Some a
    array_is_its_own =
        own_name [] t.arrays
        (faultless_left array_sites procedure_sites (faultless_left (array_sites ++ procedure_sites) input_sites
        (faultless_left (array_sites ++ procedure_sites ++ input_sites) inside
        (faultless_left (array_sites ++ procedure_sites ++ input_sites ++ inside) (sites_at [] outside) admitted.faultless))))

    -- an input's values fit in its array
    pub fits_its_array : (i : ArrayInput) → Contains t.inputs i → (a : Array) → array_named t i.name ≡ Some a → length i.values ≤ a.words
    fits_its_array i c a is =
        elim (cases_lt a.words (length i.values)) [
          | inl past ↦ absurd (right_at (sites_at [] outside)
              (faultless_right (array_sites ++ procedure_sites ++ input_sites ++ inside) (sites_at [] outside) admitted.faultless)
              (record { scope = []; made = Fills i })
              (contains_map (λ u. record { scope = []; made = u }) (Fills i) outside
              (Contains-append_right (Begins ∷ flat_map uses_of_main t.procedures) (map Fills t.inputs) (Fills i) (contains_map Fills i t.inputs c)))
              (error.BadInput i.name.line) (fault.TooManyValues i a is past))
          | inr fits ↦ fits
        ]

-- where the search finds no fault there is none
pub admitted_where_none : (t : ProgramTree) (found : Option RegionError) → IsLeast t (sites_of t) found → ((e : RegionError) → found ≡ Some e → ⊥) → IsAdmitted t
admitted_where_none t None least none = record { faultless = least.none refl }
admitted_where_none t (Some e) least none = absurd (none e refl)
