-- The frame with which a run of a program begins: each parameter of `main` is a region with the name of an array, and stands for its whole.
use Rattle.std.proofs.Common.{◌≡◌, ◌≢◌, ◌<◌, ℕ, suc, ◌+◌, cond, Bool, true, false, List, [], ◌∷◌, ◌++◌, Some, None}
use Rattle.std.proofs.Common.{get_or, map, length, codes, refl, sym, ap, ◌∙◌, subst, arith}
use Rattle.std.specs.List.{Contains, flat_map}
use Rattle.std.specs.Str.{bytes_eq}
use Rattle.std.proofs.lemmas.List.Elements.{Contains-append_left, Contains-append_right}
use Rattle.ppm_tree.specs.declared.tree.Array.{Array}
use Rattle.ppm_tree.specs.declared.tree.Parameter.{Parameter}
use Rattle.ppm_tree.specs.Tree.{Procedure, ProgramTree}
use Rattle.ppm_tree.specs.Parts.{gives_of}
use Rattle.ppm_tree.specs.State.{Region, procedure_named}
use Rattle.ppm_tree.specs.Program.{whole_from, main_of}
use Rattle.ppm_regions.specs.Scope.{Declaration, declared, first_named, of_parameter}
use Rattle.ppm_regions.specs.Uses.{Use, Begins, MainTakes, MainGives, Fills, sites_at, sites_of_names, sites_of_procedure, uses_of_main}
use Rattle.ppm_regions.specs.Admission.{IsAdmitted}
use Rattle.ppm_regions.specs.Correct.{Makes, NamesArray}
use Rattle.ppm_regions.proofs.Elements.{contains_head, contains_tail, contains_map}
use Rattle.ppm_regions.proofs.Rules.{rules}
use Rattle.ppm_regions.proofs.ScopeLemmas.{same_names, none_and_some, some_same}
use Rattle.ppm_cut_code.specs.Layout.{slot_of, parameter_layout}
use Rattle.ppm_cut_code.specs.Fits.{Has}
use Rattle.ppm_cut_code.proofs.RegionWords.{lengths_of, region_word}

-- the whole of the array at a place, under a number
abbrev pub whole_array : ℕ → List Array → ℕ → Region
whole_array n arrays i = record { array = n; start = 0; length = get_or (map (λ a. a.words) arrays) i 0 }

-- the whole of an array that has the name
pub whole_at : (k : ℕ) (arrays : List Array) (x : List ℕ) → first_named (λ a. a.name.name) arrays x ≢ None
    → (i : ℕ) × (i < length arrays) × (whole_from k arrays x ≡ whole_array (k + i) arrays i)
whole_at k [] x there = absurd (there refl)
whole_at k (a ∷ arrays) x there = go (bytes_eq a.name.name x) (whole_at (suc k) arrays x) there
  where
    go : (b : Bool) → (first_named (λ a. a.name.name) arrays x ≢ None
        → (i : ℕ) × (i < length arrays) × (whole_from (suc k) arrays x ≡ whole_array (suc k + i) arrays i))
        → cond b (Some a) (first_named (λ a. a.name.name) arrays x) ≢ None
        → (i : ℕ) × (i < suc (length arrays))
        × (cond b (record { array = k; start = 0; length = a.words }) (whole_from (suc k) arrays x) ≡ whole_array (k + i) (a ∷ arrays) i)
    go true rest there =
        let same : k ≡ k + 0 = omega arith in
        (0, omega arith, ap (λ (n : ℕ). whole_array n (a ∷ arrays) 0) same)
    go false rest there =
        let r = rest there in
        let same : suc k + r.0 ≡ k + suc r.0 = omega arith in
        let low : suc r.0 < suc (length arrays) = omega (arith, r.1) in
        (suc r.0, low, r.2 ∙ ap (λ (n : ℕ). whole_array n arrays r.0) same)

-- The root's slots: that of a parameter has the region word of the array with its name.
root_slot : (rs : List ℕ) (arrays : List Array) (ps : List Parameter) (z : List ℕ) → Has (parameter_layout ps) z
    → get_or (map (λ a. get_or rs a 0) (map (λ p. (whole_from 0 arrays p.name.name).array) ps)) (slot_of (parameter_layout ps) z) 0
    ≡ get_or rs (whole_from 0 arrays z).array 0
root_slot rs arrays [] z has = absurd (omega (arith, has))
root_slot rs arrays (p ∷ ps) z has = go (bytes_eq p.name.name z) refl has (root_slot rs arrays ps z)
  where
    go : (b : Bool) → bytes_eq p.name.name z ≡ b → cond b 0 (suc (slot_of (parameter_layout ps) z)) < suc (length (parameter_layout ps))
        → (Has (parameter_layout ps) z
        → get_or (map (λ a. get_or rs a 0) (map (λ p. (whole_from 0 arrays p.name.name).array) ps)) (slot_of (parameter_layout ps) z) 0
        ≡ get_or rs (whole_from 0 arrays z).array 0)
        → get_or (map (λ a. get_or rs a 0) (map (λ p. (whole_from 0 arrays p.name.name).array) (p ∷ ps)))
        (cond b 0 (suc (slot_of (parameter_layout ps) z))) 0 ≡ get_or rs (whole_from 0 arrays z).array 0
    go true e has rest = ap (λ (n : List ℕ). get_or rs (whole_from 0 arrays n).array 0) (same_names p.name.name z e)
    go false e has rest = rest (omega (arith, has))

-- a parameter that is declared is one of them
pub declared_parameter : (ps : List Parameter) (z : List ℕ) (d : Declaration) → declared (map of_parameter ps) z ≡ Some d
    → (p : Parameter) × Contains ps p × (of_parameter p ≡ d) × (p.name.name ≡ z)
declared_parameter [] z d found = absurd (none_and_some refl found)
declared_parameter (p ∷ ps) z d found = go (bytes_eq p.name.name z) refl found (declared_parameter ps z d)
  where
    go : (b : Bool) → bytes_eq p.name.name z ≡ b → cond b (Some (of_parameter p)) (declared (map of_parameter ps) z) ≡ Some d
        → (declared (map of_parameter ps) z ≡ Some d → (p : Parameter) × Contains ps p × (of_parameter p ≡ d) × (p.name.name ≡ z))
        → (q : Parameter) × Contains (p ∷ ps) q × (of_parameter q ≡ d) × (q.name.name ≡ z)
    go true e found rest = (p, contains_head p ps, some_same {o = Some (of_parameter p)} refl found, same_names p.name.name z e)
    go false e found rest = let r = rest found in (r.0, contains_tail p r.0 ps r.1, r.2, r.3)

-- what is asked of a procedure, by whether it is `main`
abbrev uses_if : Procedure → Bool → List Use
uses_if q b = cond b (map MainTakes q.parameters ++ map MainGives (gives_of q.give)) []

-- what is asked of the parameters of `main`
asked_of_main : (procedures : List Procedure) (p : Parameter) → Contains (procedure_named procedures (codes "main")).parameters p
    → Contains (flat_map uses_of_main procedures) (MainTakes p)
asked_of_main [] p c = absurd (omega (arith, c.1))
asked_of_main (q ∷ procedures) p c = go (bytes_eq q.name.name (codes "main")) c (asked_of_main procedures p)
  where
    go : (b : Bool) → Contains (cond b q (procedure_named procedures (codes "main"))).parameters p
        → (Contains (procedure_named procedures (codes "main")).parameters p → Contains (flat_map uses_of_main procedures) (MainTakes p))
        → Contains (uses_if q b ++ flat_map uses_of_main procedures) (MainTakes p)
    go true c rest =
        Contains-append_left (uses_if q true) (flat_map uses_of_main procedures) (MainTakes p)
        (Contains-append_left (map MainTakes q.parameters) (map MainGives (gives_of q.give)) (MainTakes p) (contains_map MainTakes p q.parameters c))
    go false c rest = rest c

module _ (t : ProgramTree) (admitted : IsAdmitted t) where
  -- what is asked of the whole program
  abbrev asked : List Use
  asked = Begins ∷ flat_map uses_of_main t.procedures ++ map Fills t.inputs

  made_of : (u : Use) → Contains asked u → Makes t [] u
  made_of u c =
      let front = sites_of_names (map (λ a. a.name) t.arrays) ++ sites_of_names (map (λ p. p.name) t.procedures)
      ++ sites_of_names (map (λ i. i.name) t.inputs) ++ flat_map (sites_of_procedure t) t.procedures in
      Contains-append_right front (sites_at [] asked) (record { scope = []; made = u })
      (contains_map (λ u. record { scope = []; made = u }) u asked c)

  -- there is a `main`
  pub main_is : first_named (λ p. p.name.name) t.procedures (codes "main") ≢ None
  main_is = (rules t admitted).main [] (made_of Begins (contains_head Begins (flat_map uses_of_main t.procedures ++ map Fills t.inputs)))

  -- each of its parameters is a region with the name of an array
  pub main_names : (p : Parameter) → Contains (main_of t).parameters p → NamesArray t p
  main_names p c =
      let uses = flat_map uses_of_main t.procedures in
      (rules t admitted).parameters [] p (made_of (MainTakes p) (contains_tail Begins (MainTakes p) (uses ++ map Fills t.inputs)
      (Contains-append_left uses (map Fills t.inputs) (MainTakes p) (asked_of_main t.procedures p c))))

  -- Where region words of the program's arrays are given, array by array, the root's slot of a parameter has that of its array.
  module _ (words : List ℕ)
      (begins : (k : ℕ) → k < length t.arrays → get_or words k 0 ≡ region_word (lengths_of t.arrays) (whole_array k t.arrays k)) where
    whole_word : (z : List ℕ) → first_named (λ a. a.name.name) t.arrays z ≢ None
        → get_or words (whole_from 0 t.arrays z).array 0 ≡ region_word (lengths_of t.arrays) (whole_from 0 t.arrays z)
    whole_word z there =
        let w = whole_at 0 t.arrays z there in
        let first : 0 + w.0 ≡ w.0 = omega arith in
        let whole = w.2 ∙ ap (λ (n : ℕ). whole_array n t.arrays w.0) first in
        subst (λ (r : Region). get_or words r.array 0 ≡ region_word (lengths_of t.arrays) r) (sym whole) (begins w.0 w.1)

    pub root_region : (z : List ℕ) (d : Declaration) → declared (map of_parameter (main_of t).parameters) z ≡ Some d
        → Has (parameter_layout (main_of t).parameters) z
        → get_or (map (λ a. get_or words a 0) (map (λ p. (whole_from 0 t.arrays p.name.name).array) (main_of t).parameters))
        (slot_of (parameter_layout (main_of t).parameters) z) 0 ≡ region_word (lengths_of t.arrays) (whole_from 0 t.arrays z)
    root_region z d found has =
        let p = declared_parameter (main_of t).parameters z d found in
        let there = subst (λ (z : List ℕ). first_named (λ a. a.name.name) t.arrays z ≢ None) p.3 (main_names p.0 p.1).found in
        root_slot words t.arrays (main_of t).parameters z has ∙ whole_word z there
