-- The code of an admitted program within its limits and bounds keeps all rules of a code.
use Rattle.std.proofs.Common.{◌≡◌, ◌≢◌, ◌≤◌, ◌<◌, ◌+◌, cond, Bool, true, false, ℕ, zero, suc, List, [], ◌∷◌, ◌++◌, Option, Some, None, IfSome}
use Rattle.std.proofs.Common.{length, map, slice_get, codes, refl, sym, ap, ◌∙◌, subst, arith, inl, inr, eq-or-lt_of_le}
use Rattle.std.specs.Str.{bytes_eq}
use Rattle.std.specs.List.{All, AllByRecursion, Contains, flat_map}
use Rattle.std.proofs.lemmas.List.{length-map}
use Rattle.std.proofs.lemmas.List.Elements.{All-head, All-weaker, All-from_recursion, recursion_from_All, All-contains_itself, Contains-push}
use Rattle.ppm_code.specs.declared.code.Procedure.{Procedure as CodeProcedure}
use Rattle.ppm_code.specs.declared.code.Capsule.{Capsule}
use Rattle.ppm_code.specs.declared.code.CodeParts.{CodeParts}
use Rattle.ppm_code.specs.Code.{IsProcedure, IsCapsule, IsCapsuleOf, IsCode}
use Rattle.ppm_code.specs.Sizes.{slots_of, slots_in}
use Rattle.ppm_words.specs.Limits.{array_limit}
use Rattle.ppm_tree.specs.declared.mode.Mode.TheVariants as mode
use Rattle.ppm_tree.specs.declared.tree.Array.{Array}
use Rattle.ppm_tree.specs.declared.tree.Parameter.{Parameter}
use Rattle.ppm_tree.specs.Tree.{Give, Procedure, ProgramTree}
use Rattle.ppm_tree.specs.Parts.{gives_of}
use Rattle.ppm_tree.specs.State.{procedure_named}
use Rattle.ppm_tree.specs.Program.{main_of, whole_from}
use Rattle.ppm_tree.specs.Limits.{IsWithin, IsSmall, IsSmallStatement, IsSmallGive}
use Rattle.ppm_cut_bounds.specs.Bounds.{IsWithinBounds}
use Rattle.ppm_cut_bounds.proofs.Keeping.{all-append}
use Rattle.ppm_regions.specs.Scope.{Scope, first_named, plain, scope_of, scope_behind}
use Rattle.ppm_regions.specs.Uses.{Use, Fills, Begins, Site, sites_at, declaration_sites, sites_of_names, sites_of_procedure, uses_of_main}
use Rattle.ppm_regions.specs.Admission.{IsAdmitted}
use Rattle.ppm_regions.proofs.Elements.{contains_map, contains_cases}
use Rattle.ppm_regions.proofs.Names.{found_head, found_later, not_among}
use Rattle.ppm_regions.proofs.Faultless.{IsFaultless, faultless_left, faultless_right, declares_new}
use Rattle.ppm_cut_code.specs.Layout.{Layout, parameter_layout}
use Rattle.ppm_cut_code.specs.Numbers.{end_of, element_block}
use Rattle.ppm_cut_code.specs.Slots.{named_slots, hidden_named_slots, hidden_slots}
use Rattle.ppm_cut_code.specs.Statements.{Instrs, Gives, number_of, halving_code}
use Rattle.ppm_cut_code.specs.Routines.{Routine, OfText, Hidden, sweep_layout, routine_slots, routine_behind}
use Rattle.ppm_cut_code.specs.Routines.{routines_of, procedures_from, routine_code, capsules_from, code_of}
use Rattle.ppm_cut_code.specs.Fits.{FitsGive, FitsProcedure, layout_behind}
use Rattle.ppm_cut_code.specs.Correct.{NamesHaveSlots, KeepsTheRules}
use Rattle.ppm_cut_code.proofs.MainLemmas.{main_is}
use Rattle.ppm_cut_code.proofs.PlaceLemmas.{past, past_map, routine_past, of_procedure, found_there, Listed, listed, listed_first}
use Rattle.ppm_cut_code.proofs.PlaceLemmas.{listed_second, Stands, stands_listed, ArePlaced, routines_placed, procedures_have}
use Rattle.ppm_cut_code.proofs.SizeLemmas.{procedures_count, procedures_at_least, capsules_count}
use Rattle.ppm_cut_code.proofs.SoundLemmas.{IsSoundRoutine, AreSound, all_sound, routine_few, most_slots}
use Rattle.ppm_cut_code.proofs.RuleLemmas.{IsKnown, LastFits, block_keeps, entry_keeps, halving_keeps, finish_keeps, end_grows}

-- capsules that stand in a row are those of their procedure
module _ (procedures : List Procedure) (code : CodeParts) where
  capsule_of : (q n : ℕ) (is : Instrs) → slice_get code.capsules n ≡ Some (of_procedure q is) → IsCapsuleOf code q n
  capsule_of q n is h = (subst (λ (o : Option Capsule). IfSome o (λ c. c.procedure ≡ q)) (sym h) refl, found_there code.capsules n h)

  stands_own : (q at : ℕ) (xs : List Instrs) → Stands procedures code q at xs → (n : ℕ) → at ≤ n → n < past xs at → IsCapsuleOf code q n
  stands_own q at [] h n low high = absurd (omega (arith, low, high))
  stands_own q at (x ∷ xs) h n low high = elim (eq-or-lt_of_le low) [
    | inl same ↦ capsule_of q n x (subst (λ (k : ℕ). slice_get code.capsules k ≡ Some (of_procedure q x)) same h.0)
    | inr more ↦ stands_own q (suc at) xs h.1 n (omega (arith, more)) high
  ]

  routine_own : (q at : ℕ) (r : Routine) → Stands procedures code q at (routine_code procedures at r) → (n : ℕ) → at ≤ n → n < routine_behind r at
      → IsCapsuleOf code q n
  routine_own q at r h n low high =
      let e = routine_past procedures at r in stands_own q at (routine_code procedures at r) h n low (omega (arith, high, e))

  behind_grows : (r : Routine) (at : ℕ) → at < routine_behind r at
  behind_grows (OfText p h) at = let g = end_grows p.body at in omega (arith, g)
  behind_grows (Hidden s) at = let g = end_grows s.block (element_block at) in omega (arith, g)

  -- the capsules of the list are listed, with those of its first procedure in front
  first_listed : (q at : ℕ) (r : Routine) (rs : List Routine) → Listed procedures code at (capsules_from procedures q at (r ∷ rs))
      → Stands procedures code q at (routine_code procedures at r)
  first_listed q at r rs h =
      stands_listed procedures code q at (routine_code procedures at r)
      (listed_first procedures code (map (of_procedure q) (routine_code procedures at r))
      (capsules_from procedures (suc q) (routine_behind r at) rs) at h)

  later_listed : (q at : ℕ) (r : Routine) (rs : List Routine) → Listed procedures code at (capsules_from procedures q at (r ∷ rs))
      → Listed procedures code (routine_behind r at) (capsules_from procedures (suc q) (routine_behind r at) rs)
  later_listed q at r rs h =
      subst (λ (k : ℕ). Listed procedures code k (capsules_from procedures (suc q) (routine_behind r at) rs))
      (past_map (of_procedure q) (routine_code procedures at r) at ∙ routine_past procedures at r)
      (listed_second procedures code (map (of_procedure q) (routine_code procedures at r))
      (capsules_from procedures (suc q) (routine_behind r at) rs) at h)

  -- each procedure is entered at a capsule of its own
  entries_own : (rs : List Routine) (q at : ℕ) → Listed procedures code at (capsules_from procedures q at rs) → (n : ℕ)
      → IfSome (slice_get (procedures_from at rs) n) (λ p. IsCapsuleOf code (n + q) p.entry)
  entries_own [] q at h n = tt
  entries_own (r ∷ rs) q at h zero =
      let e : q ≡ 0 + q = omega arith in
      let grows = behind_grows r at in
      subst (λ (k : ℕ). IsCapsuleOf code k at) e (routine_own q at r (first_listed q at r rs h) at (omega arith) grows)
  entries_own (r ∷ rs) q at h (suc n) =
      let e : n + suc q ≡ suc n + q = omega arith in
      subst (λ (k : ℕ). IfSome (slice_get (procedures_from (routine_behind r at) rs) n) (λ p. IsCapsuleOf code k p.entry)) e
      (entries_own rs (suc q) (routine_behind r at) (later_listed q at r rs h) n)

  slots_few : (rs : List Routine) (q at : ℕ) → AreSound procedures code q rs → AllByRecursion (λ p. p.slots ≤ most_slots) (procedures_from at rs)
  slots_few [] q at s = tt
  slots_few (r ∷ rs) q at s = (routine_few procedures code q r s.0, slots_few rs (suc q) (routine_behind r at) s.1)

  few_at : (ps : List CodeProcedure) (q : ℕ) → AllByRecursion (λ p. p.slots ≤ most_slots) ps → slots_in (slice_get ps q) ≤ most_slots
  few_at [] q h = omega arith
  few_at (p ∷ ps) zero h = h.0
  few_at (p ∷ ps) (suc q) h = few_at ps q h.1

  module _ (known : IsKnown procedures code) where
    give_fits : (q spare low high : ℕ) (there : IsProcedure code q) (own : (n : ℕ) → low ≤ n → n < high
        → IsCapsuleOf code q n) (scope : Scope) (layout : Layout)
        (g : Option Give) → FitsGive procedures scope layout g → All IsSmallGive (gives_of g)
        → LastFits procedures code known q spare low high there own scope layout (Gives g)
    give_fits q spare low high there own scope layout None f small = tt
    give_fits q spare low high there own scope layout (Some g) f small = (f, All-head IsSmallGive g [] small)

    -- the capsules of a procedure
    routine_keeps : (q at : ℕ) (r : Routine) → IsProcedure code q → slots_of code q ≡ routine_slots r → IsSoundRoutine procedures code q r
        → ((n : ℕ) → at ≤ n → n < routine_behind r at → IsCapsuleOf code q n)
        → AllByRecursion (λ is. IsCapsule code (of_procedure q is)) (routine_code procedures at r)
    routine_keeps q at (OfText p h) there slots s own =
        let spare = named_slots p in
        let layout = parameter_layout p.parameters in
        let long = length-map p.parameters (λ z. z.name.name) in
        let high = suc (end_of p.body at) in
        block_keeps procedures code known q spare at high there own (scope_of p) layout at h (Gives p.give) p.body s.fits.body
        (recursion_from_All IsSmallStatement _ s.small.statements) s.placed (omega arith) (omega arith) (omega (arith, long)) (omega (arith, slots))
        (give_fits q spare at high there own (scope_behind (scope_of p) p.body) (layout_behind layout p.body) p.give s.fits.give s.small.give)
    routine_keeps q at (Hidden s) there slots sound own =
        let count = length s.names in
        let spare = hidden_named_slots count s.block in
        let high = suc (end_of s.block (element_block at)) in
        let grows = end_grows s.block (element_block at) in
        let on = sound.block in (
          entry_keeps procedures code known q spare at high there own at (omega (arith, slots)) (own (suc at) (omega arith) (omega (arith, grows)))
              (own (element_block at) (omega arith) (omega (arith, grows))),
          (
            subst (λ (k : ℕ). IsCapsule code (of_procedure q (halving_code at k (hidden_slots count s.block) count s.line))) sound.number
                (halving_keeps procedures code known q spare at high there own at (hidden_slots count s.block) count s.line slots
                (omega arith) sound.line
                (own (suc (suc at)) (omega arith) (omega (arith, grows)))),
            (
              finish_keeps procedures code known q spare at high there own,
              block_keeps procedures code known q spare at high there own on.scope (sweep_layout s) (element_block at) (suc s.number)
                  (Gives None) s.block
                  on.fits on.small on.placed (omega arith) (omega arith) (omega arith) (omega (arith, slots)) tt,
            ),
          ),
        )

    all_mapped : (q : ℕ) (xs : List Instrs) → AllByRecursion (λ is. IsCapsule code (of_procedure q is)) xs
        → AllByRecursion (IsCapsule code) (map (of_procedure q) xs)
    all_mapped q [] h = tt
    all_mapped q (x ∷ xs) h = (h.0, all_mapped q xs h.1)

    -- and of all procedures
    all_keep : (rs : List Routine) (q at : ℕ) → AreSound procedures code q rs → ArePlaced procedures code q rs
        → Listed procedures code at (capsules_from procedures q at rs) → AllByRecursion (IsCapsule code) (capsules_from procedures q at rs)
    all_keep [] q at s p h = tt
    all_keep (r ∷ rs) q at s p h =
        let own = routine_code procedures at r in
        let more = capsules_from procedures (suc q) (routine_behind r at) rs in
        all-append (IsCapsule code) (map (of_procedure q) own) more
        (all_mapped q own (routine_keeps q at r p.0.there p.0.slots s.0 (routine_own q at r (first_listed q at r rs h))))
        (all_keep rs (suc q) (routine_behind r at) s.1 p.1 (later_listed q at r rs h))

-- the regions of `main` are in arrays that are there
whole_below : (k : ℕ) (arrays : List Array) (x : List ℕ) → k + length arrays ≤ array_limit → (whole_from k arrays x).array < array_limit
whole_below k [] x h = omega arith
whole_below k (a ∷ arrays) x h = go (bytes_eq a.name.name x) (whole_below (suc k) arrays x (omega (arith, h)))
  where
    go : (b : Bool) → (whole_from (suc k) arrays x).array < array_limit
        → (cond b (record { array = k; start = 0; length = a.words }) (whole_from (suc k) arrays x)).array < array_limit
    go true rest = omega (arith, h)
    go false rest = rest

wholes_below : (arrays : List Array) (ps : List Parameter) → length arrays ≤ array_limit
    → AllByRecursion (λ a. a < array_limit) (map (λ p. (whole_from 0 arrays p.name.name).array) ps)
wholes_below arrays [] h = tt
wholes_below arrays (p ∷ ps) h = (whole_below 0 arrays p.name.name (omega (arith, h)), wholes_below arrays ps h)

-- a procedure that is found is one of the list, under its number
number_low : (ps : List Procedure) (x : List ℕ) → first_named (λ p. p.name.name) ps x ≢ None → number_of ps x < length ps
number_low [] x found = absurd (found refl)
number_low (p ∷ ps) x found = go (bytes_eq p.name.name x) (number_low ps x) found
  where
    go : (b : Bool) → (first_named (λ p. p.name.name) ps x ≢ None → number_of ps x < length ps)
        → cond b (Some p) (first_named (λ p. p.name.name) ps x) ≢ None → cond b 0 (suc (number_of ps x)) < suc (length ps)
    go true rest found = omega arith
    go false rest found = let h = rest found in omega (arith, h)

named_is : (ps : List Procedure) (x : List ℕ) (p : Procedure) → first_named (λ p. p.name.name) ps x ≡ Some p → procedure_named ps x ≡ p
named_is [] x p h = absurd (cc)
named_is (r ∷ ps) x p h = go (bytes_eq r.name.name x) (named_is ps x p) h
  where
    go : (b : Bool) → (first_named (λ p. p.name.name) ps x ≡ Some p → procedure_named ps x ≡ p)
        → cond b (Some r) (first_named (λ p. p.name.name) ps x) ≡ Some p → cond b r (procedure_named ps x) ≡ p
    go true rest h = cc
    go false rest h = rest h

module _ (t : ProgramTree) (admitted : IsAdmitted t) where
  abbrev array_sites : List Site
  array_sites = sites_of_names (map (λ a. a.name) t.arrays)

  abbrev procedure_sites : List Site
  procedure_sites = sites_of_names (map (λ p. p.name) t.procedures)

  abbrev input_sites : List Site
  input_sites = sites_of_names (map (λ i. i.name) t.inputs)

  abbrev inside : List Site
  inside = flat_map (sites_of_procedure t) t.procedures

  abbrev outside : List Use
  outside = Begins ∷ flat_map uses_of_main t.procedures ++ map Fills t.inputs

  behind_first : (site : Site) (more : List Site) → IsFaultless t (site ∷ more) → IsFaultless t more
  behind_first site more h = faultless_right t (site ∷ []) more h

  -- each procedure is the first of its name
  own_name : (s : Scope) (ps : List Procedure) → IsFaultless t (declaration_sites s (map (plain mode.Int) (map (λ p. p.name) ps)))
      → (p : Procedure) → Contains ps p → first_named (λ r. r.name.name) ps p.name.name ≡ Some p
  own_name s [] h p c = absurd (omega (arith, c.1))
  own_name s (r ∷ ps) h p c =
      contains_cases (first_named (λ z. z.name.name) (r ∷ ps) p.name.name ≡ Some p) r p ps
      (λ same. found_head (λ z. z.name.name) p.name.name r ps (ap (λ (z : Procedure). z.name.name) same) ∙ ap Some same)
      (λ later.
      let declarations = map (plain mode.Int) (map (λ z. z.name) ps) in
      let free = behind_first _ _ h in
      let there = contains_map (plain mode.Int) p.name (map (λ z. z.name) ps) (contains_map (λ z. z.name) p ps later) in
      let new = declares_new t (s ++ plain mode.Int r.name ∷ []) declarations free (plain mode.Int p.name) there in
      let own = plain mode.Int r.name in
      let apart = not_among (λ z. z.name.name) (s ++ own ∷ []) p.name.name new own (Contains-push s own) in
      found_later (λ z. z.name.name) p.name.name r ps apart ∙ own_name (s ++ plain mode.Int r.name ∷ []) ps free p later) c

  procedure_own : (p : Procedure) → Contains t.procedures p → procedure_named t.procedures p.name.name ≡ p
  procedure_own p c =
      named_is t.procedures p.name.name p (own_name [] t.procedures
      (faultless_right t array_sites procedure_sites (faultless_left t (array_sites ++ procedure_sites) input_sites
      (faultless_left t (array_sites ++ procedure_sites ++ input_sites) inside
      (faultless_left t (array_sites ++ procedure_sites ++ input_sites ++ inside) (sites_at [] outside) admitted.faultless)))) p c)

  module _ (names : (x : List ℕ) → FitsProcedure t.procedures (procedure_named t.procedures x)) (within : IsWithin t)
      (bounded : IsWithinBounds t) where
    all_fit : AllByRecursion (FitsProcedure t.procedures) t.procedures
    all_fit = recursion_from_All (FitsProcedure t.procedures) t.procedures
        (All-weaker (Contains t.procedures) (FitsProcedure t.procedures)
        (λ p c. subst (FitsProcedure t.procedures) (procedure_own p c) (names p.name.name)) t.procedures (All-contains_itself t.procedures))

    sound : AreSound t.procedures (code_of t) 0 (routines_of t.procedures)
    sound = all_sound t.procedures (code_of t) all_fit (recursion_from_All IsSmall t.procedures within.procedures) bounded.slots (routines_placed t)

    few : AllByRecursion (λ p. p.slots ≤ most_slots) (code_of t).procedures
    few = slots_few t.procedures (code_of t) (routines_of t.procedures) 0 0 sound

    callees : (x : List ℕ) → first_named (λ p. p.name.name) t.procedures x ≢ None → IsProcedure (code_of t) (number_of t.procedures x)
    callees x found =
        let a = number_low t.procedures x found in
        let b = procedures_at_least t.procedures in
        omega (arith, a, b)

    known : IsKnown t.procedures (code_of t)
    known = record { bodies = procedures_have t; callees = callees; few = λ q. few_at t.procedures (code_of t) (code_of t).procedures q few }

    in_row : Listed t.procedures (code_of t) 0 (code_of t).capsules
    in_row =
        let e : (i : ℕ) → i + 0 ≡ i = λ i. omega arith in
        listed t.procedures (code_of t) (code_of t).capsules 0 (λ i. ap (slice_get (code_of t).capsules) (e i))

    pub keeps_all : IsCode (code_of t)
    keeps_all =
        let ps = t.procedures in
        let main = main_of t in
        let root = (procedures_have t).each (codes "main") (main_is t admitted) in
        let slots = root.slots in
        let arrays = length-map main.parameters (λ p. (whole_from 0 t.arrays p.name.name).array) in
        let procedures = procedures_count ps in
        let capsules = capsules_count ps in
        let limit = within.procedure_count in
        let bound = bounded.capsules in
        record {
          root = callees (codes "main") (main_is t admitted);
          root_slots = omega (arith, slots, arrays);
          arrays = All-from_recursion (λ a. a < array_limit) (code_of t).arrays (wholes_below t.arrays main.parameters within.array_count);
          procedures_most = omega (arith, procedures, limit);
          capsules_most = omega (arith, capsules, bound);
          slots_most = All-from_recursion (λ p. p.slots ≤ most_slots) (code_of t).procedures few;
          entries = λ q. let e : q + 0 ≡ q = omega arith in
              subst (λ (k : ℕ). IfSome (slice_get (code_of t).procedures q) (λ p. IsCapsuleOf (code_of t) k p.entry)) e
              (entries_own ps (code_of t) (routines_of ps) 0 0 in_row q);
          capsules = All-from_recursion (IsCapsule (code_of t)) (code_of t).capsules
              (all_keep ps (code_of t) known (routines_of ps) 0 0 sound (routines_placed t) in_row);
        }

-- where names have slots the code keeps its rules
pub rules_kept : NamesHaveSlots → KeepsTheRules
rules_kept names t within admitted bounded = keeps_all t admitted (names t admitted) within bounded
