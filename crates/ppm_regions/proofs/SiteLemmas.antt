-- The sites of a block are among those of the program, and keep its rules.
use Rattle.std.proofs.Common.{◌≡◌, ◌⊎◌, inl, inr, cond, Bool, true, false, ℕ, List, [], ◌∷◌, ◌++◌, Some, None, map, refl, sym, ap, ◌∙◌, subst, arith}
use Rattle.std.specs.Str.{bytes_eq}
use Rattle.std.specs.List.{Contains, flat_map}
use Rattle.std.proofs.lemmas.List.Elements.{Contains-append_left, Contains-append_right}
use Rattle.ppm_tree.specs.Tree.{Statement, Let, Assign, Put, If, While, Split, Each, Block, Then, Procedure, ProgramTree}
use Rattle.ppm_tree.specs.Tree as tree
use Rattle.ppm_tree.specs.State.{procedure_named, no_procedure}
use Rattle.ppm_regions.specs.Scope.{Declaration, Scope, first_named, declared, lets_of, scope_behind}
use Rattle.ppm_regions.specs.Uses.{Site, Use, Declares, Begins, Fills, declaration_sites, sites_at, sites_within, sites_of_block, sites_of_procedure, sites_of}
use Rattle.ppm_regions.specs.Uses.{sites_of_names, uses_of, uses_of_main, parameters_of, sites_of_give}
use Rattle.ppm_regions.specs.Correct.{Makes, KeepsRules}
use Rattle.ppm_regions.proofs.Elements.{contains_map, contains_head, contains_tail, contains_cases}
use Rattle.ppm_regions.specs.Scope.{scope_of}
use Rattle.ppm_regions.proofs.ScopeLemmas.{names_same, same_names, declared_in_front, declared_behind, none_and_some}

module _ (t : ProgramTree) where
  -- these sites are sites of the program
  pub record AreSites (sites : List Site) : Type 0 where
    pub all : (s : Site) → Contains sites s → Contains (sites_of t) s

  pub sites_left : (xs ys : List Site) → AreSites (xs ++ ys) → AreSites xs
  sites_left xs ys h = record { all = λ s c. h.all s (Contains-append_left xs ys s c) }

  pub sites_right : (xs ys : List Site) → AreSites (xs ++ ys) → AreSites ys
  sites_right xs ys h = record { all = λ s c. h.all s (Contains-append_right xs ys s c) }

  sites_tail : (x : Site) (xs : List Site) → AreSites (x ∷ xs) → AreSites xs
  sites_tail x xs h = record { all = λ s c. h.all s (contains_tail x s xs c) }

  -- the program makes these uses there
  pub record AreMade (scope : Scope) (uses : List Use) : Type 0 where
    pub all : (u : Use) → Contains uses u → Makes t scope u

  pub made_left : (scope : Scope) (xs ys : List Use) → AreMade scope (xs ++ ys) → AreMade scope xs
  made_left scope xs ys h = record { all = λ u c. h.all u (Contains-append_left xs ys u c) }

  pub made_right : (scope : Scope) (xs ys : List Use) → AreMade scope (xs ++ ys) → AreMade scope ys
  made_right scope xs ys h = record { all = λ u c. h.all u (Contains-append_right xs ys u c) }

  pub made_head : (scope : Scope) (u : Use) (uses : List Use) → AreMade scope (u ∷ uses) → Makes t scope u
  made_head scope u uses h = h.all u (contains_head u uses)

  pub made_tail : (scope : Scope) (u : Use) (uses : List Use) → AreMade scope (u ∷ uses) → AreMade scope uses
  made_tail scope u uses h = record { all = λ v c. h.all v (contains_tail u v uses c) }

  pub made_at : (scope : Scope) (uses : List Use) → AreSites (sites_at scope uses) → AreMade scope uses
  made_at scope uses h = record { all = λ u c. h.all (record { scope = scope; made = u }) (contains_map (λ u. record { scope = scope; made = u }) u uses c) }

  -- the sites of a block: those of its first statement, those in that one's blocks, and the rest
  abbrev sites_by_parts : Scope → Statement → Block → List Site
  sites_by_parts scope s b =
      sites_at scope (uses_of t s) ++ sites_within t scope s ++ declaration_sites scope (lets_of s) ++ sites_of_block t (scope ++ lets_of s) b

  by_parts : (scope : Scope) (s : Statement) (b : Block) → sites_of_block t scope (Then s b) ≡ sites_by_parts scope s b
  by_parts scope (Let x e) b = refl
  by_parts scope (Assign x e) b = refl
  by_parts scope (Put x i e) b = refl
  by_parts scope (If e s u) b = refl
  by_parts scope (While e s) b = refl
  by_parts scope (tree.Call s) b = refl
  by_parts scope (tree.Fork s u) b = refl
  by_parts scope (Split line r e x y s) b = refl
  by_parts scope (Each i x r s) b = refl

  in_parts : (scope : Scope) (s : Statement) (b : Block) → AreSites (sites_of_block t scope (Then s b)) → AreSites (sites_by_parts scope s b)
  in_parts scope s b h = subst AreSites (by_parts scope s b) h

  -- what stands in front of the rest
  in_front : (scope : Scope) (s : Statement) (b : Block) → AreSites (sites_of_block t scope (Then s b)) → AreSites (sites_at scope (uses_of t s)
      ++ sites_within t scope s)
  in_front scope s b h =
      let first = sites_at scope (uses_of t s) ++ sites_within t scope s in
      let declared_there = declaration_sites scope (lets_of s) in
      sites_left first declared_there (sites_left (first ++ declared_there) (sites_of_block t (scope ++ lets_of s) b) (in_parts scope s b h))

  pub uses_first : (scope : Scope) (s : Statement) (b : Block) → AreSites (sites_of_block t scope (Then s b)) → AreMade scope (uses_of t s)
  uses_first scope s b h = made_at scope (uses_of t s) (sites_left (sites_at scope (uses_of t s)) (sites_within t scope s) (in_front scope s b h))

  pub sites_inside : (scope : Scope) (s : Statement) (b : Block) → AreSites (sites_of_block t scope (Then s b)) → AreSites (sites_within t scope s)
  sites_inside scope s b h = sites_right (sites_at scope (uses_of t s)) (sites_within t scope s) (in_front scope s b h)

  pub sites_behind : (scope : Scope) (s : Statement) (b : Block) → AreSites (sites_of_block t scope (Then s b))
      → AreSites (sites_of_block t (scope ++ lets_of s) b)
  sites_behind scope s b h =
      let first = sites_at scope (uses_of t s) ++ sites_within t scope s ++ declaration_sites scope (lets_of s) in
      sites_right first (sites_of_block t (scope ++ lets_of s) b) (in_parts scope s b h)

  -- the procedure of a name is one of the program, or there is none and it has no sites
  contains_flat : (procedures : List Procedure) (p : Procedure) (s : Site) → Contains procedures p → Contains (sites_of_procedure t p) s
      → Contains (flat_map (sites_of_procedure t) procedures) s
  contains_flat [] p s c h = absurd (omega (arith, c.1))
  contains_flat (q ∷ procedures) p s c h =
      contains_cases (Contains (flat_map (sites_of_procedure t) (q ∷ procedures)) s) q p procedures
      (λ e. Contains-append_left (sites_of_procedure t q) (flat_map (sites_of_procedure t) procedures) s
      (subst (λ (p : Procedure). Contains (sites_of_procedure t p) s) (sym e) h))
      (λ d. Contains-append_right (sites_of_procedure t q) (flat_map (sites_of_procedure t) procedures) s (contains_flat procedures p s d h)) c

  procedure_sites : (p : Procedure) → Contains t.procedures p → AreSites (sites_of_procedure t p)
  procedure_sites p c =
      let names = sites_of_names (map (λ a. a.name) t.arrays) in
      let others = sites_of_names (map (λ p. p.name) t.procedures) in
      let inputs = sites_of_names (map (λ i. i.name) t.inputs) in
      let inside = flat_map (sites_of_procedure t) t.procedures in
      let outside = sites_at [] (Begins ∷ flat_map uses_of_main t.procedures ++ map Fills t.inputs) in
      record {
        all = λ s h. Contains-append_left (names ++ others ++ inputs ++ inside) outside s
            (Contains-append_right (names ++ others ++ inputs) inside s (contains_flat t.procedures p s c h));
      }

  named_cases : (procedures : List Procedure) (x : List ℕ) → (procedure_named procedures x ≡ no_procedure) ⊎ Contains procedures (procedure_named procedures x)
  named_cases [] x = inl refl
  named_cases (p ∷ procedures) x = go (bytes_eq p.name.name x) (named_cases procedures x)
    where
      go : (b : Bool) → (procedure_named procedures x ≡ no_procedure) ⊎ Contains procedures (procedure_named procedures x)
          → (cond b p (procedure_named procedures x) ≡ no_procedure) ⊎ Contains (p ∷ procedures) (cond b p (procedure_named procedures x))
      go true h = inr (contains_head p procedures)
      go false (inl e) = inl e
      go false (inr c) = inr (contains_tail p (procedure_named procedures x) procedures c)

  no_sites : AreSites (sites_of_procedure t no_procedure)
  no_sites = record { all = λ s c. absurd (omega (arith, c.1)) }

  pub callee_sites : (x : List ℕ) → AreSites (sites_of_procedure t (procedure_named t.procedures x))
  callee_sites x = elim (named_cases t.procedures x) [
    | inl e ↦ subst (λ (p : Procedure). AreSites (sites_of_procedure t p)) (sym e) no_sites
    | inr c ↦ procedure_sites (procedure_named t.procedures x) c
  ]

  -- of a procedure: its parameters, its body, and what it gives
  pub sites_of_parameters : (p : Procedure) → AreSites (sites_of_procedure t p) → AreSites (declaration_sites [] (scope_of p))
  sites_of_parameters p h =
      let front = declaration_sites [] (scope_of p) ++ sites_of_block t (scope_of p) p.body in
      let give = sites_of_give t (scope_behind (scope_of p) p.body) p.give in
      sites_left (declaration_sites [] (scope_of p)) (sites_of_block t (scope_of p) p.body) (sites_left front give h)

  pub sites_of_body : (p : Procedure) → AreSites (sites_of_procedure t p) → AreSites (sites_of_block t (scope_of p) p.body)
  sites_of_body p h =
      let front = declaration_sites [] (scope_of p) ++ sites_of_block t (scope_of p) p.body in
      let give = sites_of_give t (scope_behind (scope_of p) p.body) p.give in
      sites_right (declaration_sites [] (scope_of p)) (sites_of_block t (scope_of p) p.body) (sites_left front give h)

  pub sites_of_gift : (p : Procedure) → AreSites (sites_of_procedure t p) → AreSites (sites_of_give t (scope_behind (scope_of p) p.body) p.give)
  sites_of_gift p h =
      let front = declaration_sites [] (scope_of p) ++ sites_of_block t (scope_of p) p.body in
      let give = sites_of_give t (scope_behind (scope_of p) p.body) p.give in
      sites_right front give h

  -- the parameters that a side's arguments are held to are those of the procedure that is entered
  pub same_parameters : (procedures : List Procedure) (x : List ℕ) → parameters_of (first_named (λ p. p.name.name) procedures x) ≡
      (procedure_named procedures x).parameters
  same_parameters [] x = refl
  same_parameters (p ∷ procedures) x = go (bytes_eq p.name.name x) (same_parameters procedures x)
    where
      go : (b : Bool) → parameters_of (first_named (λ p. p.name.name) procedures x) ≡ (procedure_named procedures x).parameters
          → parameters_of (cond b (Some p) (first_named (λ p. p.name.name) procedures x)) ≡ (cond b p (procedure_named procedures x)).parameters
      go true e = refl
      go false e = e

  -- names that are declared one after the other, each new
  abbrev pub AreNew : Scope → List Declaration → Type 0
  AreNew scope [] = Unit {0}
  AreNew scope (d ∷ more) = (declared scope d.name.name ≡ None) × AreNew (scope ++ d ∷ []) more

  pub are_new : KeepsRules t → (scope : Scope) (ds : List Declaration) → AreSites (declaration_sites scope ds) → AreNew scope ds
  are_new rules scope [] h = tt
  are_new rules scope (d ∷ more) h = (
    rules.declarations scope d.name (h.all (record { scope = scope; made = Declares d.name }) (contains_head _ (declaration_sites (scope ++ d ∷ []) more))),
    are_new rules (scope ++ d ∷ []) more (sites_tail (record { scope = scope; made = Declares d.name }) (declaration_sites (scope ++ d ∷ []) more) h),
  )

  -- what is in force is not declared again
  pub not_again : (scope : Scope) (ds : List Declaration) (x : List ℕ) (c : Declaration) → AreNew scope ds → declared scope x ≡ Some c → declared ds x ≡ None
  not_again scope [] x c new h = refl
  not_again scope (d ∷ ds) x c new h = go (bytes_eq d.name.name x) refl (not_again (scope ++ d ∷ []) ds x c new.1 (declared_in_front x scope (d ∷ []) c h))
    where
      go : (b : Bool) → bytes_eq d.name.name x ≡ b → declared ds x ≡ None → cond b (Some d) (declared ds x) ≡ None
      go true e rest =
          let same = same_names d.name.name x e in
          absurd (none_and_some (subst (λ (x : List ℕ). declared scope x ≡ None) same new.0) h)
      go false e rest = rest

  -- nor is what stands first among new names
  pub not_later : (scope : Scope) (d : Declaration) (ds : List Declaration) → AreNew scope (d ∷ ds) → declared ds d.name.name ≡ None
  not_later scope d ds new =
      let here : declared (d ∷ []) d.name.name ≡ Some d =
      ap (λ (b : Bool). cond b (Some d) None) (names_same d.name.name d.name.name refl) in
      not_again (scope ++ d ∷ []) ds d.name.name d new.1 (declared_behind d.name.name scope (d ∷ []) new.0 ∙ here)
