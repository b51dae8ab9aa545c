-- The blocks of an admitted program fit.
use Rattle.std.proofs.Common.{◌≡◌, ◌≢◌, inl, inr, cond, Bool, true, false, ℕ, List, [], ◌∷◌, ◌++◌, Option}
use Rattle.std.proofs.Common.{Some, None, map, length, refl, sym, ap, ◌∙◌, subst, arith}
use Rattle.std.specs.Prelude.{not}
use Rattle.std.specs.Option.{option_map}
use Rattle.std.specs.List.{Contains, flat_map}
use Rattle.std.proofs.lemmas.List.{append-nil}
use Rattle.std.proofs.lemmas.Grind.{flat_map-append}
use Rattle.std.proofs.lemmas.List.Elements.{Contains-append_left, Contains-append_right}
use Rattle.ppm_tree.specs.declared.mode.Mode.{Mode}
use Rattle.ppm_tree.specs.declared.mode.Mode.TheVariants as mode
use Rattle.ppm_tree.specs.declared.named.Named.{Named}
use Rattle.ppm_tree.specs.declared.tree.Parameter.{Parameter}
use Rattle.ppm_tree.specs.Tree.{Expression, Number, Name, Element, Len, Minus, Binary, Argument, Side, Statement, Let, Assign}
use Rattle.ppm_tree.specs.Tree.{Put, If, While, Split, Each, Block, Nil, Then, Give, Procedure, ProgramTree}
use Rattle.ppm_tree.specs.Tree as tree
use Rattle.ppm_tree.specs.Parts.{nodes, node_names, nodes_of, target_names}
use Rattle.ppm_tree.specs.State.{procedure_named}
use Rattle.ppm_cut_bounds.specs.Names.{acted_on, free_within, free_names}
use Rattle.ppm_regions.specs.declared.ask.Ask.TheVariants as ask
use Rattle.ppm_regions.specs.Scope.{Declaration, Scope, declared, is_region, seen_in_split, in_split, seen_in_each, in_each}
use Rattle.ppm_regions.specs.Scope.{parts_of, element_of, part, index_of, of_parameter, lets_of, scope_behind}
use Rattle.ppm_regions.specs.Uses.{Use, Asks, NoName, Calls, Delivers, lent_together, lent_by, both_targets, callee_of, parameters_of, uses_in}
use Rattle.ppm_regions.specs.Uses.{uses_of_argument, uses_of_arguments, uses_of_target, uses_of_side, uses_of, declaration_sites, sites_within}
use Rattle.ppm_regions.specs.Uses.{sites_of_block, sites_of_procedure, sites_of_give, sites_at, Site, Begins, Fills, sites_of_names, uses_of_main}
use Rattle.ppm_regions.specs.Admission.{IsAdmitted}
use Rattle.ppm_regions.specs.Correct.{Makes, KeepsRules}
use Rattle.ppm_regions.proofs.Rules.{rules}
use Rattle.ppm_regions.proofs.Elements.{contains_head, contains_tail, contains_map, contains_cases}
use Rattle.ppm_regions.proofs.ScopeLemmas.{names_same, found_cases, none_and_some, declared_map}
use Rattle.ppm_regions.proofs.SiteLemmas.{AreSites, sites_left, sites_right, AreMade, made_left, made_right, made_head, made_tail}
use Rattle.ppm_regions.proofs.SiteLemmas.{made_at, uses_first, sites_inside, sites_behind, callee_sites, sites_of_parameters}
use Rattle.ppm_regions.proofs.SiteLemmas.{sites_of_body, sites_of_gift, same_parameters, AreNew, are_new, not_later}
use Rattle.ppm_cut_code.specs.Layout.{Layout, parameter_layout}
use Rattle.ppm_cut_code.specs.Statements.{with_lets, with_parts, hidden_layout}
use Rattle.ppm_regions.specs.Scope.{scope_of}
use Rattle.ppm_cut_code.specs.Fits.{IsNew, IsLocal, IsRegion, IsDistinctLayout, FitsExpression, FitsLent, FitsArgument, FitsArguments}
use Rattle.ppm_cut_code.specs.Fits.{FitsTarget, layout_behind, FitsSide, FitsStatement, FitsBlock, FitsGive, FitsProcedure}
use Rattle.ppm_cut_code.specs.Correct.{NamesHaveSlots}
use Rattle.ppm_cut_code.proofs.CoverLemmas.{Covers, covers_fewer, names_declared, new_there, has_there, none_in_both, covers_parts}
use Rattle.ppm_cut_code.proofs.CoverLemmas.{covers_elements, covers_more, AreNamed, free_here, free_inside, covers_behind}

-- of what is used, parts are
named_left : (names : List (List ℕ)) (xs ys : List Named) → AreNamed names (xs ++ ys) → AreNamed names xs
named_left names xs ys h = record { all = λ n c. h.all n (Contains-append_left xs ys n c) }

named_right : (names : List (List ℕ)) (xs ys : List Named) → AreNamed names (xs ++ ys) → AreNamed names ys
named_right names xs ys h = record { all = λ n c. h.all n (Contains-append_right xs ys n c) }

named_tail : (names : List (List ℕ)) (x : Named) (xs : List Named) → AreNamed names (x ∷ xs) → AreNamed names xs
named_tail names x xs h = record { all = λ n c. h.all n (contains_tail x n xs c) }

-- the names in nodes, by parts
named_nodes : (names : List (List ℕ)) (xs ys : List Expression) → AreNamed names (flat_map node_names (xs ++ ys))
    → AreNamed names (flat_map node_names xs ++ flat_map node_names ys)
named_nodes names xs ys h = subst (AreNamed names) (flat_map-append node_names xs ys) h

-- the names in expressions, one by one
named_first : (names : List (List ℕ)) (e : Expression) (es : List Expression) → AreNamed names (flat_map node_names (flat_map nodes (e ∷ es)))
    → AreNamed names (flat_map node_names (nodes e))
named_first names e es h =
    named_left names (flat_map node_names (nodes e)) (flat_map node_names (flat_map nodes es)) (named_nodes names (nodes e) (flat_map nodes es) h)

named_later : (names : List (List ℕ)) (e : Expression) (es : List Expression) → AreNamed names (flat_map node_names (flat_map nodes (e ∷ es)))
    → AreNamed names (flat_map node_names (flat_map nodes es))
named_later names e es h =
    named_right names (flat_map node_names (nodes e)) (flat_map node_names (flat_map nodes es)) (named_nodes names (nodes e) (flat_map nodes es) h)

-- the names in the arguments of both sides of a fork
named_sides : (names : List (List ℕ)) (es fs : List Expression) → AreNamed names (flat_map node_names (flat_map nodes (es ++ fs)))
    → AreNamed names (flat_map node_names (flat_map nodes es) ++ flat_map node_names (flat_map nodes fs))
named_sides names es fs h =
    named_nodes names (flat_map nodes es) (flat_map nodes fs)
    (subst (λ (l : List Expression). AreNamed names (flat_map node_names l)) (flat_map-append nodes es fs) h)

not_true : (b : Bool) → not b ≡ true → b ≡ false
not_true false h = refl
not_true true h = absurd (cc)

-- the layout has all names in force, and no others
record IsFull (scope : Scope) (layout : Layout) : Type 0 where
  pub covers : (names : List (List ℕ)) → Covers names scope layout

same_layout : (ps : List Parameter) → names_declared (map of_parameter ps) ≡ parameter_layout ps
same_layout [] = refl
same_layout (p ∷ ps) = ap (λ (l : Layout). p.name.name ∷ l) (same_layout ps)

full_parameters : (ps : List Parameter) → IsFull (map of_parameter ps) (parameter_layout ps)
full_parameters ps = record {
  covers = λ names. subst (Covers names (map of_parameter ps)) (same_layout ps) (record {
    others = λ x none. new_there (map of_parameter ps) x none;
    has = λ x d c found. has_there (map of_parameter ps) x d found;
  });
}

full_lets : (s : Statement) (scope : Scope) (layout : Layout) → IsFull scope layout → IsFull (scope ++ lets_of s) (with_lets layout s)
full_lets (Let x e) scope layout h = record {
  covers = λ names. covers_more names names scope layout (lets_of (Let x e)) (λ z c none. c) (h.covers names);
}
full_lets (Assign x e) scope layout h = subst (λ (scope : Scope). IsFull scope layout) (sym (append-nil scope)) h
full_lets (Put x i e) scope layout h = subst (λ (scope : Scope). IsFull scope layout) (sym (append-nil scope)) h
full_lets (If e s u) scope layout h = subst (λ (scope : Scope). IsFull scope layout) (sym (append-nil scope)) h
full_lets (While e s) scope layout h = subst (λ (scope : Scope). IsFull scope layout) (sym (append-nil scope)) h
full_lets (tree.Call s) scope layout h = subst (λ (scope : Scope). IsFull scope layout) (sym (append-nil scope)) h
full_lets (tree.Fork s u) scope layout h = subst (λ (scope : Scope). IsFull scope layout) (sym (append-nil scope)) h
full_lets (Split line r e x y s) scope layout h = subst (λ (scope : Scope). IsFull scope layout) (sym (append-nil scope)) h
full_lets (Each i x r s) scope layout h = subst (λ (scope : Scope). IsFull scope layout) (sym (append-nil scope)) h

full_behind : (b : Block) (scope : Scope) (layout : Layout) → IsFull scope layout → IsFull (scope_behind scope b) (layout_behind layout b)
full_behind Nil scope layout h = h
full_behind (Then s rest) scope layout h = full_behind rest (scope ++ lets_of s) (with_lets layout s) (full_lets s scope layout h)

-- parameters that are declared one after the other differ
distinct_parameters : (t : ProgramTree) (scope : Scope) (ps : List Parameter) → AreNew t scope (map of_parameter ps)
    → IsDistinctLayout (parameter_layout ps)
distinct_parameters t scope [] new = tt
distinct_parameters t scope (p ∷ ps) new = (
  subst (λ (l : Layout). IsNew l p.name.name) (same_layout ps)
      (new_there (map of_parameter ps) p.name.name (not_later t scope (of_parameter p) (map of_parameter ps) new)),
  distinct_parameters t (scope ++ of_parameter p ∷ []) ps new.1,
)

module _ (t : ProgramTree) (admitted : IsAdmitted t) where
  abbrev kept_rules : KeepsRules t
  kept_rules = rules t admitted

  module _ (names : List (List ℕ)) (scope : Scope) (layout : Layout) (covers : Covers names scope layout) where
    -- a local, or one that is assigned
    local_named : (x : Named) → Makes t scope (Asks ask.Local x) → Contains names x.name → IsLocal scope layout x
    local_named x made c =
        let d = kept_rules.names scope ask.Local x made in
        record {
          declaration = d.declaration;
          found = d.found;
          kind = not_true (is_region d.declaration.mode) d.kind;
          seen = λ e. absurd (cc);
          has = covers.has x.name d.declaration c d.found;
        }

    assigned_named : (x : Named) → Makes t scope (Asks ask.Assigned x) → Contains names x.name → IsLocal scope layout x
    assigned_named x made c =
        let d = kept_rules.names scope ask.Assigned x made in
        record {
          declaration = d.declaration;
          found = d.found;
          kind = not_true (is_region d.declaration.mode) d.kind;
          seen = λ e. absurd (cc);
          has = covers.has x.name d.declaration c d.found;
        }

    -- a region that is read, or one that is written
    region_named : (x : Named) → Makes t scope (Asks ask.Region x) → Contains names x.name → IsRegion scope layout x
    region_named x made c =
        let d = kept_rules.names scope ask.Region x made in
        record {
          declaration = d.declaration;
          found = d.found;
          kind = d.kind;
          seen = λ e. d.seen refl;
          has = covers.has x.name d.declaration c d.found;
        }

    written_named : (x : Named) → Makes t scope (Asks ask.Written x) → Contains names x.name → IsRegion scope layout x
    written_named x made c =
        let d = kept_rules.names scope ask.Written x made in
        record {
          declaration = d.declaration;
          found = d.found;
          kind = d.kind;
          seen = λ e. d.seen refl;
          has = covers.has x.name d.declaration c d.found;
        }

    fits_expression : (e : Expression) → AreMade t scope (uses_in e) → AreNamed names (flat_map node_names (nodes e)) → FitsExpression scope layout e
    fits_expression (Number z) made named = tt
    fits_expression (Name x) made named = local_named x (made_head t scope (Asks ask.Local x) [] made) (named.all x (contains_head x []))
    fits_expression (Element x index) made named =
        let more = flat_map node_names (nodes index) in (
          region_named x (made_head t scope (Asks ask.Region x) (uses_in index) made) (named.all x (contains_head x more)),
          fits_expression index (made_tail t scope (Asks ask.Region x) (uses_in index) made) (named_tail names x more named),
        )
    fits_expression (Len x) made named = region_named x (made_head t scope (Asks ask.Region x) [] made) (named.all x (contains_head x []))
    fits_expression (Minus line e) made named = fits_expression e made named
    fits_expression (Binary o line left right) made named =
        let both = named_nodes names (nodes left) (nodes right) named in (
          fits_expression left (made_left t scope (uses_in left) (uses_in right) made)
              (named_left names (flat_map node_names (nodes left)) (flat_map node_names (nodes right)) both),
          fits_expression right (made_right t scope (uses_in left) (uses_in right) made)
              (named_right names (flat_map node_names (nodes left)) (flat_map node_names (nodes right)) both),
        )

    no_name : (line : ℕ) (uses : List Use) → AreMade t scope (NoName line ∷ uses) → ⊥
    no_name line uses made = kept_rules.arguments scope line (made_head t scope (NoName line) uses made)

    lent_written : (line : ℕ) (e : Expression) → AreMade t scope (uses_of_argument mode.Mut (record { line = line; value = e }))
        → AreNamed names (flat_map node_names (nodes e)) → FitsLent scope layout e
    lent_written line (Name x) made named = written_named x (made_head t scope (Asks ask.Written x) [] made) (named.all x (contains_head x []))
    lent_written line (Number z) made named = absurd (no_name line [] made)
    lent_written line (Element x index) made named = absurd (no_name line (uses_in (Element x index)) made)
    lent_written line (Len x) made named = absurd (no_name line (uses_in (Len x)) made)
    lent_written line (Minus l e) made named = absurd (no_name line (uses_in (Minus l e)) made)
    lent_written line (Binary o l left right) made named = absurd (no_name line (uses_in (Binary o l left right)) made)

    lent_read : (line : ℕ) (e : Expression) → AreMade t scope (uses_of_argument mode.Ref (record { line = line; value = e }))
        → AreNamed names (flat_map node_names (nodes e)) → FitsLent scope layout e
    lent_read line (Name x) made named = region_named x (made_head t scope (Asks ask.Region x) [] made) (named.all x (contains_head x []))
    lent_read line (Number z) made named = absurd (no_name line [] made)
    lent_read line (Element x index) made named = absurd (no_name line (uses_in (Element x index)) made)
    lent_read line (Len x) made named = absurd (no_name line (uses_in (Len x)) made)
    lent_read line (Minus l e) made named = absurd (no_name line (uses_in (Minus l e)) made)
    lent_read line (Binary o l left right) made named = absurd (no_name line (uses_in (Binary o l left right)) made)

    fits_argument : (m : Mode) (a : Argument) → AreMade t scope (uses_of_argument m a) → AreNamed names (flat_map node_names (nodes a.value))
        → FitsArgument scope layout m a.value
    fits_argument mode.Int a made named = fits_expression a.value made named
    fits_argument mode.Mut a made named = lent_written a.line a.value made named
    fits_argument mode.Ref a made named = lent_read a.line a.value made named

    abbrev values_of : List Argument → List Expression
    values_of arguments = map (λ a. a.value) arguments

    fits_arguments : (ps : List Parameter) (arguments : List Argument) → length ps ≡ length arguments
        → AreMade t scope (uses_of_arguments ps arguments)
        → AreNamed names (flat_map node_names (flat_map nodes (values_of arguments))) → FitsArguments scope layout ps arguments
    fits_arguments [] [] same made named = tt
    fits_arguments [] (a ∷ arguments) same made named = absurd (omega (arith, same))
    fits_arguments (p ∷ ps) [] same made named = absurd (omega (arith, same))
    fits_arguments (p ∷ ps) (a ∷ arguments) same made named = (
      fits_argument p.mode a (made_left t scope (uses_of_argument p.mode a) (uses_of_arguments ps arguments) made)
          (named_first names a.value (values_of arguments) named),
      fits_arguments ps arguments (omega (arith, same)) (made_right t scope (uses_of_argument p.mode a) (uses_of_arguments ps arguments) made)
          (named_later names a.value (values_of arguments) named),
    )

    fits_target : (callee : Named) (target : Option Named) → AreMade t scope (uses_of_target callee target) → AreNamed names (target_names target)
        → FitsTarget scope layout target
    fits_target callee None made named = tt
    fits_target callee (Some x) made named =
        assigned_named x (made_head t scope (Asks ask.Assigned x) (Delivers callee ∷ []) made) (named.all x (contains_head x []))

    fits_side : (s : Side) → AreMade t scope (uses_of_side t s) → AreNamed names (target_names s.target)
        → AreNamed names (flat_map node_names (flat_map nodes (values_of s.arguments))) → FitsSide t.procedures scope layout s
    fits_side s made target named =
        let targets = uses_of_target s.callee s.target in
        let count = length s.arguments in
        let arguments = uses_of_arguments (parameters_of (callee_of t s.callee)) s.arguments in
        let behind = made_right t scope targets (Calls s.callee count ∷ arguments) made in
        let called = kept_rules.calls scope s.callee count (made_head t scope (Calls s.callee count) arguments behind) in
        let same = same_parameters t t.procedures s.callee.name in
        let parameters = sym same ∙ ap parameters_of called.found in
        record {
          callee = λ none. none_and_some none called.found;
          target = fits_target s.callee s.target (made_left t scope targets (Calls s.callee count ∷ arguments) made) target;
          arguments = fits_arguments (procedure_named t.procedures s.callee.name).parameters s.arguments
              (ap (λ (ps : List Parameter). length ps) parameters ∙ called.count)
              (subst (λ (ps : List Parameter). AreMade t scope (uses_of_arguments ps s.arguments)) same
              (made_tail t scope (Calls s.callee count) arguments behind)) named;
        }

    -- two names that are declared together are new, and differ
    pub record AreBothNew (x y : Named) : Type 0 where
      pub first : declared scope x.name ≡ None
      pub second : declared scope y.name ≡ None
      pub differ : x.name ≢ y.name

    both_new : (g : Declaration → Declaration) → ((d : Declaration) → (g d).name.name ≡ d.name.name) → (d e : Declaration)
        → AreNew t (map g scope) (d ∷ e ∷ []) → AreBothNew d.name e.name
    both_new g same d e h =
        let second = none_in_both e.name.name (map g scope) (d ∷ []) h.1.0 in
        record {
          first = none_before d.name.name h.0;
          second = none_before e.name.name second.0;
          differ = λ is. none_and_some second.1 (ap (λ (b : Bool). cond b (Some d) None) (names_same d.name.name e.name.name is));
        }
      where
        none_before : (z : List ℕ) → declared (map g scope) z ≡ None → declared scope z ≡ None
        none_before z none = elim (found_cases (declared scope z)) [
          | inl n ↦ n
          | inr c ↦ absurd (none_and_some none (declared_map z g same scope ∙ ap (option_map g) c.1))
        ]

  -- the sites of what a statement declares
  no_sites : (scope : Scope) → AreSites t (declaration_sites scope [])
  no_sites scope = record { all = λ s c. absurd (omega (arith, c.1)) }

  sites_of_lets : (scope : Scope) (s : Statement) (rest : Block) → AreSites t (sites_of_block t scope (Then s rest))
      → AreSites t (declaration_sites scope (lets_of s))
  sites_of_lets scope (Let x e) rest h =
      let s = Let x e in
      let front = sites_at scope (uses_of t s) ++ sites_within t scope s in
      sites_right t front (declaration_sites scope (lets_of s))
      (sites_left t (front ++ declaration_sites scope (lets_of s)) (sites_of_block t (scope ++ lets_of s) rest) h)
  sites_of_lets scope (Assign x e) rest h = no_sites scope
  sites_of_lets scope (Put x i e) rest h = no_sites scope
  sites_of_lets scope (If e s u) rest h = no_sites scope
  sites_of_lets scope (While e s) rest h = no_sites scope
  sites_of_lets scope (tree.Call s) rest h = no_sites scope
  sites_of_lets scope (tree.Fork s u) rest h = no_sites scope
  sites_of_lets scope (Split line r e x y s) rest h = no_sites scope
  sites_of_lets scope (Each i x r s) rest h = no_sites scope

  -- a block fits if its first statement and the rest do
  fits_then : (s : Statement) (rest : Block) (scope : Scope) (layout : Layout) → FitsStatement t.procedures scope layout s
      → FitsBlock t.procedures (scope ++ lets_of s) (with_lets layout s) rest → FitsBlock t.procedures scope layout (Then s rest)
  fits_then (Let x e) rest scope layout h k = (h, k)
  fits_then (Assign x e) rest scope layout h k = (h, k)
  fits_then (Put x i e) rest scope layout h k = (h, k)
  fits_then (If e s u) rest scope layout h k = (h, k)
  fits_then (While e s) rest scope layout h k = (h, k)
  fits_then (tree.Call s) rest scope layout h k = (h, k)
  fits_then (tree.Fork s u) rest scope layout h k = (h, k)
  fits_then (Split line r e x y s) rest scope layout h k = (h, k)
  fits_then (Each i x r s) rest scope layout h k = (h, k)

  mutual
    fits_statement : (s : Statement) (names : List (List ℕ)) (scope : Scope) (layout : Layout) → Covers names scope layout
        → AreMade t scope (uses_of t s)
        → AreSites t (sites_within t scope s) → AreSites t (declaration_sites scope (lets_of s))
        → AreNamed names (acted_on s ++ flat_map node_names (nodes_of s))
        → ((x : List ℕ) → Contains (free_within s) x → Contains names x) → FitsStatement t.procedures scope layout s
    fits_statement (Let x e) names scope layout covers made sites lets named inside =
        let new = are_new t kept_rules scope (lets_of (Let x e)) lets in
        (fits_expression names scope layout covers e made (named_first names e [] named), covers.others x.name new.0, new.0)
    fits_statement (Assign x e) names scope layout covers made sites lets named inside = (
      assigned_named names scope layout covers x (made_head t scope (Asks ask.Assigned x) (uses_in e) made)
          (named.all x (contains_head x (flat_map node_names (flat_map nodes (e ∷ []))))),
      fits_expression names scope layout covers e (made_tail t scope (Asks ask.Assigned x) (uses_in e) made)
          (named_first names e [] (named_tail names x (flat_map node_names (flat_map nodes (e ∷ []))) named)),
    )
    fits_statement (Put x i e) names scope layout covers made sites lets named inside =
        let behind = made_tail t scope (Asks ask.Written x) (uses_in i ++ uses_in e) made in
        let more = flat_map node_names (flat_map nodes (i ∷ e ∷ [])) in
        let expressions = named_tail names x more named in (
          written_named names scope layout covers x (made_head t scope (Asks ask.Written x) (uses_in i ++ uses_in e) made)
              (named.all x (contains_head x more)),
          fits_expression names scope layout covers i (made_left t scope (uses_in i) (uses_in e) behind) (named_first names i (e ∷ []) expressions),
          fits_expression names scope layout covers e (made_right t scope (uses_in i) (uses_in e) behind)
              (named_first names e [] (named_later names i (e ∷ []) expressions)),
        )
    fits_statement (If e s u) names scope layout covers made sites lets named inside = (
      fits_expression names scope layout covers e made (named_first names e [] named),
      fits_block s scope layout (sites_left t (sites_of_block t scope s) (sites_of_block t scope u) sites)
          (covers_fewer names (free_names s) scope layout (λ x c. inside x (Contains-append_left (free_names s) (free_names u) x c)) covers),
      fits_block u scope layout (sites_right t (sites_of_block t scope s) (sites_of_block t scope u) sites)
          (covers_fewer names (free_names u) scope layout (λ x c. inside x (Contains-append_right (free_names s) (free_names u) x c)) covers),
    )
    fits_statement (While e s) names scope layout covers made sites lets named inside = (
      fits_expression names scope layout covers e made (named_first names e [] named),
      fits_block s scope layout sites (covers_fewer names (free_names s) scope layout inside covers),
    )
    fits_statement (tree.Call s) names scope layout covers made sites lets named inside =
        let targets = target_names s.target in
        let others = flat_map node_names (flat_map nodes (map (λ a. a.value) s.arguments)) in
        fits_side names scope layout covers s (made_left t scope (uses_of_side t s) (lent_together [] (lent_by t s)) made)
        (named_left names targets others named) (named_right names targets others named)
    fits_statement (tree.Fork s u) names scope layout covers made sites lets named inside =
        let sides = uses_of_side t s ++ uses_of_side t u in
        let targets = both_targets s.target u.target in
        let lends = lent_together [] (lent_by t s ++ lent_by t u) in
        let both = made_left t scope sides targets (made_left t scope (sides ++ targets) lends made) in
        let left = map (λ a. a.value) s.arguments in
        let right = map (λ a. a.value) u.arguments in
        let acted = target_names s.target ++ target_names u.target in
        let others = flat_map node_names (flat_map nodes (left ++ right)) in
        let front = named_left names acted others named in
        let arguments = named_sides names left right (named_right names acted others named) in (
          fits_side names scope layout covers s (made_left t scope (uses_of_side t s) (uses_of_side t u) both)
              (named_left names (target_names s.target) (target_names u.target) front)
              (named_left names (flat_map node_names (flat_map nodes left)) (flat_map node_names (flat_map nodes right)) arguments),
          fits_side names scope layout covers u (made_right t scope (uses_of_side t s) (uses_of_side t u) both)
              (named_right names (target_names s.target) (target_names u.target) front)
              (named_right names (flat_map node_names (flat_map nodes left)) (flat_map node_names (flat_map nodes right)) arguments),
        )
    fits_statement (Split line r e x y s) names scope layout covers made sites lets named inside =
        let ds = parts_of scope r x y in
        let declarations = declaration_sites (in_split scope r) ds in
        let block = sites_of_block t (in_split scope r ++ ds) s in
        let more = flat_map node_names (flat_map nodes (e ∷ [])) in
        let new = both_new names scope layout covers (seen_in_split r) (λ d. refl) (part scope r x) (part scope r y)
        (are_new t kept_rules (in_split scope r) ds (sites_left t declarations block sites)) in (
          region_named names scope layout covers r (made_head t scope (Asks ask.Region r) (uses_in e) made) (named.all r (contains_head r more)),
          fits_expression names scope layout covers e (made_tail t scope (Asks ask.Region r) (uses_in e) made)
              (named_first names e [] (named_tail names r more named)),
          covers.others x.name new.first,
          covers.others y.name new.second,
          new.differ,
          new.first,
          new.second,
          fits_block s (in_split scope r ++ ds) (with_parts layout x y) (sites_right t declarations block sites)
              (covers_parts names scope layout r x y s inside covers),
        )
    fits_statement (Each i x r s) names scope layout covers made sites lets named inside =
        let ds = element_of scope r i x in
        let declarations = declaration_sites (in_each scope r) ds in
        let block = sites_of_block t (in_each scope r ++ ds) s in
        let new = both_new names scope layout covers (seen_in_each r) (λ d. refl) (index_of i) (part scope r x)
        (are_new t kept_rules (in_each scope r) ds (sites_left t declarations block sites)) in (
          region_named names scope layout covers r (made_head t scope (Asks ask.Region r) [] made) (named.all r (contains_head r [])),
          covers.others i.name new.first,
          covers.others x.name new.second,
          new.differ,
          new.first,
          new.second,
          fits_block s (in_each scope r ++ ds) (hidden_layout layout i x s) (sites_right t declarations block sites)
              (covers_elements names scope layout r i x s inside covers),
        )

    fits_block : (b : Block) (scope : Scope) (layout : Layout) → AreSites t (sites_of_block t scope b) → Covers (free_names b) scope layout
        → FitsBlock t.procedures scope layout b
    fits_block Nil scope layout sites covers = tt
    fits_block (Then s rest) scope layout sites covers =
        fits_then s rest scope layout
        (fits_statement s (free_names (Then s rest)) scope layout covers (uses_first t scope s rest sites) (sites_inside t scope s rest sites)
        (sites_of_lets scope s rest sites) (free_here s rest) (free_inside s rest))
        (fits_block rest (scope ++ lets_of s) (with_lets layout s) (sites_behind t scope s rest sites) (covers_behind s rest scope layout covers))

  fits_give : (scope : Scope) (layout : Layout) (g : Option Give) → AreSites t (sites_of_give t scope g)
      → IsFull scope layout → FitsGive t.procedures scope layout g
  fits_give scope layout None sites full = tt
  fits_give scope layout (Some g) sites full =
      let used = flat_map node_names (nodes g.value) in
      let names = map (λ n. n.name) used in
      fits_expression names scope layout (full.covers names) g.value (made_at t scope (uses_in g.value) sites)
      (record { all = λ n c. contains_map (λ n. n.name) n used c })

  fits_procedure : (p : Procedure) → AreSites t (sites_of_procedure t p) → FitsProcedure t.procedures p
  fits_procedure p h =
      let full = full_parameters p.parameters in
      record {
        distinct = distinct_parameters t [] p.parameters (are_new t kept_rules [] (scope_of p) (sites_of_parameters t p h));
        body = fits_block p.body (scope_of p) (parameter_layout p.parameters) (sites_of_body t p h) (full.covers (free_names p.body));
        give = fits_give (scope_behind (scope_of p) p.body) (layout_behind (parameter_layout p.parameters) p.body) p.give (sites_of_gift t p h)
            (full_behind p.body (scope_of p) (parameter_layout p.parameters) full);
      }

pub names_have_slots : NamesHaveSlots
names_have_slots t admitted x = fits_procedure t admitted (procedure_named t.procedures x) (callee_sites t x)

-- a procedure of the program
procedure_sites : (t : ProgramTree) (p : Procedure) → Contains t.procedures p → AreSites t (sites_of_procedure t p)
procedure_sites t p c =
    let names = sites_of_names (map (λ a. a.name) t.arrays) in
    let others = sites_of_names (map (λ p. p.name) t.procedures) in
    let inputs = sites_of_names (map (λ i. i.name) t.inputs) in
    let inside = flat_map (sites_of_procedure t) t.procedures in
    let outside = sites_at [] (Begins ∷ flat_map uses_of_main t.procedures ++ map Fills t.inputs) in
    record {
      all = λ s h. Contains-append_left (names ++ others ++ inputs ++ inside) outside s
          (Contains-append_right (names ++ others ++ inputs) inside s (contains_flat t.procedures c s h));
    }
  where
    contains_flat : (ps : List Procedure) → Contains ps p → (s : Site) → Contains (sites_of_procedure t p) s
        → Contains (flat_map (sites_of_procedure t) ps) s
    contains_flat [] c s h = absurd (omega (arith, c.1))
    contains_flat (q ∷ ps) c s h =
        contains_cases (Contains (flat_map (sites_of_procedure t) (q ∷ ps)) s) q p ps
        (λ e. Contains-append_left (sites_of_procedure t q) (flat_map (sites_of_procedure t) ps) s
        (subst (λ (p : Procedure). Contains (sites_of_procedure t p) s) (sym e) h))
        (λ d. Contains-append_right (sites_of_procedure t q) (flat_map (sites_of_procedure t) ps) s (contains_flat ps d s h)) c

pub each_fits : (t : ProgramTree) → IsAdmitted t → (p : Procedure) → Contains t.procedures p → FitsProcedure t.procedures p
each_fits t admitted p c = fits_procedure t admitted p (procedure_sites t p c)
