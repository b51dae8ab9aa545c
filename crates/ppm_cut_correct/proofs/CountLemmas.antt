-- The block of an `each` catches exactly the names of outside that are counted: each free name of a block that fits has a slot.
use Rattle.std.proofs.Common.{◌≡◌, ◌<◌, ◌||◌, ◌&&◌, not, cond, Bool, true, false, ℕ, suc, List, [], ◌∷◌, ◌++◌}
use Rattle.std.proofs.Common.{Option, Some, None, map, length, refl, sym, ap, ◌∙◌, subst, arith}
use Rattle.std.specs.List.{AllByRecursion, flat_map}
use Rattle.std.specs.Set.{is_member, distinct_count}
use Rattle.std.specs.Str.{bytes_eq}
use Rattle.std.proofs.lemmas.Grind.{flat_map-append}
use Rattle.std.proofs.lemmas.Map.Made.{length-from_keys}
use Rattle.ppm_tree.specs.declared.mode.Mode.{Mode}
use Rattle.ppm_tree.specs.declared.mode.Mode.TheVariants as mode
use Rattle.ppm_tree.specs.declared.named.Named.{Named}
use Rattle.ppm_tree.specs.declared.tree.Parameter.{Parameter}
use Rattle.ppm_tree.specs.Tree.{Expression, Argument, Statement, Let, Assign, Put, If, While, Split, Each, Block, Nil, Then, Procedure}
use Rattle.ppm_tree.specs.Tree as tree
use Rattle.ppm_tree.specs.Parts.{nodes, node_names, nodes_of, target_names}
use Rattle.ppm_regions.specs.Scope.{Scope, lets_of, split_scope, each_scope}
use Rattle.ppm_cut_bounds.specs.Names.{without, acted_on, used_by, free_within, free_names}
use Rattle.ppm_cut_bounds.specs.Names as names
use Rattle.ppm_cut_bounds.proofs.Keeping.{all-append}
use Rattle.ppm_cut_bounds.proofs.Members.{same_bytes, has-without, has-append, bytes_laws}
use Rattle.ppm_cut_code.specs.Layout.{Layout, slot_of, caught}
use Rattle.ppm_cut_code.specs.Fits.{Has, IsNew, IsKept, FitsExpression, FitsLent, FitsArgument}
use Rattle.ppm_cut_code.specs.Fits.{FitsArguments, FitsTarget, FitsStatement, FitsBlock}
use Rattle.ppm_cut_code.specs.Statements.{with_lets, with_parts, hidden_layout}
use Rattle.ppm_cut_code.proofs.CaughtLemmas.{IsEachOnce, true_and_false, new_absent, once_filter, caught_member, first_of_both}
use Rattle.ppm_cut_code.proofs.CoverLemmas.{free_parts}

-- the name is one of the layout
abbrev In : Layout → List ℕ → Type 0
In layout x = is_member bytes_eq layout x ≡ true

-- a name with a slot is one of the layout
slot_in : (layout : Layout) (x : List ℕ) → Has layout x → In layout x
slot_in [] x h = absurd (omega (arith, h))
slot_in (y ∷ layout) x h = go (bytes_eq y x) refl h (slot_in layout x)
  where
    go : (b : Bool) → bytes_eq y x ≡ b → cond b 0 (suc (slot_of layout x)) < suc (length layout) → (Has layout x → In layout x)
        → (bytes_eq x y || is_member bytes_eq layout x) ≡ true
    go true e h rest = ap (λ c. c || is_member bytes_eq layout x) (bytes_laws.symm x y ∙ e)
    go false e h rest = ap (λ c. c || is_member bytes_eq layout x) (bytes_laws.symm x y ∙ e) ∙ rest (omega (arith, h))

kept_in : {scope : Scope} {layout : Layout} {region : Bool} {x : List ℕ} → IsKept scope layout region x → In layout x
kept_in {layout = layout} {x = x} k = slot_in layout x k.has

-- one of two, but not the second one
first_of_either : (a b : Bool) → (a || b) ≡ true → b ≡ false → a ≡ true
first_of_either true b h other = refl
first_of_either false b h other = absurd (true_and_false h other)

-- what is one of a longer list, and none of what was added
in_front : (layout more : Layout) (x : List ℕ) → In (layout ++ more) x → is_member bytes_eq more x ≡ false → In layout x
in_front layout more x h other = first_of_either (is_member bytes_eq layout x) (is_member bytes_eq more x) (sym (has-append layout more x) ∙ h) other

-- what holds of all holds of those that are not left out, and then more
left_in : (P Q : List ℕ → Type 0) (gone from : List (List ℕ)) → ((x : List ℕ) → is_member bytes_eq gone x ≡ false → P x → Q x)
    → AllByRecursion P from → AllByRecursion Q (without gone from)
left_in P Q gone [] h all = tt
left_in P Q gone (x ∷ from) h all = go (is_member bytes_eq gone x) refl (left_in P Q gone from h all.1)
  where
    go : (b : Bool) → is_member bytes_eq gone x ≡ b → AllByRecursion Q (without gone from)
        → AllByRecursion Q (cond (not b) (x ∷ without gone from) (without gone from))
    go true e rest = rest
    go false e rest = (h x e all.0, rest)

all_same : (P : List ℕ → Type 0) (xs : List (List ℕ)) → AllByRecursion P xs → AllByRecursion P (without [] xs)
all_same P [] all = tt
all_same P (x ∷ xs) all = (all.0, all_same P xs all.1)

-- what holds of each holds of a member
of_member : (P : List ℕ → Type 0) (xs : List (List ℕ)) → AllByRecursion P xs → (q : List ℕ) → is_member bytes_eq xs q ≡ true → P q
of_member P [] all q h = absurd (true_and_false h refl)
of_member P (x ∷ xs) all q h = go (bytes_eq q x) refl h (of_member P xs all.1 q)
  where
    go : (b : Bool) → bytes_eq q x ≡ b → (b || is_member bytes_eq xs q) ≡ true → (is_member bytes_eq xs q ≡ true → P q) → P q
    go true e h rest = subst P (sym (same_bytes q x e)) all.0
    go false e h rest = rest h

-- uses of names of the layout
abbrev AllIn : Layout → List Named → Type 0
AllIn layout ns = AllByRecursion (λ n. In layout n.name) ns

named_in : (layout : Layout) (ns : List Named) → AllIn layout ns → AllByRecursion (In layout) (map (λ n. n.name) ns)
named_in layout [] all = tt
named_in layout (n ∷ ns) all = (all.0, named_in layout ns all.1)

module _ (scope : Scope) (layout : Layout) where
  both_in : (xs ys : List Named) → AllIn layout xs → AllIn layout ys → AllIn layout (xs ++ ys)
  both_in xs ys = all-append (λ n. In layout n.name) xs ys

  -- those of two lists of nodes
  nodes_in : (xs ys : List Expression) → AllIn layout (flat_map node_names xs) → AllIn layout (flat_map node_names ys)
      → AllIn layout (flat_map node_names (xs ++ ys))
  nodes_in xs ys f g =
      subst (AllIn layout) (sym (flat_map-append node_names xs ys)) (both_in (flat_map node_names xs) (flat_map node_names ys) f g)

  expression_in : (e : Expression) → FitsExpression scope layout e → AllIn layout (flat_map node_names (nodes e))
  expression_in (tree.Number z) f = tt
  expression_in (tree.Name x) f = (kept_in f, tt)
  expression_in (tree.Element x index) f = (kept_in f.0, expression_in index f.1)
  expression_in (tree.Len x) f = (kept_in f, tt)
  expression_in (tree.Minus line e) f = expression_in e f
  expression_in (tree.Binary o line left right) f = nodes_in (nodes left) (nodes right) (expression_in left f.0) (expression_in right f.1)

  lent_in : (e : Expression) → FitsLent scope layout e → AllIn layout (flat_map node_names (nodes e))
  lent_in (tree.Number z) f = absurd f
  lent_in (tree.Name x) f = (kept_in f, tt)
  lent_in (tree.Element x index) f = absurd f
  lent_in (tree.Len x) f = absurd f
  lent_in (tree.Minus line e) f = absurd f
  lent_in (tree.Binary o line left right) f = absurd f

  argument_in : (m : Mode) (e : Expression) → FitsArgument scope layout m e → AllIn layout (flat_map node_names (nodes e))
  argument_in mode.Int e f = expression_in e f
  argument_in mode.Mut e f = lent_in e f
  argument_in mode.Ref e f = lent_in e f

  abbrev argument_nodes : List Argument → List Expression
  argument_nodes arguments = flat_map nodes (map (λ a. a.value) arguments)

  arguments_in : (ps : List Parameter) (arguments : List Argument) → FitsArguments scope layout ps arguments
      → AllIn layout (flat_map node_names (argument_nodes arguments))
  arguments_in [] [] f = tt
  arguments_in [] (a ∷ arguments) f = absurd f
  arguments_in (p ∷ ps) [] f = absurd f
  arguments_in (p ∷ ps) (a ∷ arguments) f =
      nodes_in (nodes a.value) (argument_nodes arguments) (argument_in p.mode a.value f.0) (arguments_in ps arguments f.1)

  target_in : (x : Option Named) → FitsTarget scope layout x → AllIn layout (target_names x)
  target_in None f = tt
  target_in (Some x) f = (kept_in f, tt)

  one_in : (e : Expression) → FitsExpression scope layout e → AllIn layout (flat_map node_names (nodes e ++ []))
  one_in e f = nodes_in (nodes e) [] (expression_in e f) tt

  two_in : (e f : Expression) → FitsExpression scope layout e → FitsExpression scope layout f
      → AllIn layout (flat_map node_names (nodes e ++ (nodes f ++ [])))
  two_in e f g h = nodes_in (nodes e) (nodes f ++ []) (expression_in e g) (one_in f h)

  module _ (procedures : List Procedure) where
    -- what a statement uses outside its blocks
    used_in : (s : Statement) → FitsStatement procedures scope layout s → AllIn layout (acted_on s ++ flat_map node_names (nodes_of s))
    used_in (Let x e) f = one_in e f.0
    used_in (Assign x e) f = (kept_in f.0, one_in e f.1)
    used_in (Put x index e) f = (kept_in f.0, two_in index e f.1 f.2)
    used_in (If e s u) f = one_in e f.0
    used_in (While e s) f = one_in e f.0
    used_in (tree.Call s) f =
        both_in (target_names s.target) (flat_map node_names (argument_nodes s.arguments)) (target_in s.target f.target)
        (arguments_in _ s.arguments f.arguments)
    used_in (tree.Fork s u) f =
        let left = map (λ a. a.value) s.arguments in
        let right = map (λ a. a.value) u.arguments in
        both_in (target_names s.target ++ target_names u.target) (flat_map node_names (flat_map nodes (left ++ right)))
        (both_in (target_names s.target) (target_names u.target) (target_in s.target f.0.target) (target_in u.target f.1.target))
        (subst (λ (l : List Expression). AllIn layout (flat_map node_names l)) (sym (flat_map-append nodes left right))
        (nodes_in (argument_nodes s.arguments) (argument_nodes u.arguments) (arguments_in _ s.arguments f.0.arguments)
        (arguments_in _ u.arguments f.1.arguments)))
    used_in (Split line r e x y s) f = (kept_in f.0, one_in e f.1)
    used_in (Each i x r s) f = (kept_in f.0, tt)

-- a name of the hidden procedure that is neither its part nor its index is caught
not_own : (a b c : Bool) → (a || (b || c)) ≡ true → (b || (a || false)) ≡ false → c ≡ true
not_own true true c h g = absurd (true_and_false refl g)
not_own true false c h g = absurd (true_and_false refl g)
not_own false true c h g = absurd (true_and_false refl g)
not_own false false c h g = h

hidden_in : (layout : Layout) (i x : Named) (block : Block) (q : List ℕ) → In (hidden_layout layout i x block) q
    → is_member bytes_eq (i.name ∷ x.name ∷ []) q ≡ false → In (caught layout block) q
hidden_in layout i x block q h other = not_own (bytes_eq q x.name) (bytes_eq q i.name) (is_member bytes_eq (caught layout block) q) h other

-- a name of the hidden procedure that is neither its part nor its index is one of the layout
outside_in : (layout : Layout) (i x : Named) (block : Block) (q : List ℕ) → is_member bytes_eq (i.name ∷ x.name ∷ []) q ≡ false
    → In (hidden_layout layout i x block) q → In layout q
outside_in layout i x block q other h =
    first_of_both (is_member bytes_eq layout q) (is_member bytes_eq (free_names block) q)
    (sym (caught_member layout block q) ∙ hidden_in layout i x block q h other)

-- those after a statement, but for the name that it declares
behind_in : (layout : Layout) (s : Statement) (xs : List (List ℕ)) → AllByRecursion (In (with_lets layout s)) xs
    → AllByRecursion (In layout) (without (names.lets_of s) xs)
behind_in layout (Let x e) xs all =
    left_in (In (layout ++ x.name ∷ [])) (In layout) (x.name ∷ []) xs (λ z other h. in_front layout (x.name ∷ []) z h other) all
behind_in layout (Assign x e) xs all = all_same (In layout) xs all
behind_in layout (Put x i e) xs all = all_same (In layout) xs all
behind_in layout (If e s u) xs all = all_same (In layout) xs all
behind_in layout (While e s) xs all = all_same (In layout) xs all
behind_in layout (tree.Call s) xs all = all_same (In layout) xs all
behind_in layout (tree.Fork s u) xs all = all_same (In layout) xs all
behind_in layout (Split line r e x y s) xs all = all_same (In layout) xs all
behind_in layout (Each i x r s) xs all = all_same (In layout) xs all

by_parts : (layout : Layout) (s : Statement) (rest : Block) → AllIn layout (acted_on s ++ flat_map node_names (nodes_of s))
    → AllByRecursion (In layout) (free_within s) → AllByRecursion (In (with_lets layout s)) (free_names rest)
    → AllByRecursion (In layout) (free_names (Then s rest))
by_parts layout s rest used within behind =
    subst (AllByRecursion (In layout)) (sym (free_parts s rest))
    (all-append (In layout) (used_by s ++ free_within s) (without (names.lets_of s) (free_names rest))
    (all-append (In layout) (used_by s) (free_within s) (named_in layout (acted_on s ++ flat_map node_names (nodes_of s)) used) within)
    (behind_in layout s (free_names rest) behind))

module _ (procedures : List Procedure) where
  mutual
    -- the free names in the blocks of a statement
    within_in : (scope : Scope) (layout : Layout) (s : Statement) → FitsStatement procedures scope layout s
        → AllByRecursion (In layout) (free_within s)
    within_in scope layout (Let x e) f = tt
    within_in scope layout (Assign x e) f = tt
    within_in scope layout (Put x index e) f = tt
    within_in scope layout (If e s u) f =
        all-append (In layout) (free_names s) (free_names u) (free_in scope layout s f.1) (free_in scope layout u f.2)
    within_in scope layout (While e s) f = free_in scope layout s f.1
    within_in scope layout (tree.Call s) f = tt
    within_in scope layout (tree.Fork s u) f = tt
    within_in scope layout (Split line r e x y s) f =
        left_in (In (with_parts layout x y)) (In layout) (x.name ∷ y.name ∷ []) (free_names s)
        (λ z other h. in_front layout (x.name ∷ y.name ∷ []) z h other) (free_in (split_scope scope r x y) (with_parts layout x y) s f.7)
    within_in scope layout (Each i x r s) f =
        left_in (In (hidden_layout layout i x s)) (In layout) (i.name ∷ x.name ∷ []) (free_names s)
        (outside_in layout i x s) (free_in (each_scope scope r i x) (hidden_layout layout i x s) s f.6)

    -- each free name of a block that fits is one of the layout
    free_in : (scope : Scope) (layout : Layout) (b : Block) → FitsBlock procedures scope layout b → AllByRecursion (In layout) (free_names b)
    free_in scope layout Nil f = tt
    free_in scope layout (Then s rest) f =
        by_parts layout s rest (used_in scope layout procedures s f.0) (within_in scope layout s f.0)
        (free_in (scope ++ lets_of s) (with_lets layout s) rest f.1)

  -- a name is caught exactly where it is counted
  alike : (a b c : Bool) → (b ≡ true → c ≡ false → a ≡ true) → (c ≡ true → a ≡ false) → (a && b) ≡ (b && not c)
  alike true true true has new = absurd (true_and_false refl (new refl))
  alike true true false has new = refl
  alike true false c has new = refl
  alike false true true has new = refl
  alike false true false has new = has refl refl
  alike false false c has new = refl

  -- what the index or the part is called is no name of the layout
  own_new : (layout : Layout) (i x : Named) → IsNew layout i.name → IsNew layout x.name → (q : List ℕ)
      → is_member bytes_eq (i.name ∷ x.name ∷ []) q ≡ true → is_member bytes_eq layout q ≡ false
  own_new layout i x new_i new_x q h =
      of_member (λ z. is_member bytes_eq layout z ≡ false) (i.name ∷ x.name ∷ [])
      (new_absent layout i.name new_i, (new_absent layout x.name new_x, tt)) q h

  pub counted : (scope : Scope) (layout : Layout) (i x r : Named) (block : Block) → IsEachOnce layout → IsNew layout i.name
      → IsNew layout x.name → FitsBlock procedures (each_scope scope r i x) (hidden_layout layout i x block) block
      → length (caught layout block) ≡ distinct_count bytes_eq (without (i.name ∷ x.name ∷ []) (free_names block))
  counted scope layout i x r block once new_i new_x fits =
      let outside = without (i.name ∷ x.name ∷ []) (free_names block) in
      let free = free_in (each_scope scope r i x) (hidden_layout layout i x block) block fits in
      length-from_keys bytes_laws (caught layout block) outside (once_filter (is_member bytes_eq (free_names block)) layout once)
      (λ q. caught_member layout block q
      ∙ alike (is_member bytes_eq layout q) (is_member bytes_eq (free_names block) q) (is_member bytes_eq (i.name ∷ x.name ∷ []) q)
      (λ used other. outside_in layout i x block q other (of_member (In (hidden_layout layout i x block)) (free_names block) free q used))
      (own_new layout i x new_i new_x q)
      ∙ sym (has-without (i.name ∷ x.name ∷ []) (free_names block) q))
