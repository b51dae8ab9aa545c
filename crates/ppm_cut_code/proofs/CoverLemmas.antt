-- That a layout has the names that a block uses, and no others than those in force.
use Rattle.std.proofs.Common.{◌≡◌, ◌<◌, inl, inr, cond, Bool, true, false, ℕ, suc, List, [], ◌∷◌, ◌++◌, Option}
use Rattle.std.proofs.Common.{Some, None, map, length, refl, sym, ap, ◌∙◌, subst, arith}
use Rattle.std.specs.Prelude.{◌||◌}
use Rattle.std.specs.Option.{option_map}
use Rattle.std.specs.List.{Contains, flat_map}
use Rattle.std.specs.Set.{is_member}
use Rattle.std.specs.Str.{bytes_eq}
use Rattle.std.proofs.lemmas.List.{append-nil}
use Rattle.std.proofs.lemmas.List.Elements.{Contains-append_left, Contains-append_right}
use Rattle.std.proofs.lemmas.Map.Made.{is_member-Decides}
use Rattle.std.proofs.lemmas.Slice.Eq.{bytes_eq-Decides}
use Rattle.ppm_tree.specs.declared.named.Named.{Named}
use Rattle.ppm_tree.specs.Tree.{Statement, Let, Assign, Put, If, While, Split, Each, Block, Then}
use Rattle.ppm_tree.specs.Tree as tree
use Rattle.ppm_tree.specs.Parts.{node_names, nodes_of}
use Rattle.ppm_cut_bounds.specs.Names.{without, acted_on, used_by, free_within, free_names}
use Rattle.ppm_cut_bounds.specs.Names as names
use Rattle.ppm_regions.specs.Scope.{Declaration, Scope, declared, seen_in_split, in_split, seen_in_each}
use Rattle.ppm_regions.specs.Scope.{in_each, parts_of, index_of, part, element_of, lets_of}
use Rattle.ppm_regions.proofs.Elements.{contains_map}
use Rattle.ppm_regions.proofs.ScopeLemmas.{names_other, other_names, found_cases, none_and_some}
use Rattle.ppm_regions.proofs.ScopeLemmas.{declared_in_front, declared_behind, declared_map, image_of}
use Rattle.ppm_cut_code.specs.Layout.{Layout, slot_of, caught}
use Rattle.ppm_cut_code.specs.Statements.{with_lets, with_parts, hidden_layout}
use Rattle.ppm_regions.specs.Scope.{split_scope, each_scope}
use Rattle.ppm_cut_code.specs.Fits.{Has, IsNew}
use Rattle.ppm_cut_code.proofs.LayoutLemmas.{has_in_front, has_behind, new_in_both, has_filter, new_filter, contains_without}

-- The layout has no other names than those in force, and it has those of these names that are in force.
pub record Covers (names : List (List ℕ)) (scope : Scope) (layout : Layout) : Type 0 where
  pub others : (x : List ℕ) → declared scope x ≡ None → IsNew layout x
  pub has : (x : List ℕ) (d : Declaration) → Contains names x → declared scope x ≡ Some d → Has layout x

-- it has fewer names too
pub covers_fewer : (names fewer : List (List ℕ)) (scope : Scope) (layout : Layout) → ((x : List ℕ) → Contains fewer x → Contains names x)
    → Covers names scope layout → Covers fewer scope layout
covers_fewer names fewer scope layout within h = record { others = h.others; has = λ x d c found. h.has x d (within x c) found }

-- the names of declarations
abbrev pub names_declared : List Declaration → List (List ℕ)
names_declared ds = map (λ d. d.name.name) ds

-- a name without a declaration is none of them, and has no slot among them
pub not_member : (ds : List Declaration) (x : List ℕ) → declared ds x ≡ None → is_member bytes_eq (names_declared ds) x ≡ false
not_member [] x h = refl
not_member (d ∷ ds) x h = go (bytes_eq d.name.name x) refl h (not_member ds x)
  where
    other : bytes_eq d.name.name x ≡ false → bytes_eq x d.name.name ≡ false
    other e = names_other x d.name.name (λ same. other_names d.name.name x e (sym same))

    go : (b : Bool) → bytes_eq d.name.name x ≡ b → cond b (Some d) (declared ds x) ≡ None
        → (declared ds x ≡ None → is_member bytes_eq (names_declared ds) x ≡ false)
        → (bytes_eq x d.name.name || is_member bytes_eq (names_declared ds) x) ≡ false
    go true e h on = absurd (none_and_some h refl)
    go false e h on = ap (λ (b : Bool). b || is_member bytes_eq (names_declared ds) x) (other e) ∙ on h

pub new_there : (ds : List Declaration) (x : List ℕ) → declared ds x ≡ None → IsNew (names_declared ds) x
new_there [] x h = refl
new_there (d ∷ ds) x h = go (bytes_eq d.name.name x) h (new_there ds x)
  where
    go : (b : Bool) → cond b (Some d) (declared ds x) ≡ None → (declared ds x ≡ None → IsNew (names_declared ds) x)
        → cond b 0 (suc (slot_of (names_declared ds) x)) ≡ suc (length (names_declared ds))
    go true h on = absurd (none_and_some h refl)
    go false h on = ap (λ n. suc n) (on h)

-- one with a declaration has a slot
pub has_there : (ds : List Declaration) (x : List ℕ) (e : Declaration) → declared ds x ≡ Some e → Has (names_declared ds) x
has_there [] x e h = absurd (none_and_some refl h)
has_there (d ∷ ds) x e h = go (bytes_eq d.name.name x) h (has_there ds x e)
  where
    go : (b : Bool) → cond b (Some d) (declared ds x) ≡ Some e → (declared ds x ≡ Some e → Has (names_declared ds) x)
        → cond b 0 (suc (slot_of (names_declared ds) x)) < suc (length (names_declared ds))
    go true h on = omega arith
    go false h on = let rest = on h in omega (arith, rest)

-- a longer scope declares what either part does
pub none_in_both : (x : List ℕ) (scope more : Scope) → declared (scope ++ more) x ≡ None → (declared scope x ≡ None) × (declared more x ≡ None)
none_in_both x scope more h = elim (found_cases (declared scope x)) [
  | inl none ↦ (none, sym (declared_behind x scope more none) ∙ h)
  | inr c ↦ absurd (none_and_some h (declared_in_front x scope more c.0 c.1))
]

-- Further declarations, with a slot each at the end: the names are those of before, or these.
pub covers_more : (names further : List (List ℕ)) (scope : Scope) (layout : Layout) (ds : List Declaration)
    → ((x : List ℕ) → Contains further x → declared ds x ≡ None → Contains names x) → Covers names scope layout
    → Covers further (scope ++ ds) (layout ++ names_declared ds)
covers_more names further scope layout ds within h = record {
  others = λ x none. let both = none_in_both x scope ds none in new_in_both x layout (names_declared ds) (h.others x both.0) (new_there ds x both.1);
  has = λ x d c found. elim (found_cases (declared ds x)) [
    | inr e ↦ has_behind x layout (names_declared ds) (has_there ds x e.0 e.1)
    | inl none ↦ elim (found_cases (declared scope x)) [
      | inr e ↦ has_in_front x layout (names_declared ds) (h.has x e.0 (within x c none) e.1)
      | inl none' ↦ absurd (none_and_some none (sym (declared_behind x scope ds none') ∙ found))
    ]
  ];
}

-- what is seen otherwise has the same names
pub covers_seen : (names : List (List ℕ)) (scope : Scope) (layout : Layout) (g : Declaration → Declaration)
    → ((d : Declaration) → (g d).name.name ≡ d.name.name)
    → Covers names scope layout → Covers names (map g scope) layout
covers_seen names scope layout g same h = record {
  others = λ x none. h.others x (image_none (declared scope x) (sym (declared_map x g same scope) ∙ none));
  has = λ x d c found. let e = image_of g (declared scope x) d (sym (declared_map x g same scope) ∙ found) in h.has x e.0 c e.1;
}
  where
    image_none : (o : Option Declaration) → option_map g o ≡ None → o ≡ None
    image_none None e = refl
    image_none (Some d) e = absurd (none_and_some e refl)

-- the block of a split
pub covers_parts : (names : List (List ℕ)) (scope : Scope) (layout : Layout) (r x y : Named) (block : Block)
    → ((z : List ℕ) → Contains (without (x.name ∷ y.name ∷ []) (free_names block)) z → Contains names z) → Covers names scope layout
    → Covers (free_names block) (split_scope scope r x y) (with_parts layout x y)
covers_parts names scope layout r x y block within h =
    covers_more names (free_names block) (in_split scope r) layout (parts_of scope r x y)
    (λ z c none. within z (contains_without (x.name ∷ y.name ∷ []) (free_names block) z (not_member (parts_of scope r x y) z none) c))
    (covers_seen names scope layout (seen_in_split r) (λ d. refl) h)

-- the layout of an `each` has its part, its index, and the names that its block names
pub covers_elements : (names : List (List ℕ)) (scope : Scope) (layout : Layout) (r i x : Named) (block : Block)
    → ((z : List ℕ) → Contains (without (i.name ∷ x.name ∷ []) (free_names block)) z → Contains names z) → Covers names scope layout
    → Covers (free_names block) (each_scope scope r i x) (hidden_layout layout i x block)
covers_elements names scope layout r i x block within h =
    let ds = element_of scope r i x in
    let inside = in_each scope r in
    let seen = covers_seen names scope layout (seen_in_each r) (λ d. refl) h in
    let own = x.name ∷ i.name ∷ [] in
    record {
      others = λ z none.
          let both = none_in_both z inside ds none in
          new_in_both z own (caught layout block) (new_own (index_of i) (part scope r x) (bytes_eq i.name z) (bytes_eq x.name z) both.1)
          (new_filter z (is_member bytes_eq (free_names block)) layout (seen.others z both.0));
      has = λ z d c found. elim (found_cases (declared ds z)) [
        | inr e ↦ has_in_front z own (caught layout block) (has_own (index_of i) (part scope r x) e.0 (bytes_eq i.name z) (bytes_eq x.name z) e.1)
        | inl none ↦ elim (found_cases (declared inside z)) [
          | inl none' ↦ absurd (none_and_some none (sym (declared_behind z inside ds none') ∙ found))
          | inr e ↦ has_behind z own (caught layout block) (has_filter z (is_member bytes_eq (free_names block))
              ((is_member-Decides bytes_eq-Decides (free_names block) z).1 c) layout
              (seen.has z e.0 (within z (contains_without (i.name ∷ x.name ∷ []) (free_names block) z (not_member ds z none) c)) e.1))
        ]
      ];
    }
  where
    new_own : (d e : Declaration) (b c : Bool) → cond b (Some d) (cond c (Some e) None) ≡ None → cond c 0 (suc (cond b 0 (suc 0))) ≡ 2
    new_own d e true c h = absurd (none_and_some h refl)
    new_own d e false true h = absurd (none_and_some h refl)
    new_own d e false false h = refl

    has_own : (d e f : Declaration) (b c : Bool) → cond b (Some d) (cond c (Some e) None) ≡ Some f → cond c 0 (suc (cond b 0 (suc 0))) < 2
    has_own d e f true true h = omega arith
    has_own d e f true false h = omega arith
    has_own d e f false true h = omega arith
    has_own d e f false false h = absurd (none_and_some refl h)

-- the free names of a block: those that its first statement uses, those in that one's blocks, and those of the rest
abbrev pub free_by_parts : Statement → Block → List (List ℕ)
free_by_parts s rest = (used_by s ++ free_within s) ++ without (names.lets_of s) (free_names rest)

pub free_parts : (s : Statement) (rest : Block) → free_names (Then s rest) ≡ free_by_parts s rest
free_parts (Let x e) rest = refl
free_parts (Assign x e) rest = refl
free_parts (Put x i e) rest = refl
free_parts (If e s u) rest = refl
free_parts (While e s) rest = refl
free_parts (tree.Call s) rest = refl
free_parts (tree.Fork s u) rest = refl
free_parts (Split line r e x y s) rest = refl
free_parts (Each i x r s) rest = refl

-- names that are used are among these
pub record AreNamed (names : List (List ℕ)) (used : List Named) : Type 0 where
  pub all : (n : Named) → Contains used n → Contains names n.name

pub free_here : (s : Statement) (rest : Block) → AreNamed (free_names (Then s rest)) (acted_on s ++ flat_map node_names (nodes_of s))
free_here s rest = record {
  all = λ n c. subst (λ (l : List (List ℕ)). Contains l n.name) (sym (free_parts s rest))
      (Contains-append_left (used_by s ++ free_within s) (without (names.lets_of s) (free_names rest)) n.name
      (Contains-append_left (used_by s) (free_within s) n.name
      (contains_map (λ n. n.name) n (acted_on s ++ flat_map node_names (nodes_of s)) c)));
}

pub free_inside : (s : Statement) (rest : Block) (x : List ℕ) → Contains (free_within s) x → Contains (free_names (Then s rest)) x
free_inside s rest x c =
    subst (λ (l : List (List ℕ)). Contains l x) (sym (free_parts s rest))
    (Contains-append_left (used_by s ++ free_within s) (without (names.lets_of s) (free_names rest)) x
    (Contains-append_right (used_by s) (free_within s) x c))

free_later : (s : Statement) (rest : Block) (x : List ℕ) → is_member bytes_eq (names.lets_of s) x ≡ false → Contains (free_names rest) x
    → Contains (free_names (Then s rest)) x
free_later s rest x other c =
    subst (λ (l : List (List ℕ)). Contains l x) (sym (free_parts s rest))
    (Contains-append_right (used_by s ++ free_within s) (without (names.lets_of s) (free_names rest)) x
    (contains_without (names.lets_of s) (free_names rest) x other c))

-- after a statement that declares nothing
covers_plain : (s : Statement) (rest : Block) (scope : Scope) (layout : Layout) → ((x : List ℕ) → is_member bytes_eq (names.lets_of s) x ≡ false)
    → Covers (free_names (Then s rest)) scope layout → Covers (free_names rest) (scope ++ []) layout
covers_plain s rest scope layout none h =
    subst (λ (scope : Scope). Covers (free_names rest) scope layout) (sym (append-nil scope))
    (covers_fewer (free_names (Then s rest)) (free_names rest) scope layout (λ x c. free_later s rest x (none x) c) h)

-- after a statement
pub covers_behind : (s : Statement) (rest : Block) (scope : Scope) (layout : Layout) → Covers (free_names (Then s rest)) scope layout
    → Covers (free_names rest) (scope ++ lets_of s) (with_lets layout s)
covers_behind (Let x e) rest scope layout h =
    covers_more (free_names (Then (Let x e) rest)) (free_names rest) scope layout (lets_of (Let x e))
    (λ z c none. free_later (Let x e) rest z (not_member (lets_of (Let x e)) z none) c) h
covers_behind (Assign x e) rest scope layout h = covers_plain (Assign x e) rest scope layout (λ x. refl) h
covers_behind (Put x i e) rest scope layout h = covers_plain (Put x i e) rest scope layout (λ x. refl) h
covers_behind (If e s u) rest scope layout h = covers_plain (If e s u) rest scope layout (λ x. refl) h
covers_behind (While e s) rest scope layout h = covers_plain (While e s) rest scope layout (λ x. refl) h
covers_behind (tree.Call s) rest scope layout h = covers_plain (tree.Call s) rest scope layout (λ x. refl) h
covers_behind (tree.Fork s u) rest scope layout h = covers_plain (tree.Fork s u) rest scope layout (λ x. refl) h
covers_behind (Split line r e x y s) rest scope layout h = covers_plain (Split line r e x y s) rest scope layout (λ x. refl) h
covers_behind (Each i x r s) rest scope layout h = covers_plain (Each i x r s) rest scope layout (λ x. refl) h
