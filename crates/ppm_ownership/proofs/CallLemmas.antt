-- The frame that a call makes: each of its regions is one that the caller lends, and no two of them clash.
use Rattle.std.proofs.Common.{◌≡◌, ◌≢◌, inl, inr, cond, Bool, true, false, ℕ, List, [], ◌∷◌, ◌++◌, Some, None, map, length, refl, sym, ap, ◌∙◌, subst, arith}
use Rattle.std.specs.Prelude.{Result, Ok, Err, ℤ}
use Rattle.std.specs.Str.{bytes_eq}
use Rattle.std.specs.List.{Contains}
use Rattle.std.proofs.lemmas.List.Elements.{Contains-append_left, Contains-append_right}
use Rattle.ppm_tree.specs.declared.mode.Mode.{Mode}
use Rattle.ppm_tree.specs.declared.mode.Mode.TheVariants as mode
use Rattle.ppm_tree.specs.declared.tree.Parameter.{Parameter}
use Rattle.ppm_tree.specs.Tree.{Expression, Argument, ProgramTree}
use Rattle.ppm_tree.specs.State.{TrapAt, then_with, Frame, Region, with_local, Arrays, evaluate, lent, with_argument, with_arguments}
use Rattle.ppm_regions.specs.Scope.{Declaration, Scope, declared, is_region, of_parameter}
use Rattle.ppm_regions.specs.Uses.{Lending, lending_of, lendings_of, uses_of_argument, uses_of_arguments}
use Rattle.ppm_regions.specs.Faults.{Clashes}
use Rattle.ppm_regions.specs.Admission.{IsAdmitted}
use Rattle.ppm_regions.specs.Correct.{KeepsRules}
use Rattle.ppm_ownership.specs.Words.{IsPart}
use Rattle.ppm_regions.proofs.ScopeLemmas.{names_same, same_names, none_and_some, some_same}
use Rattle.ppm_regions.proofs.SiteLemmas.{AreMade, made_left, made_right, AreNew, not_later}
use Rattle.ppm_ownership.proofs.PartLemmas.{Origin, part_of_itself}
use Rattle.ppm_ownership.proofs.LendLemmas.{NoClash, no_clash_right, no_clash_between, may_lend, lent_name, lending_is}

-- a result without a trap
abbrev found : {A : Type 0} → A → Result A TrapAt
found x = Ok x

ok_same : {A : Type 0} {x y : A} → found x ≡ found y → x ≡ y
ok_same p = cc

module _ (f : Frame) (a : Arrays) where
  -- one argument leaves the regions of other names, and makes its name stand for the region that it lends
  local_regions : (x : List ℕ) (r : Result ℤ TrapAt) (g g' : Frame) → then_with r (λ v. Ok (with_local g x v)) ≡ Ok g' → g'.regions ≡ g.regions
  local_regions x (Ok v) g g' h = ap (λ (g : Frame). g.regions) (sym (ok_same h))
  local_regions x (Err s) g g' h = absurd (cc)

  argument_leaves : (m : Mode) (x : List ℕ) (v : Expression) (g g' : Frame) → with_argument f a m x v g ≡ Ok g' → (z : List ℕ) → bytes_eq x z ≡ false
      → g'.regions z ≡ g.regions z
  argument_leaves mode.Int x v g g' h z other = ap (λ (r : List ℕ → Region). r z) (local_regions x (evaluate f a v) g g' h)
  argument_leaves mode.Mut x v g g' h z other =
      ap (λ (g : Frame). g.regions z) (sym (ok_same h)) ∙ ap (λ (b : Bool). cond b (lent f v) (g.regions z)) other
  argument_leaves mode.Ref x v g g' h z other =
      ap (λ (g : Frame). g.regions z) (sym (ok_same h)) ∙ ap (λ (b : Bool). cond b (lent f v) (g.regions z)) other

  argument_lends : (m : Mode) (x : List ℕ) (v : Expression) (g g' : Frame) → is_region m ≡ true → with_argument f a m x v g ≡ Ok g' → g'.regions x ≡ lent f v
  argument_lends mode.Int x v g g' region h = absurd (cc)
  argument_lends mode.Mut x v g g' region h =
      ap (λ (g : Frame). g.regions x) (sym (ok_same h)) ∙ ap (λ (b : Bool). cond b (lent f v) (g.regions x)) (names_same x x refl)
  argument_lends mode.Ref x v g g' region h =
      ap (λ (g : Frame). g.regions x) (sym (ok_same h)) ∙ ap (λ (b : Bool). cond b (lent f v) (g.regions x)) (names_same x x refl)

  module _ (scope : Scope) where
    -- a region, declared so, is lent by one of these lendings
    pub record LentAs (ls : List Lending) (e : Declaration) (q : Region) : Type 0 where
      pub lending : Lending
      pub among : Contains ls lending
      pub same_mode : lending.mode ≡ e.mode
      pub origin : Origin scope f.regions e q
      pub named : origin.name ≡ lending.name.name

    -- two are lent by lendings that do not clash
    pub record Beside (ls : List Lending) (d e : Declaration) (q w : Region) : Type 0 where
      pub first : LentAs ls d q
      pub second : LentAs ls e w
      pub no_clash : ¬ Clashes first.lending second.lending

    abbrev behind_front : (xs ys : List Lending) (e : Declaration) (q : Region) → LentAs ys e q → LentAs (xs ++ ys) e q
    behind_front xs ys e q h = record {
      lending = h.lending;
      among = Contains-append_right xs ys h.lending h.among;
      same_mode = h.same_mode;
      origin = h.origin;
      named = h.named;
    }

    turned : (l m : Lending) → ¬ Clashes l m → ¬ Clashes m l
    turned l m h c = h (record { same = sym c.same; written = elim c.written [ inl e ↦ inr e | inr e ↦ inl e ] })

    -- what the arguments make of a frame
    pub record AreLent (ps : List Parameter) (args : List Argument) (g g' : Frame) : Type 0 where
      pub others : (z : List ℕ) → declared (map of_parameter ps) z ≡ None → g'.regions z ≡ g.regions z
      pub lent : (z : List ℕ) (e : Declaration) → declared (map of_parameter ps) z ≡ Some e → is_region e.mode ≡ true
          → LentAs (lendings_of ps args) e (g'.regions z)
      pub beside : NoClash (lendings_of ps args) → (z v : List ℕ) (d e : Declaration) → declared (map of_parameter ps) z ≡ Some d
          → declared (map of_parameter ps) v ≡ Some e → is_region d.mode ≡ true → is_region e.mode ≡ true → z ≢ v
          → Beside (lendings_of ps args) d e (g'.regions z) (g'.regions v)

    module _ (t : ProgramTree) (rules : KeepsRules t) (admitted : IsAdmitted t) (p : Parameter) (ps : List Parameter) (b : Argument) (args : List Argument)
        (g g₁ g' : Frame) (made : AreMade t scope (uses_of_argument p.mode b)) (is : with_argument f a p.mode p.name.name b.value g ≡ Ok g₁)
        (new : declared (map of_parameter ps) p.name.name ≡ None) (rest : AreLent ps args g₁ g') where
      abbrev first_lends : List Lending
      first_lends = lending_of p.mode b.value

      abbrev all_lends : List Lending
      all_lends = lendings_of (p ∷ ps) (b ∷ args)

      -- the region of the first parameter
      first_lent : is_region p.mode ≡ true → (h : LentAs all_lends (of_parameter p) (g'.regions p.name.name)) × Contains first_lends h.lending
      first_lent region =
          let x = lent_name t scope rules admitted p.mode b.line b.value region made in
          let d = may_lend t scope rules admitted p.mode x.0 region x.2 in
          let at : g'.regions p.name.name ≡ f.regions x.0.name =
          rest.others p.name.name new ∙ argument_lends p.mode p.name.name b.value g g₁ region is ∙ ap (lent f) x.1 in
          let here = lending_is p.mode x.0 b.value region x.1 in (
            record {
              lending = record { mode = p.mode; name = x.0 };
              among = Contains-append_left first_lends (lendings_of ps args) (record { mode = p.mode; name = x.0 }) here;
              same_mode = refl;
              origin = record {
                name = x.0.name;
                declaration = d.declaration;
                found = d.found;
                region = d.region;
                shown = d.shown;
                written = λ m. (d.written m).0;
                inner = λ m n. (d.written m).1;
                part = subst (λ (q : Region). IsPart q (f.regions x.0.name)) (sym at) (part_of_itself (f.regions x.0.name));
              };
              named = refl;
            },
            here,
          )

      -- a declared name is the first parameter's, or one of the rest's
      data OfParameters (z : List ℕ) (e : Declaration) : Type 0 where
        IsFirst : p.name.name ≡ z → of_parameter p ≡ e → OfParameters z e
        IsLater : p.name.name ≢ z → declared (map of_parameter ps) z ≡ Some e → OfParameters z e

      of_parameters : (z : List ℕ) (e : Declaration) → declared (map of_parameter (p ∷ ps)) z ≡ Some e → OfParameters z e
      of_parameters z e h = go (bytes_eq p.name.name z) refl h
        where
          go : (b : Bool) → bytes_eq p.name.name z ≡ b → cond b (Some (of_parameter p)) (declared (map of_parameter ps) z) ≡ Some e → OfParameters z e
          go true i h = IsFirst (same_names p.name.name z i) (some_same {o = Some (of_parameter p)} refl h)
          go false i h = IsLater (λ same. true_is_false (sym (names_same p.name.name z same) ∙ i)) h
            where
              true_is_false : true ≡ false → ⊥
              true_is_false e = cc

      more_others : (z : List ℕ) → declared (map of_parameter (p ∷ ps)) z ≡ None → g'.regions z ≡ g.regions z
      more_others z h = go (bytes_eq p.name.name z) refl h
        where
          go : (b : Bool) → bytes_eq p.name.name z ≡ b → cond b (Some (of_parameter p)) (declared (map of_parameter ps) z) ≡ None → g'.regions z ≡ g.regions z
          go true i h = absurd (none_and_some h refl)
          go false i h = rest.others z h ∙ argument_leaves p.mode p.name.name b.value g g₁ is z i

      -- the first parameter's region under its own name and declaration
      first_as : (z : List ℕ) (e : Declaration) → is_region e.mode ≡ true → p.name.name ≡ z → of_parameter p ≡ e
          → (h : LentAs all_lends e (g'.regions z)) × Contains first_lends h.lending
      first_as z e region same is' =
          let here = first_lent (subst (λ (e : Declaration). is_region e.mode ≡ true) (sym is') region) in
          subst (λ (e : Declaration). (h : LentAs all_lends e (g'.regions z)) × Contains first_lends h.lending) is'
          (subst (λ (z : List ℕ). (h : LentAs all_lends (of_parameter p) (g'.regions z)) × Contains first_lends h.lending) same here)

      more_lent : (z : List ℕ) (e : Declaration) → is_region e.mode ≡ true → OfParameters z e → LentAs all_lends e (g'.regions z)
      more_lent z e region (IsFirst same is') = (first_as z e region same is').0
      more_lent z e region (IsLater other h) = behind_front first_lends (lendings_of ps args) e (g'.regions z) (rest.lent z e h region)

      more_beside : NoClash all_lends → (z v : List ℕ) (d e : Declaration) → is_region d.mode ≡ true → is_region e.mode ≡ true → z ≢ v
          → OfParameters z d → OfParameters v e → Beside all_lends d e (g'.regions z) (g'.regions v)
      more_beside none z v d e r s other (IsFirst same i) (IsFirst same' j) = absurd (other (sym same ∙ same'))
      more_beside none z v d e r s other (IsFirst same i) (IsLater out h) =
          let one = first_as z d r same i in
          let two = rest.lent v e h s in
          let clash = no_clash_between first_lends (lendings_of ps args) none one.0.lending two.lending one.1 two.among in
          record {
            first = one.0;
            second = behind_front first_lends (lendings_of ps args) e (g'.regions v) two;
            no_clash = turned two.lending one.0.lending clash;
          }
      more_beside none z v d e r s other (IsLater out h) (IsFirst same i) =
          let one = first_as v e s same i in
          let two = rest.lent z d h r in
          record {
            first = behind_front first_lends (lendings_of ps args) d (g'.regions z) two;
            second = one.0;
            no_clash = no_clash_between first_lends (lendings_of ps args) none one.0.lending two.lending one.1 two.among;
          }
      more_beside none z v d e r s other (IsLater out h) (IsLater out' h') =
          let both = rest.beside (no_clash_right first_lends (lendings_of ps args) none) z v d e h h' r s other in
          record {
            first = behind_front first_lends (lendings_of ps args) d (g'.regions z) both.first;
            second = behind_front first_lends (lendings_of ps args) e (g'.regions v) both.second;
            no_clash = both.no_clash;
          }

      pub more_are_lent : AreLent (p ∷ ps) (b ∷ args) g g'
      more_are_lent = record {
        others = more_others;
        lent = λ z e h region. more_lent z e region (of_parameters z e h);
        beside = λ none z v d e h h' r s other. more_beside none z v d e r s other (of_parameters z d h) (of_parameters v e h');
      }

    module _ (t : ProgramTree) (rules : KeepsRules t) (admitted : IsAdmitted t) where
      none_are_lent : (args : List Argument) (g g' : Frame) → found g ≡ found g' → AreLent [] args g g'
      none_are_lent args g g' h = record {
        others = λ z none. ap (λ (g : Frame). g.regions z) (sym (ok_same h));
        lent = λ z e is region. absurd (none_and_some refl is);
        beside = λ none z v d e is is' r s other. absurd (none_and_some refl is);
      }

      -- all arguments of a call that is admitted are lent
      pub are_lent : (ps : List Parameter) (args : List Argument) (g g' : Frame) (front : Scope) → AreNew t front (map of_parameter ps)
          → length ps ≡ length args → AreMade t scope (uses_of_arguments ps args) → with_arguments f a ps args g ≡ Ok g' → AreLent ps args g g'
      are_lent [] args g g' front new count made h = none_are_lent args g g' h
      are_lent (p ∷ ps) [] g g' front new count made h = absurd (omega (arith, count))
      are_lent (p ∷ ps) (b ∷ args) g g' front new count made h =
          let first = made_left t scope (uses_of_argument p.mode b) (uses_of_arguments ps args) made in
          let later = made_right t scope (uses_of_argument p.mode b) (uses_of_arguments ps args) made in
          go first (not_later t front (of_parameter p) (map of_parameter ps) new)
          (λ g₁ k. are_lent ps args g₁ g' (front ++ of_parameter p ∷ []) new.1 (omega (arith, count)) later k)
          (with_argument f a p.mode p.name.name b.value g) refl h
        where
          go : AreMade t scope (uses_of_argument p.mode b) → declared (map of_parameter ps) p.name.name ≡ None
              → ((g₁ : Frame) → with_arguments f a ps args g₁ ≡ Ok g' → AreLent ps args g₁ g')
              → (r : Result Frame TrapAt) → with_argument f a p.mode p.name.name b.value g ≡ r → then_with r (with_arguments f a ps args) ≡ Ok g'
              → AreLent (p ∷ ps) (b ∷ args) g g'
          go first fresh rest (Ok g₁) is h = more_are_lent t rules admitted p ps b args g g₁ g' first is fresh (rest g₁ h)
          go first fresh rest (Err stop) is h = absurd (cc)
