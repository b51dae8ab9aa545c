-- The slots of names in longer layouts, and in those of which some names are left out.
use Rattle.std.proofs.Common.{◌≡◌, ◌≤◌, ◌<◌, ◌+◌, length-append, cond, Bool, true, false, ℕ, suc, List, []}
use Rattle.std.proofs.Common.{◌∷◌, ◌++◌, length, refl, sym, ap, ◌∙◌, subst, arith}
use Rattle.std.specs.Prelude.{not}
use Rattle.std.proofs.Math.Nat.{le-max_right}
use Rattle.std.specs.List.{Contains, filter}
use Rattle.std.specs.Set.{is_member}
use Rattle.std.specs.Str.{bytes_eq}
use Rattle.ppm_cut_bounds.specs.Names.{without}
use Rattle.ppm_cut_bounds.specs.Names as names
use Rattle.ppm_cut_bounds.specs.Slots.{most_within, most_in_force}
use Rattle.ppm_tree.specs.Tree.{Statement, Block, Then}
use Rattle.ppm_tree.specs.Tree as tree
use Rattle.ppm_regions.proofs.Elements.{contains_head, contains_tail, contains_cases}
use Rattle.ppm_regions.proofs.ScopeLemmas.{same_names}
use Rattle.ppm_cut_code.specs.Layout.{Layout, slot_of}
use Rattle.ppm_cut_code.specs.Fits.{Has, IsNew}
use Rattle.ppm_cut_code.specs.Statements.{with_lets}

module _ (x : List ℕ) where
  -- a slot stays in a longer layout
  pub slot_in_front : (layout more : Layout) → Has layout x → slot_of (layout ++ more) x ≡ slot_of layout x
  slot_in_front [] more h = absurd (omega (arith, h))
  slot_in_front (y ∷ layout) more h = go (bytes_eq y x) h (slot_in_front layout more)
    where
      go : (b : Bool) → cond b 0 (suc (slot_of layout x)) < suc (length layout) → (Has layout x → slot_of (layout ++ more) x ≡ slot_of layout x)
          → cond b 0 (suc (slot_of (layout ++ more) x)) ≡ cond b 0 (suc (slot_of layout x))
      go true h on = refl
      go false h on = ap (λ n. suc n) (on (omega (arith, h)))

  pub has_in_front : (layout more : Layout) → Has layout x → Has (layout ++ more) x
  has_in_front [] more h = absurd (omega (arith, h))
  has_in_front (y ∷ layout) more h = go (bytes_eq y x) h (has_in_front layout more)
    where
      go : (b : Bool) → cond b 0 (suc (slot_of layout x)) < suc (length layout) → (Has layout x → Has (layout ++ more) x)
          → cond b 0 (suc (slot_of (layout ++ more) x)) < suc (length (layout ++ more))
      go true h on = omega arith
      go false h on = let rest = on (omega (arith, h)) in omega (arith, rest)

  pub has_behind : (layout more : Layout) → Has more x → Has (layout ++ more) x
  has_behind [] more h = h
  has_behind (y ∷ layout) more h = go (bytes_eq y x) (has_behind layout more h)
    where
      go : (b : Bool) → Has (layout ++ more) x → cond b 0 (suc (slot_of (layout ++ more) x)) < suc (length (layout ++ more))
      go true rest = omega arith
      go false rest = omega (arith, rest)

  -- where neither has the name, both together have not
  pub new_in_both : (layout more : Layout) → IsNew layout x → IsNew more x → IsNew (layout ++ more) x
  new_in_both [] more h new = new
  new_in_both (y ∷ layout) more h new = go (bytes_eq y x) h (λ rest. new_in_both layout more rest new)
    where
      go : (b : Bool) → cond b 0 (suc (slot_of layout x)) ≡ suc (length layout) → (IsNew layout x → IsNew (layout ++ more) x)
          → cond b 0 (suc (slot_of (layout ++ more) x)) ≡ suc (length (layout ++ more))
      go true h on = absurd (omega (arith, h))
      go false h on = ap (λ n. suc n) (on (omega (arith, h)))

  -- a name that passes the test keeps a slot
  pub has_filter : (test : List ℕ → Bool) → test x ≡ true → (layout : Layout) → Has layout x → Has (filter test layout) x
  has_filter test passes [] h = h
  has_filter test passes (y ∷ layout) h = go (bytes_eq y x) refl h (has_filter test passes layout)
    where
      later : (b c : Bool) → Has (filter test layout) x → bytes_eq y x ≡ b → Has (cond c (y ∷ filter test layout) (filter test layout)) x
      later b false rest e = rest
      later true true rest e =
          subst (λ (b : Bool). cond b 0 (suc (slot_of (filter test layout) x)) < suc (length (filter test layout))) (sym e) (omega arith)
      later false true rest e =
          subst (λ (b : Bool). cond b 0 (suc (slot_of (filter test layout) x)) < suc (length (filter test layout))) (sym e) (omega (arith, rest))

      first : (c : Bool) → c ≡ true → bytes_eq y x ≡ true → Has (cond c (y ∷ filter test layout) (filter test layout)) x
      first true p e = subst (λ (b : Bool). cond b 0 (suc (slot_of (filter test layout) x)) < suc (length (filter test layout))) (sym e) (omega arith)
      first false p e = absurd (cc)

      go : (b : Bool) → bytes_eq y x ≡ b → cond b 0 (suc (slot_of layout x)) < suc (length layout) → (Has layout x → Has (filter test layout) x)
          → Has (cond (test y) (y ∷ filter test layout) (filter test layout)) x
      go true e h on = first (test y) (ap test (same_names y x e) ∙ passes) e
      go false e h on = later false (test y) (on (omega (arith, h))) e

  pub new_filter : (test : List ℕ → Bool) (layout : Layout) → IsNew layout x → IsNew (filter test layout) x
  new_filter test [] h = h
  new_filter test (y ∷ layout) h = go (bytes_eq y x) refl h (new_filter test layout)
    where
      later : (c : Bool) → IsNew (filter test layout) x → bytes_eq y x ≡ false → IsNew (cond c (y ∷ filter test layout) (filter test layout)) x
      later false rest e = rest
      later true rest e =
          subst (λ (b : Bool). cond b 0 (suc (slot_of (filter test layout) x)) ≡ suc (length (filter test layout))) (sym e) (ap (λ n. suc n) rest)

      go : (b : Bool) → bytes_eq y x ≡ b → cond b 0 (suc (slot_of layout x)) ≡ suc (length layout) → (IsNew layout x → IsNew (filter test layout) x)
          → IsNew (cond (test y) (y ∷ filter test layout) (filter test layout)) x
      go true e h on = absurd (omega (arith, h))
      go false e h on = later (test y) (on (omega (arith, h))) e

-- what passes the test is among the rest
pub contains_filter : (test : List ℕ → Bool) (x : List ℕ) → test x ≡ true → (xs : List (List ℕ)) → Contains xs x → Contains (filter test xs) x
contains_filter test x passes [] c = c
contains_filter test x passes (y ∷ xs) c =
    contains_cases (Contains (cond (test y) (y ∷ filter test xs) (filter test xs)) x) y x xs
    (λ e. first (test y) (ap test e ∙ passes) e) (λ d. later (test y) (contains_filter test x passes xs d)) c
  where
    first : (b : Bool) → b ≡ true → y ≡ x → Contains (cond b (y ∷ filter test xs) (filter test xs)) x
    first true p e = subst (λ z. Contains (y ∷ filter test xs) z) e (contains_head y (filter test xs))
    first false p e = absurd (cc)

    later : (b : Bool) → Contains (filter test xs) x → Contains (cond b (y ∷ filter test xs) (filter test xs)) x
    later true d = contains_tail y x (filter test xs) d
    later false d = d

-- a name that is none of those left out
pub contains_without : (names from : List (List ℕ)) (x : List ℕ) → is_member bytes_eq names x ≡ false → Contains from x
    → Contains (without names from) x
contains_without names from x e c = contains_filter (λ y. not (is_member bytes_eq names y)) x (ap not e) from c

-- a statement adds as many names as are counted
pub lets_length : (layout : Layout) (s : Statement) → length (with_lets layout s) ≡ length layout + length (names.lets_of s)
lets_length layout (tree.Let x e) = length-append layout (x.name ∷ [])
lets_length layout (tree.Assign x e) = omega arith
lets_length layout (tree.Put x index e) = omega arith
lets_length layout (tree.If e holds other) = omega arith
lets_length layout (tree.While e block) = omega arith
lets_length layout (tree.Call s) = omega arith
lets_length layout (tree.Fork s t) = omega arith
lets_length layout (tree.Split line r e x y block) = omega arith
lets_length layout (tree.Each i x r block) = omega arith

-- the names in force in the rest of a block have room where those of the block have
pub lets_room : (s : Statement) (rest : Block) (layout : Layout) (spare : ℕ) → length layout + most_in_force (Then s rest) ≤ spare
    → length (with_lets layout s) + most_in_force rest ≤ spare
lets_room s rest layout spare h =
    let longer = lets_length layout s in
    let counted = le-max_right (most_within s) (length (names.lets_of s) + most_in_force rest) in
    omega (arith, h, longer, counted)
