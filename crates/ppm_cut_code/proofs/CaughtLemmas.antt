-- Layouts in which no name has two slots, and that the block of an `each` catches no more names of one than are counted.
use Rattle.std.proofs.Common.{◌≡◌, ◌≢◌, ◌<◌, ◌≤◌, ◌||◌, ◌&&◌, not, cond, Bool, true, false, ℕ, suc, List, [], ◌∷◌}
use Rattle.std.proofs.Common.{◌++◌, length, refl, sym, ap, ◌∙◌, subst, arith, filter, append_assoc}
use Rattle.std.specs.Str.{bytes_eq}
use Rattle.std.specs.List.{AllByRecursion, IsDistinct}
use Rattle.std.specs.Set.{is_member, unique_keys}
use Rattle.std.proofs.lemmas.Map.Keys.{IsDistinct-cons, IsDistinct-push}
use Rattle.std.proofs.lemmas.Map.Made.{length-le_from_is_member, is_member-filter}
use Rattle.ppm_cut_bounds.specs.Names.{without, free_names, caught_count}
use Rattle.ppm_cut_bounds.proofs.Members.{same_bytes, has-without, bytes_laws}
use Rattle.ppm_tree.specs.declared.named.Named.{Named}
use Rattle.ppm_tree.specs.Tree.{Statement, Block, Procedure}
use Rattle.ppm_tree.specs.Tree as tree
use Rattle.ppm_regions.specs.Scope.{Scope}
use Rattle.ppm_cut_code.specs.Layout.{Layout, slot_of, caught}
use Rattle.ppm_cut_code.specs.Fits.{Has, IsNew, IsDistinctLayout, FitsStatement}
use Rattle.ppm_cut_code.specs.Statements.{with_lets, with_parts, hidden_layout}

pub true_and_false : {b : Bool} → b ≡ true → b ≡ false → ⊥
true_and_false p q = cc

-- a new name is none of the layout
pub new_absent : (layout : Layout) (x : List ℕ) → IsNew layout x → is_member bytes_eq layout x ≡ false
new_absent [] x h = refl
new_absent (y ∷ layout) x h = go (bytes_eq y x) refl h (new_absent layout x)
  where
    go : (b : Bool) → bytes_eq y x ≡ b → cond b 0 (suc (slot_of layout x)) ≡ suc (length layout)
        → (IsNew layout x → is_member bytes_eq layout x ≡ false) → (bytes_eq x y || is_member bytes_eq layout x) ≡ false
    go true e h rest = absurd (omega (arith, h))
    go false e h rest = ap (λ c. c || is_member bytes_eq layout x) (bytes_laws.symm x y ∙ e) ∙ rest (omega (arith, h))

-- a name that is none of the layout differs from each of its names
pub absent_apart : (layout : Layout) (x : List ℕ) → is_member bytes_eq layout x ≡ false → AllByRecursion (λ y. bytes_eq x y ≡ false) layout
absent_apart [] x h = tt
absent_apart (y ∷ layout) x h = go (bytes_eq x y) refl h (absent_apart layout x)
  where
    go : (b : Bool) → bytes_eq x y ≡ b → (b || is_member bytes_eq layout x) ≡ false
        → (is_member bytes_eq layout x ≡ false → AllByRecursion (λ z. bytes_eq x z ≡ false) layout)
        → (bytes_eq x y ≡ false) × AllByRecursion (λ z. bytes_eq x z ≡ false) layout
    go true e h rest = absurd (true_and_false refl h)
    go false e h rest = (e, rest h)

-- two names that are the same are members alike
member_alike : (xs : List (List ℕ)) (q x : List ℕ) → bytes_eq q x ≡ true → is_member bytes_eq xs q ≡ is_member bytes_eq xs x
member_alike xs q x e = ap (λ z. is_member bytes_eq xs z) (same_bytes q x e)

-- those that pass a test are still such
all_filter : {A : Type 0} (P : A → Type 0) (test : A → Bool) (zs : List A) → AllByRecursion P zs → AllByRecursion P (filter test zs)
all_filter P test [] h = tt
all_filter P test (z ∷ zs) h = go (test z) (all_filter P test zs h.1)
  where
    go : (b : Bool) → AllByRecursion P (filter test zs) → AllByRecursion P (cond b (z ∷ filter test zs) (filter test zs))
    go true rest = (h.0, rest)
    go false rest = rest

-- layouts without a name twice
abbrev pub IsEachOnce : Layout → Type 0
IsEachOnce layout = IsDistinct bytes_eq layout

pub each_once : (layout : Layout) → IsDistinctLayout layout → IsEachOnce layout
unfolding IsDistinct
each_once [] h = tt
each_once (x ∷ layout) h = IsDistinct-cons bytes_eq x layout (absent_apart layout x (new_absent layout x h.0)) (each_once layout h.1)

pub once_filter : (test : List ℕ → Bool) (layout : Layout) → IsEachOnce layout → IsEachOnce (filter test layout)
unfolding IsDistinct
once_filter test [] h = tt
once_filter test (x ∷ layout) h = go (test x) (once_filter test layout h.1)
  where
    go : (b : Bool) → IsEachOnce (filter test layout) → IsEachOnce (cond b (x ∷ filter test layout) (filter test layout))
    go true rest = IsDistinct-cons bytes_eq x (filter test layout) (all_filter (λ y. bytes_eq x y ≡ false) test layout h.0) rest
    go false rest = rest

pub once_push : (layout : Layout) (x : List ℕ) → IsEachOnce layout → IsNew layout x → IsEachOnce (layout ++ x ∷ [])
once_push layout x h new = IsDistinct-push bytes_laws layout x h (new_absent layout x new)

-- after a statement that fits
pub once_lets : (procedures : List Procedure) (scope : Scope) (layout : Layout) (s : Statement) → FitsStatement procedures scope layout s
    → IsEachOnce layout
    → IsEachOnce (with_lets layout s)
once_lets procedures scope layout (tree.Let x e) f h = once_push layout x.name h f.1
once_lets procedures scope layout (tree.Assign x e) f h = h
once_lets procedures scope layout (tree.Put x index e) f h = h
once_lets procedures scope layout (tree.If e holds other) f h = h
once_lets procedures scope layout (tree.While e block) f h = h
once_lets procedures scope layout (tree.Call s) f h = h
once_lets procedures scope layout (tree.Fork s t) f h = h
once_lets procedures scope layout (tree.Split line r e x y block) f h = h
once_lets procedures scope layout (tree.Each i x r block) f h = h

other_bytes : (x y : List ℕ) → x ≢ y → bytes_eq x y ≡ false
other_bytes x y h = go (bytes_eq x y) refl
  where
    go : (b : Bool) → bytes_eq x y ≡ b → bytes_eq x y ≡ false
    go true e = absurd (h (same_bytes x y e))
    go false e = e

-- a name that is none of either list is none of both
absent_both : (xs : List (List ℕ)) (y q : List ℕ) → is_member bytes_eq xs q ≡ false → bytes_eq q y ≡ false
    → is_member bytes_eq (xs ++ y ∷ []) q ≡ false
absent_both [] y q h e = ap (λ b. b || false) e
absent_both (x ∷ xs) y q h e = go (bytes_eq q x) h (absent_both xs y q)
  where
    go : (b : Bool) → (b || is_member bytes_eq xs q) ≡ false → (is_member bytes_eq xs q ≡ false → bytes_eq q y ≡ false
        → is_member bytes_eq (xs ++ y ∷ []) q ≡ false)
        → (b || is_member bytes_eq (xs ++ y ∷ []) q) ≡ false
    go true h rest = h
    go false h rest = rest h e

pub once_parts : (layout : Layout) (x y : Named) → IsEachOnce layout → IsNew layout x.name → IsNew layout y.name → x.name ≢ y.name
    → IsEachOnce (with_parts layout x y)
once_parts layout x y h new_x new_y apart =
    let first = once_push layout x.name h new_x in
    let other = other_bytes y.name x.name (λ e. apart (sym e)) in
    subst IsEachOnce (append_assoc layout (x.name ∷ []) (y.name ∷ []))
    (IsDistinct-push bytes_laws (layout ++ x.name ∷ []) y.name first (absent_both layout x.name y.name (new_absent layout y.name new_y) other))

-- what is caught are names of the layout that are free in the block
pub caught_member : (layout : Layout) (block : Block) (q : List ℕ)
    → is_member bytes_eq (caught layout block) q ≡ (is_member bytes_eq layout q && is_member bytes_eq (free_names block) q)
caught_member layout block q =
    is_member-filter bytes_laws (is_member bytes_eq (free_names block)) q (member_alike (free_names block) q) layout

pub first_of_both : (a b : Bool) → (a && b) ≡ true → a ≡ true
first_of_both true b h = refl
first_of_both false b h = h

second_of_both : (a b : Bool) → (a && b) ≡ true → b ≡ true
second_of_both true b h = h
second_of_both false b h = absurd (true_and_false h refl)

caught_absent : (layout : Layout) (block : Block) (x : List ℕ) → IsNew layout x → is_member bytes_eq (caught layout block) x ≡ false
caught_absent layout block x new = caught_member layout block x ∙ ap (λ b. b && is_member bytes_eq (free_names block) x) (new_absent layout x new)

pub once_hidden : (layout : Layout) (i x : Named) (block : Block) → IsEachOnce layout → IsNew layout i.name → IsNew layout x.name → i.name ≢ x.name
    → IsEachOnce (hidden_layout layout i x block)
once_hidden layout i x block h new_i new_x apart =
    let names = caught layout block in
    let once : IsEachOnce names = once_filter (is_member bytes_eq (free_names block)) layout h in
    let index : IsEachOnce (i.name ∷ names) =
    IsDistinct-cons bytes_eq i.name names (absent_apart names i.name (caught_absent layout block i.name new_i)) once in
    IsDistinct-cons bytes_eq x.name (i.name ∷ names)
    (other_bytes x.name i.name (λ e. apart (sym e)), absent_apart names x.name (caught_absent layout block x.name new_x)) index

-- each key once are still all keys
unique_members : (xs : List (List ℕ)) (q : List ℕ) → is_member bytes_eq xs q ≡ true → is_member bytes_eq (unique_keys bytes_eq xs) q ≡ true
unique_members [] q h = h
unique_members (x ∷ xs) q h = go (is_member bytes_eq xs x) (bytes_eq q x) refl refl h (unique_members xs q)
  where
    go : (b c : Bool) → is_member bytes_eq xs x ≡ b → bytes_eq q x ≡ c → (c || is_member bytes_eq xs q) ≡ true
        → (is_member bytes_eq xs q ≡ true → is_member bytes_eq (unique_keys bytes_eq xs) q ≡ true)
        → is_member bytes_eq (cond b (unique_keys bytes_eq xs) (x ∷ unique_keys bytes_eq xs)) q ≡ true
    go true true m e h rest = rest (member_alike xs q x e ∙ m)
    go true false m e h rest = rest h
    go false true m e h rest = ap (λ b. b || is_member bytes_eq (unique_keys bytes_eq xs) q) e
    go false false m e h rest = ap (λ b. b || is_member bytes_eq (unique_keys bytes_eq xs) q) e ∙ rest h

-- a name of the layout is none that is new
not_new : (layout : Layout) (x q : List ℕ) → IsNew layout x → is_member bytes_eq layout q ≡ true → bytes_eq q x ≡ false
not_new layout x q new h = go (bytes_eq q x) refl
  where
    go : (b : Bool) → bytes_eq q x ≡ b → bytes_eq q x ≡ false
    go true e = absurd (true_and_false (sym (member_alike layout q x e) ∙ h) (new_absent layout x new))
    go false e = e

-- the names that are caught are no more than the names of outside that the block names
pub caught_is_counted : (layout : Layout) (i x : Named) (block : Block) → IsEachOnce layout → IsNew layout i.name → IsNew layout x.name
    → length (caught layout block) ≤ caught_count i x block
caught_is_counted layout i x block h new_i new_x =
    length-le_from_is_member bytes_laws (caught layout block) (unique_keys bytes_eq (without (i.name ∷ x.name ∷ []) (free_names block)))
    (once_filter (is_member bytes_eq (free_names block)) layout h)
    (λ q m. unique_members (without (i.name ∷ x.name ∷ []) (free_names block)) q (free q m))
  where
    free : (q : List ℕ) → is_member bytes_eq (caught layout block) q ≡ true
        → is_member bytes_eq (without (i.name ∷ x.name ∷ []) (free_names block)) q ≡ true
    free q m =
        let both = sym (caught_member layout block q) ∙ m in
        let here = first_of_both (is_member bytes_eq layout q) (is_member bytes_eq (free_names block) q) both in
        let used = second_of_both (is_member bytes_eq layout q) (is_member bytes_eq (free_names block) q) both in
        let no_index = not_new layout i.name q new_i here in
        let no_part = not_new layout x.name q new_x here in
        has-without (i.name ∷ x.name ∷ []) (free_names block) q
        ∙ ap (λ b. b && not (is_member bytes_eq (i.name ∷ x.name ∷ []) q)) used
        ∙ ap (λ b. not (b || (bytes_eq q x.name || false))) no_index ∙ ap (λ b. not (b || false)) no_part

-- a name keeps a slot after another name
has_later : (y : List ℕ) (layout : Layout) (z : List ℕ) → Has layout z → Has (y ∷ layout) z
has_later y layout z h = go (bytes_eq y z)
  where
    go : (b : Bool) → cond b 0 (suc (slot_of layout z)) < suc (length layout)
    go true = omega arith
    go false = omega (arith, h)

has_all_later : (y : List ℕ) (layout zs : Layout) → AllByRecursion (Has layout) zs → AllByRecursion (Has (y ∷ layout)) zs
has_all_later y layout [] h = tt
has_all_later y layout (z ∷ zs) h = (has_later y layout z h.0, has_all_later y layout zs h.1)

has_first : (y : List ℕ) (layout : Layout) → Has (y ∷ layout) y
has_first y layout = subst (λ (b : Bool). cond b 0 (suc (slot_of layout y)) < suc (length layout)) (sym (bytes_laws.refl y)) (omega arith)

-- the names of a layout have slots
own_slots : (layout : Layout) → AllByRecursion (Has layout) layout
own_slots [] = tt
own_slots (y ∷ layout) = (has_first y layout, has_all_later y layout layout (own_slots layout))

-- the names that a block catches have slots
pub caught_have_slots : (layout : Layout) (block : Block) → AllByRecursion (Has layout) (caught layout block)
caught_have_slots layout block = all_filter (Has layout) (is_member bytes_eq (free_names block)) layout (own_slots layout)
