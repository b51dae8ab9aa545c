-- Frames with a word stored in a slot, and with new names after those of a layout.
use Rattle.std.proofs.Common.{◌≡◌, ◌≢◌, ◌≤◌, ◌<◌, ℕ, suc, ◌+◌, ◌==◌, ℤ, cond, Bool, true, false, List, [], ◌∷◌, ◌++◌}
use Rattle.std.proofs.Common.{Some, None, length, refl, sym, ap, ◌∙◌, subst, subst₂, arith, inl, inr}
use Rattle.std.proofs.lemmas.Bool.{cond-false, cond-true, eq-eqb, ne_eqb}
use Rattle.std.specs.Str.{bytes_eq}
use Rattle.ppm_code.specs.declared.location.FrameWord.{FrameWord}
use Rattle.ppm_code.specs.declared.location.FrameWord.TheVariants.{Slot}
use Rattle.ppm_code.specs.Strands.{with_value}
use Rattle.ppm_tree.specs.declared.named.Named.{Named}
use Rattle.ppm_tree.specs.declared.mode.Mode.TheVariants as mode
use Rattle.ppm_tree.specs.State.{Frame, with_local}
use Rattle.ppm_regions.specs.Scope.{Declaration, Scope, declared, is_region, plain}
use Rattle.ppm_regions.proofs.ScopeLemmas.{declared_in_front, declared_behind, names_same, same_names}
use Rattle.ppm_regions.proofs.ScopeLemmas.{names_other, found_cases, some_same, none_and_some}
use Rattle.ppm_cut_code.specs.Layout.{Layout, slot_of}
use Rattle.ppm_cut_code.specs.Fits.{Has, IsNew}
use Rattle.ppm_cut_code.proofs.LayoutLemmas.{slot_in_front}
use Rattle.ppm_cut_correct.proofs.Holding.{HoldsValue, Holds}

-- a slot with a word, and the others
pub stored_slot : (own : FrameWord → ℕ) (i w : ℕ) → with_value (Some i) w own (Slot i) ≡ w
stored_slot own i w = cond-true (i == i) w (own (Slot i)) (eq-eqb i i refl)

pub other_slot : (own : FrameWord → ℕ) (i w j : ℕ) → (j ≡ i → ⊥) → with_value (Some i) w own (Slot j) ≡ own (Slot j)
other_slot own i w j other = cond-false (j == i) w (own (Slot j)) (ne_eqb j i other)

module _ (x : List ℕ) where
  -- the slot of a new name, and of those after it
  pub slot_behind : (layout more : Layout) → IsNew layout x → slot_of (layout ++ more) x ≡ length layout + slot_of more x
  slot_behind [] more new = omega arith
  slot_behind (y ∷ layout) more new = go (bytes_eq y x) new (slot_behind layout more)
    where
      go : (b : Bool) → cond b 0 (suc (slot_of layout x)) ≡ suc (length layout)
          → (IsNew layout x → slot_of (layout ++ more) x ≡ length layout + slot_of more x)
          → cond b 0 (suc (slot_of (layout ++ more) x)) ≡ suc (length layout) + slot_of more x
      go true new on = absurd (omega (arith, new))
      go false new on = let rest = on (omega (arith, new)) in omega (arith, rest)

  -- a name that isn't among those that follow has its slot in front
  pub has_before : (layout more : Layout) → IsNew more x → Has (layout ++ more) x → Has layout x
  has_before [] more new h = omega (arith, new, h)
  has_before (y ∷ layout) more new h = go (bytes_eq y x) h (has_before layout more new)
    where
      go : (b : Bool) → cond b 0 (suc (slot_of (layout ++ more) x)) < suc (length (layout ++ more)) → (Has (layout ++ more) x → Has layout x)
          → cond b 0 (suc (slot_of layout x)) < suc (length layout)
      go true h on = omega arith
      go false h on = let rest = on (omega (arith, h)) in omega (arith, rest)

-- the first name of those that follow, and another one
pub first_slot : (x : List ℕ) (more : Layout) → slot_of (x ∷ more) x ≡ 0
first_slot x more = ap (λ (b : Bool). cond b 0 (suc (slot_of more x))) (names_same x x refl)

pub next_slot : (x y : List ℕ) (more : Layout) → x ≢ y → slot_of (x ∷ more) y ≡ suc (slot_of more y)
next_slot x y more other = ap (λ (b : Bool). cond b 0 (suc (slot_of more y))) (names_other x y other)

-- a declared name is none that isn't declared
pub apart_from : (scope : Scope) (x y : List ℕ) (d : Declaration) → declared scope x ≡ None → declared scope y ≡ Some d → x ≢ y
apart_from scope x y d none found e = none_and_some (ap (declared scope) (sym e) ∙ none) found

module _ (lengths : List ℕ) (scope : Scope) (layout : Layout) (f : Frame) (own : FrameWord → ℕ) (h : Holds lengths scope layout f own) where
  -- with a word after the slots of the names
  pub holds_behind : (i w : ℕ) → length layout ≤ i → Holds lengths scope layout f (with_value (Some i) w own)
  holds_behind i w far = record {
    local = λ x d found kind has. subst (λ (w : ℕ). HoldsValue w (f.locals x))
        (sym (other_slot own i w (slot_of layout x) (λ e. absurd (omega (arith, e, far, has))))) (h.local x d found kind has);
    region = λ x d found kind has. other_slot own i w (slot_of layout x) (λ e. absurd (omega (arith, e, far, has))) ∙ h.region x d found kind has;
    value = h.value;
  }

  -- with a new local, which has the first slot after the layout
  module _ (x : Named) (v : ℤ) (w : ℕ) (new : IsNew layout x.name) (none : declared scope x.name ≡ None) (is : HoldsValue w v) where
    abbrev more : Scope
    more = plain mode.Int x ∷ []

    abbrev longer : Layout
    longer = layout ++ x.name ∷ []

    abbrev own' : FrameWord → ℕ
    own' = with_value (Some (length layout)) w own

    -- an older name is as it was
    older : (y : List ℕ) (d : Declaration) → declared scope y ≡ Some d → Has longer y
        → Has layout y × (own' (Slot (slot_of longer y)) ≡ own (Slot (slot_of layout y))) × (bytes_eq x.name y ≡ false)
    older y d found has =
        let other = apart_from scope x.name y d none found in
        let old : Has layout y = has_before y layout (x.name ∷ []) (next_slot x.name y [] other) has in
        let slot : slot_of longer y ≡ slot_of layout y = slot_in_front y layout (x.name ∷ []) old in (
          old,
          ap (λ (k : ℕ). own' (Slot k)) slot ∙ other_slot own (length layout) w (slot_of layout y) (λ e. absurd (omega (arith, e, old))),
          names_other x.name y other,
        )

    new_slot : own' (Slot (slot_of longer x.name)) ≡ w
    new_slot =
        let slot : slot_of longer x.name ≡ length layout = slot_behind x.name layout (x.name ∷ []) new ∙ omega (arith, first_slot x.name []) in
        ap (λ (k : ℕ). own' (Slot k)) slot ∙ stored_slot own (length layout) w

    -- what is declared further on is the local
    the_local : (y : List ℕ) (d : Declaration) → declared scope y ≡ None → declared (scope ++ more) y ≡ Some d
        → (x.name ≡ y) × (is_region d.mode ≡ false)
    the_local y d missing found = go (bytes_eq x.name y) refl (sym (declared_behind y scope more missing) ∙ found)
      where
        go : (b : Bool) → bytes_eq x.name y ≡ b → cond b (Some (plain mode.Int x)) None ≡ Some d → (x.name ≡ y) × (is_region d.mode ≡ false)
        go true e h =
            (same_names x.name y e, ap (λ (d : Declaration). is_region d.mode) (sym (some_same {o = Some (plain mode.Int x)} refl h)))
        go false e h = absurd (none_and_some refl h)

    pub holds_let : Holds lengths (scope ++ more) longer (with_local f x.name v) own'
    holds_let = record {
      local = λ y d found kind has. elim (found_cases (declared scope y)) [
        | inr c ↦
            let o = older y c.0 c.1 has in
            let one = some_same (declared_in_front y scope more c.0 c.1) found in
            subst₂ HoldsValue (sym o.1) (ap (λ (b : Bool). cond b v (f.locals y)) (sym o.2))
            (h.local y c.0 c.1 (ap (λ (d : Declaration). is_region d.mode) one ∙ kind) o.0)
        | inl missing ↦
            let o = the_local y d missing found in
            subst (λ (y : List ℕ). HoldsValue (own' (Slot (slot_of longer y))) ((with_local f x.name v).locals y)) o.0
            (subst₂ HoldsValue (sym new_slot) (ap (λ (b : Bool). cond b v (f.locals x.name)) (sym (names_same x.name x.name refl))) is)
      ];
      region = λ y d found kind has. elim (found_cases (declared scope y)) [
        | inr c ↦
            let o = older y c.0 c.1 has in
            let one = some_same (declared_in_front y scope more c.0 c.1) found in
            o.1 ∙ h.region y c.0 c.1 (ap (λ (d : Declaration). is_region d.mode) one ∙ kind) o.0
        | inl missing ↦ let o = the_local y d missing found in absurd (clash (sym kind ∙ o.1))
      ];
      value = h.value;
    }
      where
        clash : true ≡ false → ⊥
        clash e = cc
