-- Frames that hold a meaning's frame still do in front of what was declared, and with a value in a target.
use Rattle.std.proofs.Common.{◌≡◌, ℕ, ℤ, cond, Bool, true, false, List, [], ◌∷◌, ◌++◌, Option, Some, None}
use Rattle.std.proofs.Common.{map, get_or, ◌==◌, refl, sym, ap, ◌∙◌, subst, append-nil}
use Rattle.std.proofs.lemmas.Bool.{eq-eqb, ne_eqb}
use Rattle.std.specs.Str.{bytes_eq}
use Rattle.ppm_code.specs.declared.location.FrameWord.{FrameWord}
use Rattle.ppm_code.specs.declared.location.FrameWord.TheVariants.{Slot}
use Rattle.ppm_code.specs.Strands.{with_value}
use Rattle.ppm_tree.specs.declared.named.Named.{Named}
use Rattle.ppm_tree.specs.Tree.{Statement, Let, Assign, Put, If, While, Split, Each}
use Rattle.ppm_tree.specs.Tree as tree
use Rattle.ppm_tree.specs.State.{Region, Frame, Locals, with_locals, delivered, first_part, second_part}
use Rattle.ppm_tree.specs.Meaning.{with_parts as parts_frame}
use Rattle.ppm_regions.specs.Scope.{Declaration, Scope, declared, is_region, lets_of, split_scope, parts_of, seen_in_split}
use Rattle.ppm_regions.proofs.ScopeLemmas.{declared_in_front, declared_map, same_names, names_other, other_names, some_same, none_and_some}
use Rattle.std.specs.Option.{option_map}
use Rattle.ppm_cut_code.specs.Layout.{Layout, slot_of, target_of}
use Rattle.ppm_cut_code.specs.Fits.{Has, FitsTarget}
use Rattle.ppm_cut_code.specs.Statements.{with_lets, with_parts}
use Rattle.ppm_cut_code.proofs.LayoutLemmas.{slot_in_front, has_in_front}
use Rattle.ppm_cut_code.proofs.RegionWords.{region_word}
use Rattle.ppm_cut_correct.proofs.Holding.{HoldsValue, Holds}
use Rattle.ppm_cut_correct.proofs.SlotLemmas.{named_at}

-- names with one slot are one
one_name : (layout : Layout) (x y : List ℕ) → Has layout x → Has layout y → slot_of layout x ≡ slot_of layout y → x ≡ y
one_name layout x y hx hy e = sym (named_at layout x hx) ∙ ap (λ (k : ℕ). get_or layout k []) e ∙ named_at layout y hy

module _ (lengths : List ℕ) where
  -- in front of what was declared further on
  pub holds_front : (scope more : Scope) (layout others : Layout) (f : Frame) (own : FrameWord → ℕ)
      → Holds lengths (scope ++ more) (layout ++ others) f own
      → Holds lengths scope layout f own
  holds_front scope more layout others f own h = record {
    local = λ x d found kind has. subst (λ (k : ℕ). HoldsValue (own (Slot k)) (f.locals x)) (slot_in_front x layout others has)
        (h.local x d (declared_in_front x scope more d found) kind (has_in_front x layout others has));
    region = λ x d found kind has. ap (λ (k : ℕ). own (Slot k)) (sym (slot_in_front x layout others has))
        ∙ h.region x d (declared_in_front x scope more d found) kind (has_in_front x layout others has);
    value = h.value;
  }

  no_names : (scope : Scope) (layout : Layout) (f : Frame) (own : FrameWord → ℕ) → Holds lengths (scope ++ []) layout f own
      → Holds lengths scope layout f own
  no_names scope layout f own h = subst (λ (s : Scope). Holds lengths s layout f own) (append-nil scope) h

  -- what was held before a statement is held after it
  pub holds_before : (s : Statement) (scope : Scope) (layout : Layout) (f : Frame) (own : FrameWord → ℕ)
      → Holds lengths (scope ++ lets_of s) (with_lets layout s) f own → Holds lengths scope layout f own
  holds_before (Let x e) scope layout f own h = holds_front scope (lets_of (Let x e)) layout (x.name ∷ []) f own h
  holds_before (Assign x e) scope layout f own h = no_names scope layout f own h
  holds_before (Put x i e) scope layout f own h = no_names scope layout f own h
  holds_before (If e u v) scope layout f own h = no_names scope layout f own h
  holds_before (While e u) scope layout f own h = no_names scope layout f own h
  holds_before (tree.Call u) scope layout f own h = no_names scope layout f own h
  holds_before (tree.Fork u v) scope layout f own h = no_names scope layout f own h
  holds_before (Split line r e x y u) scope layout f own h = no_names scope layout f own h
  holds_before (Each i x r u) scope layout f own h = no_names scope layout f own h

  -- what was held before a split is held after it
  module _ (scope : Scope) (layout : Layout) (f : Frame) (r x y : Named) (q : Region) (n : ℕ) (l : Locals) (own : FrameWord → ℕ)
      (new_x : declared scope x.name ≡ None) (new_y : declared scope y.name ≡ None) where
    in_parts : (z : List ℕ) (d : Declaration) → declared scope z ≡ Some d → declared (split_scope scope r x y) z ≡ Some (seen_in_split r d)
    in_parts z d found = declared_in_front z (map (seen_in_split r) scope) (parts_of scope r x y) (seen_in_split r d)
        (declared_map z (seen_in_split r) (λ d. refl) scope ∙ ap (option_map (seen_in_split r)) found)

    apart : (w z : List ℕ) (d : Declaration) → declared scope w ≡ None → declared scope z ≡ Some d → bytes_eq w z ≡ false
    apart w z d none found = names_other w z (λ e. none_and_some (ap (declared scope) (sym e) ∙ none) found)

    same_region : (z : List ℕ) (d : Declaration) → declared scope z ≡ Some d → (parts_frame f q n x y).regions z ≡ f.regions z
    same_region z d found =
        ap (λ (b : Bool). cond b (second_part n q) (cond (bytes_eq x.name z) (first_part n q) (f.regions z))) (apart y.name z d new_y found)
        ∙ ap (λ (b : Bool). cond b (first_part n q) (f.regions z)) (apart x.name z d new_x found)

    pub holds_whole : Holds lengths (split_scope scope r x y) (with_parts layout x y) (with_locals (parts_frame f q n x y) l) own
        → Holds lengths scope layout (with_locals f l) own
    holds_whole h = record {
      local = λ z d found kind has. subst (λ (k : ℕ). HoldsValue (own (Slot k)) (l z)) (slot_in_front z layout (x.name ∷ y.name ∷ []) has)
          (h.local z (seen_in_split r d) (in_parts z d found) kind (has_in_front z layout (x.name ∷ y.name ∷ []) has));
      region = λ z d found kind has. ap (λ (k : ℕ). own (Slot k)) (sym (slot_in_front z layout (x.name ∷ y.name ∷ []) has))
          ∙ h.region z (seen_in_split r d) (in_parts z d found) kind (has_in_front z layout (x.name ∷ y.name ∷ []) has)
          ∙ ap (region_word lengths) (same_region z d found);
      value = h.value;
    }

  -- a value in a target
  pub holds_delivered : (scope : Scope) (layout : Layout) (f : Frame) (own : FrameWord → ℕ) (x : Option Named) (word : ℕ) (v : ℤ)
      → FitsTarget scope layout x → HoldsValue word v → Holds lengths scope layout f own
      → Holds lengths scope layout (delivered x v f) (with_value (target_of layout x) word own)
  holds_delivered scope layout f own None word v fits value h = record { local = h.local; region = h.region; value = h.value }
  holds_delivered scope layout f own (Some x) word v fits value h = record {
    local = λ z d found kind has. at z has (h.local z d found kind has) (bytes_eq x.name z) refl;
    region = λ z d found kind has. ap (λ (b : Bool). cond b word (own (Slot (slot_of layout z)))) (other_slot z d found kind has)
        ∙ h.region z d found kind has;
    value = h.value;
  }
    where
      at : (z : List ℕ) → Has layout z → HoldsValue (own (Slot (slot_of layout z))) (f.locals z) → (b : Bool) → bytes_eq x.name z ≡ b
          → HoldsValue (cond (slot_of layout z == slot_of layout x.name) word (own (Slot (slot_of layout z)))) (cond b v (f.locals z))
      at z has old true e = subst (λ (b : Bool). HoldsValue (cond b word (own (Slot (slot_of layout z)))) v)
          (sym (eq-eqb (slot_of layout z) (slot_of layout x.name) (ap (slot_of layout) (sym (same_names x.name z e))))) value
      at z has old false e = subst (λ (b : Bool). HoldsValue (cond b word (own (Slot (slot_of layout z)))) (f.locals z))
          (sym (ne_eqb (slot_of layout z) (slot_of layout x.name) (λ s. other_names x.name z e (sym (one_name layout z x.name has fits.has s))))) old

      other_slot : (z : List ℕ) (d : Declaration) → declared scope z ≡ Some d → is_region d.mode ≡ true → Has layout z
          → (slot_of layout z == slot_of layout x.name) ≡ false
      other_slot z d found kind has = ne_eqb (slot_of layout z) (slot_of layout x.name) (λ s.
          let same = one_name layout z x.name has fits.has s in
          let one = some_same found (ap (declared scope) same ∙ fits.found) in
          let kinds = ap (λ (d : Declaration). is_region d.mode) one in
          absurd (clash (sym kind ∙ kinds ∙ fits.kind)))
        where
          clash : true ≡ false → ⊥
          clash e = cc
