-- Slots of names in layouts, and how a frame of the hidden procedure of an `each` is held.
use Rattle.std.proofs.Common.{◌≡◌, ◌≢◌, ◌<◌, ℕ, suc, pos, cond, Bool, true, false, List, [], ◌∷◌, Some, None}
use Rattle.std.proofs.Common.{get_or, length, inl, inr, Option, refl, sym, ap, ◌∙◌, subst, arith}
use Rattle.std.specs.List.{filter}
use Rattle.std.specs.Str.{bytes_eq}
use Rattle.std.specs.Option.{option_map}
use Rattle.ppm_code.specs.declared.location.FrameWord.{FrameWord}
use Rattle.ppm_code.specs.declared.location.FrameWord.TheVariants.{Slot, Value}
use Rattle.ppm_tree.specs.declared.named.Named.{Named}
use Rattle.ppm_tree.specs.declared.mode.Mode.TheVariants as mode
use Rattle.ppm_tree.specs.Tree.{Block}
use Rattle.ppm_tree.specs.State.{Region, Frame}
use Rattle.ppm_ownership.specs.Coming.{stretch}
use Rattle.ppm_regions.proofs.ScopeLemmas.{names_same, same_names, names_other, found_cases, none_and_some, some_same}
use Rattle.ppm_regions.proofs.ScopeLemmas.{declared_in_front, declared_behind, declared_map, image_of}
use Rattle.ppm_regions.specs.Scope.{Declaration, Scope, declared, is_region, part, part_mode, index_of, in_each, element_of, seen_in_each}
use Rattle.ppm_cut_code.specs.Layout.{Layout, slot_of, caught}
use Rattle.ppm_regions.specs.Scope.{each_scope}
use Rattle.ppm_cut_code.specs.Fits.{Has}
use Rattle.ppm_cut_code.specs.Statements.{hidden_layout}
use Rattle.ppm_cut_code.proofs.RegionWords.{region_word}
use Rattle.ppm_cut_correct.proofs.Holding.{HoldsValue, Holds, sweep_frame}

-- at the slot of a name stands the name
pub named_at : (layout : Layout) (x : List ℕ) → Has layout x → get_or layout (slot_of layout x) [] ≡ x
named_at [] x h = absurd (omega (arith, h))
named_at (y ∷ layout) x h = go (named_at layout x) (bytes_eq y x) refl h
  where
    go : (Has layout x → get_or layout (slot_of layout x) [] ≡ x) → (b : Bool) → bytes_eq y x ≡ b
        → cond b 0 (suc (slot_of layout x)) < suc (length layout) → get_or (y ∷ layout) (cond b 0 (suc (slot_of layout x))) [] ≡ x
    go on true e h = same_names y x e
    go on false e h = on (omega (arith, h))

-- a name that a filter keeps was there
kept_has : (p : List ℕ → Bool) (layout : Layout) (x : List ℕ) → Has (filter p layout) x → Has layout x
kept_has p [] x h = h
kept_has p (y ∷ layout) x h = go (kept_has p layout x) (p y) h (bytes_eq y x) refl
  where
    later : (b : Bool) → slot_of layout x < length layout → cond b 0 (suc (slot_of layout x)) < suc (length layout)
    later true h = omega arith
    later false h = omega (arith, h)

    go : (Has (filter p layout) x → Has layout x) → (c : Bool) → Has (cond c (y ∷ filter p layout) (filter p layout)) x
        → (b : Bool) → bytes_eq y x ≡ b → Has (y ∷ layout) x
    go on false h b e = later (bytes_eq y x) (on h)
    go on true h true e = subst (λ (b : Bool). cond b 0 (suc (slot_of layout x)) < suc (length layout)) (sym e) (omega arith)
    go on true h false e =
        let rest : suc (slot_of (filter p layout) x) < suc (length (filter p layout)) =
        subst (λ (b : Bool). cond b 0 (suc (slot_of (filter p layout) x)) < suc (length (filter p layout))) e h in
        later (bytes_eq y x) (on (omega (arith, rest)))

-- a part is a region
pub part_is_region : (o : Option Declaration) → is_region (part_mode o) ≡ true
part_is_region None = refl
part_is_region (Some d) = go (is_region d.mode) refl
  where
    go : (b : Bool) → is_region d.mode ≡ b → is_region (cond b d.mode mode.Mut) ≡ true
    go true e = e
    go false e = refl

module _ (lengths : List ℕ) (scope : Scope) (layout : Layout) (f : Frame) (i x r : Named) (block : Block)
    (other : i.name ≢ x.name) (no_i : declared scope i.name ≡ None) (no_x : declared scope x.name ≡ None) where
  abbrev pub names : Layout
  names = caught layout block

  abbrev hidden : Layout
  hidden = hidden_layout layout i x block

  abbrev inner : Scope
  inner = each_scope scope r i x

  -- the slot of a name by whether it is the part or the index
  abbrev slot_by : (is_part is_index : Bool) → List ℕ → ℕ
  slot_by b c y = cond b 0 (suc (cond c 0 (suc (slot_of names y))))

  -- a name of the block that has a slot: the part, the index, or one of outside
  data Inside (y : List ℕ) (e : Declaration) : Type 0 where
    IsPart : x.name ≡ y → is_region e.mode ≡ true → Inside y e
    IsIndex : bytes_eq x.name y ≡ false → i.name ≡ y → is_region e.mode ≡ false → Inside y e
    IsCaught : (d : Declaration) → declared scope y ≡ Some d → is_region d.mode ≡ is_region e.mode
        → bytes_eq x.name y ≡ false → bytes_eq i.name y ≡ false → Has names y → Inside y e

  outside : (y : List ℕ) (d : Declaration) → declared scope y ≡ Some d → (bytes_eq x.name y ≡ false) × (bytes_eq i.name y ≡ false)
  outside y d found = (
    names_other x.name y (λ e. none_and_some no_x (subst (λ (z : List ℕ). declared scope z ≡ Some d) (sym e) found)),
    names_other i.name y (λ e. none_and_some no_i (subst (λ (z : List ℕ). declared scope z ≡ Some d) (sym e) found)),
  )

  caught_has : (y : List ℕ) → bytes_eq x.name y ≡ false → bytes_eq i.name y ≡ false → Has hidden y → Has names y
  caught_has y not_x not_i h =
      let g : slot_by false (bytes_eq i.name y) y < suc (suc (length names)) =
      subst (λ (b : Bool). slot_by b (bytes_eq i.name y) y < suc (suc (length names))) not_x h in
      let k : slot_by false false y < suc (suc (length names)) = subst (λ (b : Bool). slot_by false b y < suc (suc (length names))) not_i g in
      omega (arith, k)

  caught_slot : (y : List ℕ) → bytes_eq x.name y ≡ false → bytes_eq i.name y ≡ false → slot_of hidden y ≡ suc (suc (slot_of names y))
  caught_slot y not_x not_i = ap (λ (b : Bool). slot_by b (bytes_eq i.name y) y) not_x ∙ ap (λ (b : Bool). slot_by false b y) not_i

  inside : (y : List ℕ) (e : Declaration) → declared inner y ≡ Some e → Has hidden y → Inside y e
  inside y e found has = elim (found_cases (declared (in_each scope r) y)) [
    | inr c ↦ around c.0 c.1 (some_same (declared_in_front y (in_each scope r) (element_of scope r i x) c.0 c.1) found)
    | inl none ↦ go (bytes_eq i.name y) refl (bytes_eq x.name y) refl
        (sym (declared_behind y (in_each scope r) (element_of scope r i x) none) ∙ found)
  ]
    where
      around : (c : Declaration) → declared (in_each scope r) y ≡ Some c → c ≡ e → Inside y e
      around c there same =
          let d = image_of (seen_in_each r) (declared scope y) c (sym (declared_map y (seen_in_each r) (λ d. refl) scope) ∙ there) in
          let o = outside y d.0 d.1 in
          IsCaught d.0 d.1 (ap (λ (e : Declaration). is_region e.mode) (d.2 ∙ same)) o.0 o.1 (caught_has y o.0 o.1 has)

      go : (c : Bool) → bytes_eq i.name y ≡ c → (b : Bool) → bytes_eq x.name y ≡ b
          → cond c (Some (index_of i)) (cond b (Some (part scope r x)) None) ≡ Some e → Inside y e
      go true p b q h =
          let same = same_names i.name y p in
          IsIndex (names_other x.name y (λ e. other (same ∙ sym e))) same
          (ap (λ (d : Declaration). is_region d.mode) (sym (some_same {o = Some (index_of i)} refl h)))
      go false p true q h = IsPart (same_names x.name y q)
          (ap (λ (d : Declaration). is_region d.mode) (sym (some_same {o = Some (part scope r x)} refl h)) ∙ part_is_region (declared scope r.name))
      go false p false q h = absurd (none_and_some refl h)

  -- the slots of the names of outside hold what these stand for
  pub record Catches (own : FrameWord → ℕ) : Type 0 where
    pub local : (y : List ℕ) (d : Declaration) → declared scope y ≡ Some d → is_region d.mode ≡ false → Has names y
        → HoldsValue (own (Slot (suc (suc (slot_of names y))))) (f.locals y)
    pub region : (y : List ℕ) (d : Declaration) → declared scope y ≡ Some d → is_region d.mode ≡ true → Has names y
        → own (Slot (suc (suc (slot_of names y)))) ≡ region_word lengths (f.regions y)

  module _ (q : Region) where
    -- a frame holds the hidden procedure's, with any part of the region in hand
    pub sweep_holds : (own : FrameWord → ℕ) (n m : ℕ) → Catches own → own (Slot 0) ≡ region_word lengths (stretch n m q)
        → HoldsValue (own (Slot 1)) (pos n) → own Value ≡ 0 → Holds lengths inner hidden (sweep_frame f q n m i x) own
    sweep_holds own n m catches at_part at_index at_value = record {
      local = λ y e found kind has. local_of y e kind (inside y e found has);
      region = λ y e found kind has. region_of y e kind (inside y e found has);
      value = at_value;
    }
      where
        local_of : (y : List ℕ) (e : Declaration) → is_region e.mode ≡ false → Inside y e
            → HoldsValue (own (Slot (slot_of hidden y))) ((sweep_frame f q n m i x).locals y)
        local_of y e kind (IsPart same region) = absurd (let t : true ≡ false = sym region ∙ kind in cc)
        local_of y e kind (IsIndex not_x same local) =
            let is_slot : slot_of hidden y ≡ 1 =
            ap (λ (b : Bool). slot_by b (bytes_eq i.name y) y) not_x ∙ ap (λ (b : Bool). slot_by false b y) (names_same i.name y same) in
            let is_value : (sweep_frame f q n m i x).locals y ≡ pos n = ap (λ (b : Bool). cond b (pos n) (f.locals y)) (names_same i.name y same) in
            subst (λ (k : ℕ). HoldsValue (own (Slot k)) ((sweep_frame f q n m i x).locals y)) (sym is_slot)
            (subst (HoldsValue (own (Slot 1))) (sym is_value) at_index)
        local_of y e kind (IsCaught d found same not_x not_i has) =
            let is_value : (sweep_frame f q n m i x).locals y ≡ f.locals y = ap (λ (b : Bool). cond b (pos n) (f.locals y)) not_i in
            subst (λ (k : ℕ). HoldsValue (own (Slot k)) ((sweep_frame f q n m i x).locals y)) (sym (caught_slot y not_x not_i))
            (subst (HoldsValue (own (Slot (suc (suc (slot_of names y)))))) (sym is_value) (catches.local y d found (same ∙ kind) has))

        region_of : (y : List ℕ) (e : Declaration) → is_region e.mode ≡ true → Inside y e
            → own (Slot (slot_of hidden y)) ≡ region_word lengths ((sweep_frame f q n m i x).regions y)
        region_of y e kind (IsPart same region) =
            ap (λ (b : Bool). own (Slot (slot_by b (bytes_eq i.name y) y))) (names_same x.name y same) ∙ at_part
            ∙ ap (λ (b : Bool). region_word lengths (cond b (stretch n m q) (f.regions y))) (sym (names_same x.name y same))
        region_of y e kind (IsIndex not_x same local) = absurd (let t : true ≡ false = sym kind ∙ local in cc)
        region_of y e kind (IsCaught d found same not_x not_i has) =
            ap (λ (k : ℕ). own (Slot k)) (caught_slot y not_x not_i) ∙ catches.region y d found (same ∙ kind) has
            ∙ ap (λ (b : Bool). region_word lengths (cond b (stretch n m q) (f.regions y))) (sym not_x)

    -- its halves catch what it has caught
    pub half_catches : (n m : ℕ) (own own' : FrameWord → ℕ) → Holds lengths inner hidden (sweep_frame f q n m i x) own
        → ((k : ℕ) → k < length names → own' (Slot (suc (suc k))) ≡ own (Slot (suc (suc k)))) → Catches own'
    half_catches n m own own' h keeps = record { local = local_held; region = region_held }
      where
        seen : (y : List ℕ) (d : Declaration) → declared scope y ≡ Some d → declared inner y ≡ Some (seen_in_each r d)
        seen y d found = declared_in_front y (in_each scope r) (element_of scope r i x) (seen_in_each r d)
            (declared_map y (seen_in_each r) (λ d. refl) scope ∙ ap (option_map (seen_in_each r)) found)

        has_slot : (y : List ℕ) (d : Declaration) → declared scope y ≡ Some d → slot_of hidden y ≡ suc (suc (slot_of names y))
        has_slot y d found = let o = outside y d found in caught_slot y o.0 o.1

        local_held : (y : List ℕ) (d : Declaration) → declared scope y ≡ Some d → is_region d.mode ≡ false → Has names y
            → HoldsValue (own' (Slot (suc (suc (slot_of names y))))) (f.locals y)
        local_held y d found kind has =
            let o = outside y d found in
            let is_slot = has_slot y d found in
            let is_value : (sweep_frame f q n m i x).locals y ≡ f.locals y = ap (λ (b : Bool). cond b (pos n) (f.locals y)) o.1 in
            subst (λ (w : ℕ). HoldsValue w (f.locals y)) (ap (λ (k : ℕ). own (Slot k)) is_slot ∙ sym (keeps (slot_of names y) has))
            (subst (HoldsValue (own (Slot (slot_of hidden y)))) is_value
            (h.local y (seen_in_each r d) (seen y d found) kind (omega (arith, is_slot, has))))

        region_held : (y : List ℕ) (d : Declaration) → declared scope y ≡ Some d → is_region d.mode ≡ true → Has names y
            → own' (Slot (suc (suc (slot_of names y)))) ≡ region_word lengths (f.regions y)
        region_held y d found kind has =
            let o = outside y d found in
            let is_slot = has_slot y d found in
            keeps (slot_of names y) has ∙ ap (λ (k : ℕ). own (Slot k)) (sym is_slot)
            ∙ h.region y (seen_in_each r d) (seen y d found) kind (omega (arith, is_slot, has))
            ∙ ap (λ (b : Bool). region_word lengths (cond b (stretch n m q) (f.regions y))) o.0

    not_around : (y : List ℕ) → declared scope y ≡ None → declared (in_each scope r) y ≡ None
    not_around y none = declared_map y (seen_in_each r) (λ d. refl) scope ∙ ap (option_map (seen_in_each r)) none

    -- the slots of the part and of the first index
    pub part_slot : (n m : ℕ) (own : FrameWord → ℕ) → Holds lengths inner hidden (sweep_frame f q n m i x) own
        → own (Slot 0) ≡ region_word lengths (stretch n m q)
    part_slot n m own h =
        let same = names_same x.name x.name refl in
        let found : declared inner x.name ≡ Some (part scope r x) =
        declared_behind x.name (in_each scope r) (element_of scope r i x) (not_around x.name no_x)
        ∙ ap (λ (c : Bool). cond c (Some (index_of i)) (cond (bytes_eq x.name x.name) (Some (part scope r x)) None)) (names_other i.name x.name other)
        ∙ ap (λ (c : Bool). cond c (Some (part scope r x)) None) same in
        let is_slot : slot_of hidden x.name ≡ 0 = ap (λ (b : Bool). slot_by b (bytes_eq i.name x.name) x.name) same in
        ap (λ (k : ℕ). own (Slot k)) (sym is_slot)
        ∙ h.region x.name (part scope r x) found (part_is_region (declared scope r.name)) (omega (arith, is_slot))
        ∙ ap (λ (b : Bool). region_word lengths (cond b (stretch n m q) (f.regions x.name))) same

    pub index_slot : (n m : ℕ) (own : FrameWord → ℕ) → Holds lengths inner hidden (sweep_frame f q n m i x) own → HoldsValue (own (Slot 1)) (pos n)
    index_slot n m own h =
        let same = names_same i.name i.name refl in
        let not_x = names_other x.name i.name (λ e. other (sym e)) in
        let found : declared inner i.name ≡ Some (index_of i) =
        declared_behind i.name (in_each scope r) (element_of scope r i x) (not_around i.name no_i)
        ∙ ap (λ (c : Bool). cond c (Some (index_of i)) (cond (bytes_eq x.name i.name) (Some (part scope r x)) None)) same in
        let is_slot : slot_of hidden i.name ≡ 1 =
        ap (λ (b : Bool). slot_by b (bytes_eq i.name i.name) i.name) not_x ∙ ap (λ (b : Bool). slot_by false b i.name) same in
        let is_value : (sweep_frame f q n m i x).locals i.name ≡ pos n = ap (λ (b : Bool). cond b (pos n) (f.locals i.name)) same in
        subst (λ (k : ℕ). HoldsValue (own (Slot k)) (pos n)) is_slot
        (subst (HoldsValue (own (Slot (slot_of hidden i.name)))) is_value (h.local i.name (index_of i) found refl (omega (arith, is_slot))))

  -- where slots are loaded from those of the names, they are caught
  pub each_catches : (own own' : FrameWord → ℕ) → Holds lengths scope layout f own
      → ((k : ℕ) → k < length names → own' (Slot (suc (suc k))) ≡ own (Slot (slot_of layout (get_or names k [])))) → Catches own'
  each_catches own own' h keeps = record {
    local = λ y d found kind has. subst (λ (w : ℕ). HoldsValue w (f.locals y)) (sym (at_slot y has))
        (h.local y d found kind (kept_has _ layout y has));
    region = λ y d found kind has. at_slot y has ∙ h.region y d found kind (kept_has _ layout y has);
  }
    where
      at_slot : (y : List ℕ) → Has names y → own' (Slot (suc (suc (slot_of names y)))) ≡ own (Slot (slot_of layout y))
      at_slot y has = keeps (slot_of names y) has ∙ ap (λ (z : List ℕ). own (Slot (slot_of layout z))) (named_at names y has)
