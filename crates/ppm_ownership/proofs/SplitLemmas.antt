-- The parts of a region: what the block of a split and a block of an `each` own comes from the frame around them, and is apart.
use Rattle.std.proofs.Common.{◌≡◌, ◌≢◌, ◌≤◌, inl, inr, cond, Bool, true, false, ◌||◌, ℕ, List, [], ◌∷◌, ◌++◌, Option, Some, None, refl, sym, ap, ◌∙◌, subst}
use Rattle.std.specs.Str.{bytes_eq}
use Rattle.ppm_tree.specs.declared.mode.Mode.TheVariants as mode
use Rattle.ppm_tree.specs.declared.named.Named.{Named}
use Rattle.ppm_tree.specs.State.{Region, Regions, Frame, first_part, second_part, with_name}
use Rattle.ppm_regions.specs.Scope.{Declaration, Scope, declared, is_region, part_mode, is_outer, part, seen_in_split, seen_in_each, in_split, in_each}
use Rattle.ppm_regions.specs.Scope.{parts_of, element_of, index_of}
use Rattle.ppm_ownership.specs.Words.{HasWord, ShareNoWord, IsPart}
use Rattle.ppm_ownership.specs.Owning.{IsSeen, IsMut, OwnsApart, Owns, MayWrite}
use Rattle.ppm_regions.specs.Scope.{split_scope, each_scope}
use Rattle.ppm_ownership.specs.Coming.{split_frame, part_frame}
use Rattle.ppm_regions.proofs.ScopeLemmas.{names_same, same_names, names_other, other_names, found_cases, none_and_some, some_same}
use Rattle.ppm_regions.proofs.ScopeLemmas.{declared_in_front, declared_behind, declared_name, declared_map, image_of}
use Rattle.ppm_ownership.proofs.ScopeLemmas.{mut_is_region}
use Rattle.ppm_ownership.proofs.PartLemmas.{Origin, ComesFrom, apart_by_origin, part_of_itself, first_in, second_in}
use Rattle.ppm_ownership.proofs.PartLemmas.{halves_share_none, share_none_back}

or_left : (a b : Bool) → a || b ≡ false → a ≡ false
or_left false b h = refl
or_left true b h = absurd (cc)

or_right : (a b : Bool) → a || b ≡ false → b ≡ false
or_right false b h = h
or_right true b h = absurd (cc)

true_and_false : true ≡ false → ⊥
true_and_false e = cc

-- a part has the mode of its region, and is outer where that is
pub mode_of_part : (o : Option Declaration) (d : Declaration) → o ≡ Some d → is_region d.mode ≡ true → part_mode o ≡ d.mode
mode_of_part o d is region = ap part_mode is ∙ ap (λ (b : Bool). cond b d.mode mode.Mut) region

pub outer_of_part : (o : Option Declaration) (d : Declaration) → o ≡ Some d → is_outer o ≡ d.outer
outer_of_part o d is = ap is_outer is

module _ (scope : Scope) (r : Named) (whole : IsSeen scope r.name) where
  -- the region itself, as the origin of a part
  abbrev part_origin : (regions : Regions) (x : Named) (e : Declaration) (q : Region) → part scope r x ≡ e → IsPart q (regions r.name)
      → Origin scope regions e q
  part_origin regions x e q is p = record {
    name = r.name;
    declaration = whole.declaration;
    found = whole.found;
    region = whole.region;
    shown = whole.shown;
    written = λ m. sym (mode_of_part (declared scope r.name) whole.declaration whole.found whole.region) ∙ (ap (λ (e : Declaration). e.mode) is ∙ m);
    inner = λ m n. sym (outer_of_part (declared scope r.name) whole.declaration whole.found) ∙ (ap (λ (e : Declaration). e.outer) is ∙ n);
    part = p;
  }

  module _ (x y : Named) (f : Frame) (n : ℕ) (short : n ≤ (f.regions r.name).length)
      (x_new : declared (in_split scope r) x.name ≡ None) (y_new : declared (in_split scope r ++ part scope r x ∷ []) y.name ≡ None) where
    -- the regions of the block
    abbrev halves : Regions
    halves = (split_frame f r n x y).regions

    -- a region of the block is one of outside, or one of the parts
    data OfSplit (z : List ℕ) (e : Declaration) : Type 0 where
      Outside : (d : Declaration) → declared scope z ≡ Some d → seen_in_split r d ≡ e → z ≢ r.name → halves z ≡ f.regions z → OfSplit z e
      First : x.name ≡ z → part scope r x ≡ e → halves z ≡ first_part n (f.regions r.name) → OfSplit z e
      Second : y.name ≡ z → part scope r y ≡ e → halves z ≡ second_part n (f.regions r.name) → OfSplit z e

    y_not_x : y.name ≢ x.name
    y_not_x same =
        let last = declared_behind x.name (in_split scope r) (part scope r x ∷ []) x_new in
        let here = ap (λ (b : Bool). cond b (Some (part scope r x)) None) (names_same x.name x.name refl) in
        none_and_some (subst (λ (z : List ℕ). declared (in_split scope r ++ part scope r x ∷ []) z ≡ None) same y_new) (last ∙ here)

    -- what names stand for in the block
    at_second : (z : List ℕ) → y.name ≡ z → halves z ≡ second_part n (f.regions r.name)
    at_second z same = ap (λ (b : Bool). cond b (second_part n (f.regions r.name)) (with_name f.regions x.name (first_part n (f.regions r.name)) z))
        (names_same y.name z same)

    at_other : (z : List ℕ) → y.name ≢ z → halves z ≡ with_name f.regions x.name (first_part n (f.regions r.name)) z
    at_other z other = ap (λ (b : Bool). cond b (second_part n (f.regions r.name)) (with_name f.regions x.name (first_part n (f.regions r.name)) z))
        (names_other y.name z other)

    at_first : (z : List ℕ) → x.name ≡ z → halves z ≡ first_part n (f.regions r.name)
    at_first z same =
        at_other z (λ e. y_not_x (e ∙ sym same)) ∙ ap (λ (b : Bool). cond b (first_part n (f.regions r.name)) (f.regions z)) (names_same x.name z same)

    at_outside : (z : List ℕ) → x.name ≢ z → y.name ≢ z → halves z ≡ f.regions z
    at_outside z p q = at_other z q ∙ ap (λ (b : Bool). cond b (first_part n (f.regions r.name)) (f.regions z)) (names_other x.name z p)

    -- where a declaration of outside is found
    outside : (z : List ℕ) (e c : Declaration) → declared (in_split scope r) z ≡ Some c → c ≡ e → e.hidden ≡ false → OfSplit z e
    outside z e c there same shown =
        let d = image_of (seen_in_split r) (declared scope z) c (sym (declared_map z (seen_in_split r) (λ d. refl) scope) ∙ there) in
        let hidden : (seen_in_split r d.0).hidden ≡ false = ap (λ (e : Declaration). e.hidden) (d.2 ∙ same) ∙ shown in
        let named = declared_name z scope d.0 d.1 in
        Outside d.0 d.1 (d.2 ∙ same) (λ is. other_names d.0.name.name r.name (or_right d.0.hidden (bytes_eq d.0.name.name r.name) hidden) (named ∙ is))
        (at_outside z (λ is. none_and_some (subst (λ (v : List ℕ). declared (in_split scope r) v ≡ None) is x_new) there)
        (λ is. none_and_some (subst (λ (v : List ℕ). declared (in_split scope r ++ part scope r x ∷ []) v ≡ None) is y_new)
        (declared_in_front z (in_split scope r) (part scope r x ∷ []) c there)))

    of_split : (z : List ℕ) (e : Declaration) → declared (split_scope scope r x y) z ≡ Some e → e.hidden ≡ false → OfSplit z e
    of_split z e h shown = elim (found_cases (declared (in_split scope r) z)) [
      | inr c ↦ outside z e c.0 c.1 (some_same (declared_in_front z (in_split scope r) (parts_of scope r x y) c.0 c.1) h) shown
      | inl none ↦ go (bytes_eq x.name z) (bytes_eq y.name z) refl refl (sym (declared_behind z (in_split scope r) (parts_of scope r x y) none) ∙ h)
    ]
      where
        go : (a b : Bool) → bytes_eq x.name z ≡ a → bytes_eq y.name z ≡ b
            → cond a (Some (part scope r x)) (cond b (Some (part scope r y)) None) ≡ Some e → OfSplit z e
        go true b p q h = let same = same_names x.name z p in First same (some_same {o = Some (part scope r x)} refl h) (at_first z same)
        go false true p q h = let same = same_names y.name z q in Second same (some_same {o = Some (part scope r y)} refl h) (at_second z same)
        go false false p q h = absurd (none_and_some refl h)

    -- a region of a split comes from the frame around
    abbrev split_origin : (z : List ℕ) (e : Declaration) → is_region e.mode ≡ true → e.hidden ≡ false → OfSplit z e → Origin scope f.regions e (halves z)
    split_origin z e region shown (Outside d found same other at) = record {
      name = z;
      declaration = d;
      found = found;
      region = subst (λ (e : Declaration). is_region e.mode ≡ true) (sym same) region;
      shown = or_left d.hidden (bytes_eq d.name.name r.name) (subst (λ (e : Declaration). e.hidden ≡ false) (sym same) shown);
      written = λ m. subst (λ (e : Declaration). e.mode ≡ mode.Mut) (sym same) m;
      inner = λ m n. subst (λ (e : Declaration). e.outer ≡ false) (sym same) n;
      part = subst (λ (q : Region). IsPart q (f.regions z)) (sym at) (part_of_itself (f.regions z));
    }
    split_origin z e region shown (First same is at) =
        part_origin f.regions x e (halves z) is (subst (λ (q : Region). IsPart q (f.regions r.name)) (sym at) (first_in (f.regions r.name) n short))
    split_origin z e region shown (Second same is at) =
        part_origin f.regions y e (halves z) is (subst (λ (q : Region). IsPart q (f.regions r.name)) (sym at) (second_in (f.regions r.name) n short))

    pub split_from : ComesFrom (split_scope scope r x y) halves scope f.regions
    split_from = record { origin = λ z e found region shown. split_origin z e region shown (of_split z e found shown) }

    share : (z v : List ℕ) (q w : Region) → halves z ≡ q → halves v ≡ w → ShareNoWord q w → ShareNoWord (halves z) (halves v)
    share z v q w p e h = subst (λ (u : Region). ShareNoWord u (halves v)) (sym p) (subst (λ (u : Region). ShareNoWord q u) (sym e) h)

    split_apart_at : OwnsApart scope f.regions → (z v : List ℕ) (m : IsMut (split_scope scope r x y) z) (k : IsSeen (split_scope scope r x y) v) → z ≢ v
        → OfSplit z m.declaration → OfSplit v k.declaration → ShareNoWord (halves z) (halves v)
    split_apart_at h z v m k other (First same is at) (First same' is' at') = absurd (other (sym same ∙ same'))
    split_apart_at h z v m k other (Second same is at) (Second same' is' at') = absurd (other (sym same ∙ same'))
    split_apart_at h z v m k other (First same is at) (Second same' is' at') =
        share z v (first_part n (f.regions r.name)) (second_part n (f.regions r.name)) at at' (halves_share_none (f.regions r.name) n)
    split_apart_at h z v m k other (Second same is at) (First same' is' at') =
        share z v (second_part n (f.regions r.name)) (first_part n (f.regions r.name)) at at' (share_none_back (halves_share_none (f.regions r.name) n))
    split_apart_at h z v m k other (Outside d found same out at) (Outside d' found' same' out' at') =
        apart_by_origin h (split_origin z m.declaration (mut_is_region m.written) m.shown (Outside d found same out at))
        (split_origin v k.declaration k.region k.shown (Outside d' found' same' out' at')) m.written other
    split_apart_at h z v m k other (Outside d found same out at) (First same' is' at') =
        apart_by_origin h (split_origin z m.declaration (mut_is_region m.written) m.shown (Outside d found same out at))
        (split_origin v k.declaration k.region k.shown (First same' is' at')) m.written out
    split_apart_at h z v m k other (Outside d found same out at) (Second same' is' at') =
        apart_by_origin h (split_origin z m.declaration (mut_is_region m.written) m.shown (Outside d found same out at))
        (split_origin v k.declaration k.region k.shown (Second same' is' at')) m.written out
    split_apart_at h z v m k other (First same is at) (Outside d' found' same' out' at') =
        apart_by_origin h (split_origin z m.declaration (mut_is_region m.written) m.shown (First same is at))
        (split_origin v k.declaration k.region k.shown (Outside d' found' same' out' at')) m.written (λ e. out' (sym e))
    split_apart_at h z v m k other (Second same is at) (Outside d' found' same' out' at') =
        apart_by_origin h (split_origin z m.declaration (mut_is_region m.written) m.shown (Second same is at))
        (split_origin v k.declaration k.region k.shown (Outside d' found' same' out' at')) m.written (λ e. out' (sym e))

    pub split_apart : OwnsApart scope f.regions → OwnsApart (split_scope scope r x y) halves
    split_apart h = record {
      apart = λ z v m k other. split_apart_at h z v m k other (of_split z m.declaration m.found m.shown) (of_split v k.declaration k.found k.shown);
    }

  -- the regions of the block of an `each`, with any part of the region in the place of an element
  module _ (i x : Named) (f : Frame) (q : Region) (short : IsPart q (f.regions r.name))
      (x_new : declared (in_each scope r ++ index_of i ∷ []) x.name ≡ None) where
    -- the regions of the block
    abbrev elements : Regions
    elements = (part_frame f x q).regions

    -- a region of the block is one of outside, or the element
    data OfEach (z : List ℕ) (e : Declaration) : Type 0 where
      Around : (d : Declaration) → declared scope z ≡ Some d → seen_in_each r d ≡ e → z ≢ r.name → elements z ≡ f.regions z → OfEach z e
      Element : x.name ≡ z → part scope r x ≡ e → elements z ≡ q → OfEach z e

    at_element : (z : List ℕ) → x.name ≡ z → elements z ≡ q
    at_element z same = ap (λ (b : Bool). cond b q (f.regions z)) (names_same x.name z same)

    at_around : (z : List ℕ) → x.name ≢ z → elements z ≡ f.regions z
    at_around z other = ap (λ (b : Bool). cond b q (f.regions z)) (names_other x.name z other)

    around : (z : List ℕ) (e c : Declaration) → declared (in_each scope r) z ≡ Some c → c ≡ e → e.hidden ≡ false → OfEach z e
    around z e c there same shown =
        let d = image_of (seen_in_each r) (declared scope z) c (sym (declared_map z (seen_in_each r) (λ d. refl) scope) ∙ there) in
        let hidden : (seen_in_each r d.0).hidden ≡ false = ap (λ (e : Declaration). e.hidden) (d.2 ∙ same) ∙ shown in
        let named = declared_name z scope d.0 d.1 in
        Around d.0 d.1 (d.2 ∙ same) (λ is. other_names d.0.name.name r.name (or_right d.0.hidden (bytes_eq d.0.name.name r.name) hidden) (named ∙ is))
        (at_around z (λ is. none_and_some (subst (λ (v : List ℕ). declared (in_each scope r ++ index_of i ∷ []) v ≡ None) is x_new)
        (declared_in_front z (in_each scope r) (index_of i ∷ []) c there)))

    of_each : (z : List ℕ) (e : Declaration) → declared (each_scope scope r i x) z ≡ Some e → is_region e.mode ≡ true → e.hidden ≡ false → OfEach z e
    of_each z e h region shown = elim (found_cases (declared (in_each scope r) z)) [
      | inr c ↦ around z e c.0 c.1 (some_same (declared_in_front z (in_each scope r) (element_of scope r i x) c.0 c.1) h) shown
      | inl none ↦ go (bytes_eq i.name z) (bytes_eq x.name z) refl (sym (declared_behind z (in_each scope r) (element_of scope r i x) none) ∙ h)
    ]
      where
        go : (a b : Bool) → bytes_eq x.name z ≡ b → cond a (Some (index_of i)) (cond b (Some (part scope r x)) None) ≡ Some e → OfEach z e
        go true b q h =
            let local : false ≡ is_region e.mode = ap (λ (d : Declaration). is_region d.mode) (some_same {o = Some (index_of i)} refl h) in
            absurd (cc)
        go false true q h = let same = same_names x.name z q in Element same (some_same {o = Some (part scope r x)} refl h) (at_element z same)
        go false false q h = absurd (none_and_some refl h)

    abbrev each_origin : (z : List ℕ) (e : Declaration) → is_region e.mode ≡ true → e.hidden ≡ false → OfEach z e → Origin scope f.regions e (elements z)
    each_origin z e region shown (Around d found same other at) = record {
      name = z;
      declaration = d;
      found = found;
      region = subst (λ (e : Declaration). is_region e.mode ≡ true) (sym same) region;
      shown = or_left d.hidden (bytes_eq d.name.name r.name) (subst (λ (e : Declaration). e.hidden ≡ false) (sym same) shown);
      written = λ m. subst (λ (e : Declaration). e.mode ≡ mode.Mut) (sym same) m;
      inner = λ m n. absurd (true_and_false (ap (λ (e : Declaration). e.outer) same ∙ n));
      part = subst (λ (q : Region). IsPart q (f.regions z)) (sym at) (part_of_itself (f.regions z));
    }
    each_origin z e region shown (Element same is at) =
        part_origin f.regions x e (elements z) is (subst (λ (q : Region). IsPart q (f.regions r.name)) (sym at) short)

    pub each_from : ComesFrom (each_scope scope r i x) elements scope f.regions
    each_from = record { origin = λ z e found region shown. each_origin z e region shown (of_each z e found region shown) }

    each_apart_at : OwnsApart scope f.regions → (z v : List ℕ) (m : IsMut (each_scope scope r i x) z) (n : IsSeen (each_scope scope r i x) v) → z ≢ v
        → OfEach z m.declaration → OfEach v n.declaration → ShareNoWord (elements z) (elements v)
    each_apart_at h z v m n other (Around d found same out at) (Around d' found' same' out' at') =
        apart_by_origin h (each_origin z m.declaration (mut_is_region m.written) m.shown (Around d found same out at))
        (each_origin v n.declaration n.region n.shown (Around d' found' same' out' at')) m.written other
    each_apart_at h z v m n other (Around d found same out at) (Element same' is' at') =
        apart_by_origin h (each_origin z m.declaration (mut_is_region m.written) m.shown (Around d found same out at))
        (each_origin v n.declaration n.region n.shown (Element same' is' at')) m.written out
    each_apart_at h z v m n other (Element same is at) (Element same' is' at') = absurd (other (sym same ∙ same'))
    each_apart_at h z v m n other (Element same is at) (Around d' found' same' out' at') =
        apart_by_origin h (each_origin z m.declaration (mut_is_region m.written) m.shown (Element same is at))
        (each_origin v n.declaration n.region n.shown (Around d' found' same' out' at')) m.written (λ e. out' (sym e))

    pub each_apart : OwnsApart scope f.regions → OwnsApart (each_scope scope r i x) elements
    each_apart h = record {
      apart = λ z v m n other. each_apart_at h z v m n other (of_each z m.declaration m.found (mut_is_region m.written) m.shown)
          (of_each v n.declaration n.found n.region n.shown);
    }

  -- two such blocks own apart: what the one writes is in its part
  module _ (i x : Named) (f : Frame) (x_new : declared (in_each scope r ++ index_of i ∷ []) x.name ≡ None) (h : OwnsApart scope f.regions)
      (q w : Region) (short : IsPart q (f.regions r.name)) (short' : IsPart w (f.regions r.name)) (differ : ShareNoWord q w) where
    beside_at : (a j : ℕ) (m : MayWrite (each_scope scope r i x) (part_frame f x q).regions a j) (o : Owns (each_scope scope r i x)
        (part_frame f x w).regions a j) → OfEach i x f q short x_new m.name m.writable.declaration
        → OfEach i x f w short' x_new o.name o.seen.declaration → ⊥
    beside_at a j m o (Around d found same out at) p = true_and_false (ap (λ (e : Declaration). e.outer) same ∙ m.writable.inner)
    beside_at a j m o (Element same is at) (Element same' is' at') =
        differ.none a j (subst (λ (q : Region). HasWord q a j) at m.has) (subst (λ (q : Region). HasWord q a j) at' o.has)
    beside_at a j m o (Element same is at) (Around d' found' same' out' at') =
        let p = each_origin i x f q short x_new m.name m.writable.declaration (mut_is_region m.writable.written) m.writable.shown (Element same is at) in
        let p' = each_origin i x f w short' x_new o.name o.seen.declaration o.seen.region o.seen.shown (Around d' found' same' out' at') in
        (apart_by_origin h p p' m.writable.written (λ e. out' (sym e))).none a j m.has o.has

    pub beside : (a j : ℕ) → MayWrite (each_scope scope r i x) (part_frame f x q).regions a j
        → Owns (each_scope scope r i x) (part_frame f x w).regions a j → ⊥
    beside a j m o =
        let v = m.writable in
        let s = o.seen in
        beside_at a j m o (of_each i x f q short x_new m.name v.declaration v.found (mut_is_region v.written) v.shown)
        (of_each i x f w short' x_new o.name s.declaration s.found s.region s.shown)
