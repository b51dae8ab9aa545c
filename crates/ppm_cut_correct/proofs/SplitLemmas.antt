-- What the capsule of a split does: both parts go into the first slots that no name has.
use Rattle.std.proofs.Common.{◌≡◌, ◌≢◌, ℕ, suc, ◌+◌, ◌-◌, ◌*◌, ◌^◌, ℤ, pos, negsuc, cond, Bool, true, false, nat_lt, List, [], ◌∷◌, Some}
use Rattle.std.proofs.Common.{None, Result, Ok, Err, length, refl, sym, ap, ap₂, ◌∙◌, subst, subst₂, arith, inl, inr}
use Rattle.std.specs.Prelude.{nat_le, slice_index, slice_set, ◌&&◌}
use Rattle.std.specs.List.{sum}
use Rattle.std.specs.Str.{bytes_eq}
use Rattle.std.proofs.lemmas.Bool.{lt-ltb, lt-leb, leb-true}
use Rattle.ppm_words.specs.TwosComplement.{word_of}
use Rattle.ppm_words.specs.declared.trap.Trap.TheVariants as trap
use Rattle.ppm_strands.specs.Tree.{Words}
use Rattle.ppm_strands.specs.Capsule.{Ends, Memory, store}
use Rattle.ppm_strands.specs.Strand.{Own}
use Rattle.ppm_code.specs.declared.act.Act.{Act}
use Rattle.ppm_code.specs.declared.act.Act.TheVariants.{Sets}
use Rattle.ppm_code.specs.declared.act.End.TheVariants as ends
use Rattle.ppm_code.specs.declared.code.CodeParts.{CodeParts}
use Rattle.ppm_code.specs.declared.instr.Instr.{Instr}
use Rattle.ppm_code.specs.declared.instr.Instr.TheVariants as instr
use Rattle.ppm_code.specs.declared.location.FrameWord.{FrameWord}
use Rattle.ppm_code.specs.declared.location.FrameWord.TheVariants.{Slot}
use Rattle.ppm_code.specs.declared.location.Location.TheVariants.{Frame as OwnWord}
use Rattle.ppm_code.specs.declared.register.Register.{Register}
use Rattle.ppm_code.specs.Acts.{does, held, traps, cut_left_of, cut_right_of}
use Rattle.ppm_code.specs.Locations.{Where, code_locations}
use Rattle.ppm_code.specs.Capsules.{capsule_from, capsule_of}
use Rattle.ppm_code.specs.Strands.{with_value}
use Rattle.ppm_tree.specs.declared.named.Named.{Named}
use Rattle.ppm_tree.specs.Tree.{Expression}
use Rattle.ppm_tree.specs.State.{TrapAt, then_with, tested, Region, first_part, second_part, Frame, Arrays, split_at, evaluate}
use Rattle.ppm_tree.specs.Meaning.{with_parts as parts_frame}
use Rattle.ppm_regions.specs.Scope.{Declaration, Scope, declared, is_region, part, in_split, parts_of, seen_in_split, split_scope}
use Rattle.ppm_regions.proofs.ScopeLemmas.{declared_in_front, declared_behind, declared_map, image_of, names_same}
use Rattle.ppm_regions.proofs.ScopeLemmas.{same_names, names_other, found_cases, some_same, none_and_some}
use Rattle.ppm_cut_code.specs.Layout.{Layout, slot_of, register}
use Rattle.ppm_cut_code.specs.Expressions.{size_of}
use Rattle.ppm_cut_code.specs.Fits.{Has, IsNew, IsRegion}
use Rattle.ppm_cut_code.specs.Statements.{onward, split_code, with_parts}
use Rattle.ppm_cut_code.proofs.LayoutLemmas.{slot_in_front}
use Rattle.ppm_cut_code.proofs.RegionWords.{offset_of, region_word}
use Rattle.ppm_cut_correct.proofs.Doing.{InHand, SplitDoes}
use Rattle.ppm_cut_correct.proofs.ExprLemmas.{Goes, goes_on, goes_equal, sets, stores, loads, stops, held_at, set_at, set_else, set_count, InReg, Meets}
use Rattle.ppm_cut_correct.proofs.ExprLemmas.{bind_meets, word_is, value_fits, IsPlaced, region_short, region_end, region_length, region_start}
use Rattle.ppm_cut_correct.proofs.Holding.{HoldsValue, Holds, Parted}
use Rattle.ppm_cut_correct.proofs.StoreLemmas.{stored_slot, other_slot, slot_behind, has_before, first_slot, next_slot, apart_from}
use Rattle.ppm_cut_correct.proofs.SlotLemmas.{part_is_region}
use Rattle.ppm_cut_correct.proofs.StatementLemmas.{zeros, onward_goes, front}
use Rattle.ppm_cut_correct.proofs.StepLemmas.{start_at, Tried, tried}

-- The frame with both parts.
module _ (lengths : List ℕ) (scope : Scope) (layout : Layout) (f : Frame) (own : FrameWord → ℕ) (h : Holds lengths scope layout f own)
    (r x y : Named) (q : Region) (n : ℕ) (new_x : IsNew layout x.name) (new_y : IsNew layout y.name) (other : x.name ≢ y.name)
    (no_x : declared scope x.name ≡ None) (no_y : declared scope y.name ≡ None) where
  abbrev longer : Layout
  longer = with_parts layout x y

  abbrev inner : Scope
  inner = split_scope scope r x y

  abbrev parted : Frame
  parted = parts_frame f q n x y

  abbrev pub with_both : FrameWord → ℕ
  with_both =
      with_value (Some (suc (length layout))) (region_word lengths (second_part n q))
      (with_value (Some (length layout)) (region_word lengths (first_part n q)) own)

  -- a name in force in the block is an older one or a part
  data Inside (z : List ℕ) (e : Declaration) : Type 0 where
    IsOlder : (d : Declaration) → declared scope z ≡ Some d → is_region d.mode ≡ is_region e.mode → Inside z e
    IsFirst : x.name ≡ z → is_region e.mode ≡ true → Inside z e
    IsSecond : y.name ≡ z → is_region e.mode ≡ true → Inside z e

  inside : (z : List ℕ) (e : Declaration) → declared inner z ≡ Some e → Inside z e
  inside z e found = elim (found_cases (declared (in_split scope r) z)) [
    | inr c ↦ around c.0 c.1 (some_same (declared_in_front z (in_split scope r) (parts_of scope r x y) c.0 c.1) found)
    | inl none ↦ go (bytes_eq x.name z) refl (bytes_eq y.name z) refl (sym (declared_behind z (in_split scope r) (parts_of scope r x y) none) ∙ found)
  ]
    where
      around : (c : Declaration) → declared (in_split scope r) z ≡ Some c → c ≡ e → Inside z e
      around c there same =
          let d = image_of (seen_in_split r) (declared scope z) c (sym (declared_map z (seen_in_split r) (λ d. refl) scope) ∙ there) in
          IsOlder d.0 d.1 (ap (λ (e : Declaration). is_region e.mode) (d.2 ∙ same))

      region : (z : Named) → Some (part scope r z) ≡ Some e → is_region e.mode ≡ true
      region z h =
          ap (λ (d : Declaration). is_region d.mode) (sym (some_same {o = Some (part scope r z)} refl h)) ∙ part_is_region (declared scope r.name)

      go : (b : Bool) → bytes_eq x.name z ≡ b → (c : Bool) → bytes_eq y.name z ≡ c
          → cond b (Some (part scope r x)) (cond c (Some (part scope r y)) None) ≡ Some e → Inside z e
      go true s c t h = IsFirst (same_names x.name z s) (region x h)
      go false s true t h = IsSecond (same_names y.name z t) (region y h)
      go false s false t h = absurd (none_and_some refl h)

  -- an older name is as it was
  older : (z : List ℕ) (d : Declaration) → declared scope z ≡ Some d → Has longer z
      → Has layout z × (with_both (Slot (slot_of longer z)) ≡ own (Slot (slot_of layout z))) × (bytes_eq x.name z ≡ false)
      × (bytes_eq y.name z ≡ false)
  older z d found has =
      let not_x = apart_from scope x.name z d no_x found in
      let not_y = apart_from scope y.name z d no_y found in
      let past : IsNew (x.name ∷ y.name ∷ []) z =
      next_slot x.name z (y.name ∷ []) not_x ∙ ap (λ (n : ℕ). suc n) (next_slot y.name z [] not_y) in
      let old : Has layout z = has_before z layout (x.name ∷ y.name ∷ []) past has in (
        old,
        ap (λ (k : ℕ). with_both (Slot k)) (slot_in_front z layout (x.name ∷ y.name ∷ []) old)
            ∙ other_slot (with_value (Some (length layout)) (region_word lengths (first_part n q)) own) (suc (length layout))
            (region_word lengths (second_part n q)) (slot_of layout z) (λ e. absurd (omega (arith, e, old)))
            ∙ other_slot own (length layout) (region_word lengths (first_part n q)) (slot_of layout z) (λ e. absurd (omega (arith, e, old))),
        names_other x.name z not_x,
        names_other y.name z not_y,
      )

  first_held : with_both (Slot (slot_of longer x.name)) ≡ region_word lengths (first_part n q)
  first_held =
      let slot : slot_of longer x.name ≡ length layout =
      slot_behind x.name layout (x.name ∷ y.name ∷ []) new_x ∙ omega (arith, first_slot x.name (y.name ∷ [])) in
      ap (λ (k : ℕ). with_both (Slot k)) slot
      ∙ other_slot (with_value (Some (length layout)) (region_word lengths (first_part n q)) own) (suc (length layout))
      (region_word lengths (second_part n q)) (length layout) (λ e. absurd (omega (arith, e)))
      ∙ stored_slot own (length layout) (region_word lengths (first_part n q))

  second_held : with_both (Slot (slot_of longer y.name)) ≡ region_word lengths (second_part n q)
  second_held =
      let slot : slot_of longer y.name ≡ suc (length layout) =
      slot_behind y.name layout (x.name ∷ y.name ∷ []) new_y
      ∙ omega (arith, next_slot x.name y.name (y.name ∷ []) other, first_slot y.name []) in
      ap (λ (k : ℕ). with_both (Slot k)) slot
      ∙ stored_slot (with_value (Some (length layout)) (region_word lengths (first_part n q)) own) (suc (length layout))
      (region_word lengths (second_part n q))

  -- which region a name stands for, by whether it is a part
  abbrev region_by : (is_second is_first : Bool) → List ℕ → Region
  region_by b c z = cond b (second_part n q) (cond c (first_part n q) (f.regions z))

  clash : true ≡ false → ⊥
  clash e = cc

  pub holds_split : Holds lengths inner longer parted with_both
  holds_split = record {
    local = λ z e found kind has. local_held z e kind has (inside z e found);
    region = λ z e found kind has. region_held z e kind has (inside z e found);
    value = h.value;
  }
    where
      local_held : (z : List ℕ) (e : Declaration) → is_region e.mode ≡ false → Has longer z → Inside z e
          → HoldsValue (with_both (Slot (slot_of longer z))) (f.locals z)
      local_held z e kind has (IsOlder d found same) =
          let o = older z d found has in subst (λ (w : ℕ). HoldsValue w (f.locals z)) (sym o.1) (h.local z d found (same ∙ kind) o.0)
      local_held z e kind has (IsFirst same region) = absurd (clash (sym region ∙ kind))
      local_held z e kind has (IsSecond same region) = absurd (clash (sym region ∙ kind))

      region_held : (z : List ℕ) (e : Declaration) → is_region e.mode ≡ true → Has longer z → Inside z e
          → with_both (Slot (slot_of longer z)) ≡ region_word lengths (parted.regions z)
      region_held z e kind has (IsOlder d found same) =
          let o = older z d found has in
          o.1 ∙ h.region z d found (same ∙ kind) o.0 ∙ ap₂ (λ (b c : Bool). region_word lengths (region_by b c z)) (sym o.3) (sym o.2)
      region_held z e kind has (IsFirst same region) =
          subst (λ (z : List ℕ). with_both (Slot (slot_of longer z)) ≡ region_word lengths (parted.regions z)) same
          (first_held ∙ ap₂ (λ (b c : Bool). region_word lengths (region_by b c x.name))
          (sym (names_other y.name x.name (λ e. other (sym e)))) (sym (names_same x.name x.name refl)))
      region_held z e kind has (IsSecond same region) =
          subst (λ (z : List ℕ). with_both (Slot (slot_of longer z)) ≡ region_word lengths (parted.regions z)) same
          (second_held ∙ ap (λ (b : Bool). region_word lengths (region_by b (bytes_eq x.name y.name) y.name)) (sym (names_same y.name y.name refl)))

-- Both parts of the word of a region.
module _ (lengths : List ℕ) (q : Region) (placed : IsPlaced lengths q) (line : ℕ) where
  -- what an instruction does that cuts it
  abbrev pub cut : Register → (ℕ → Region) → Result ℕ TrapAt → Act
  cut d part (Ok n) = Sets d (region_word lengths (part n))
  cut d part (Err stop) = traps stop.0 stop.1

  abbrev from : ℕ
  from = offset_of lengths q.array + q.start

  too_large : (w k : ℕ) → HoldsValue w (negsuc k) → nat_le w q.length ≡ false
  too_large w k h =
      let fit = value_fits w (negsuc k) h in
      lt-leb w q.length (omega (arith, fit.sfits, word_is w (negsuc k) h, region_short lengths q placed))

  pub cut_left : (d : Register) (w : ℕ) (v : ℤ) → HoldsValue w v
      → cut_left_of line d (region_word lengths q) w ≡ cut d (λ n. first_part n q) (split_at line q v)
  cut_left d w v h =
      ap₂ (λ (length start : ℕ). cond (nat_le w length) (Sets d (start * 2 ^ 32 + w)) (traps trap.Split line))
      (region_length lengths q placed) (region_start lengths q placed) ∙ by v h (word_is w v h)
    where
      at_number : (k : ℕ) (b : Bool) → cond b (Sets d (from * 2 ^ 32 + k)) (traps trap.Split line)
          ≡ cut d (λ n. first_part n q) (tested b (trap.Split, line) k)
      at_number k true = refl
      at_number k false = refl

      by : (v : ℤ) → HoldsValue w v → w ≡ word_of v → cond (nat_le w q.length) (Sets d (from * 2 ^ 32 + w)) (traps trap.Split line)
          ≡ cut d (λ n. first_part n q) (split_at line q v)
      by (pos k) h e =
          ap (λ (w : ℕ). cond (nat_le w q.length) (Sets d (from * 2 ^ 32 + w)) (traps trap.Split line)) e ∙ at_number k (nat_le k q.length)
      by (negsuc k) h e = ap (λ (b : Bool). cond b (Sets d (from * 2 ^ 32 + w)) (traps trap.Split line)) (too_large w k h)

  pub cut_right : (d : Register) (w : ℕ) (v : ℤ) → HoldsValue w v
      → cut_right_of line d (region_word lengths q) w ≡ cut d (λ n. second_part n q) (split_at line q v)
  cut_right d w v h =
      ap₂ (λ (length start : ℕ). cond (nat_le w length && nat_lt (start + w) (2 ^ 32)) (Sets d ((start + w) * 2 ^ 32 + (length - w)))
      (traps trap.Split line))
      (region_length lengths q placed) (region_start lengths q placed) ∙ by v h (word_is w v h)
    where
      act : ℕ → Bool → Bool → Act
      act w b c = cond (b && c) (Sets d ((offset_of lengths q.array + q.start + w) * 2 ^ 32 + (q.length - w))) (traps trap.Split line)

      at_number : (k : ℕ) (b : Bool) → nat_le k q.length ≡ b
          → act k b (nat_lt (from + k) (2 ^ 32)) ≡ cut d (λ n. second_part n q) (tested b (trap.Split, line) k)
      at_number k false e = refl
      at_number k true e =
          let low = leb-true k q.length e in
          ap (act k true) (lt-ltb (from + k) (2 ^ 32) (omega (arith, low, region_end lengths q placed, placed.small)))
          ∙ ap (λ (s : ℕ). Sets d (s * 2 ^ 32 + (q.length - k))) (omega arith)

      by : (v : ℤ) → HoldsValue w v → w ≡ word_of v
          → act w (nat_le w q.length) (nat_lt (from + w) (2 ^ 32)) ≡ cut d (λ n. second_part n q) (split_at line q v)
      by (pos k) h e = ap (λ (w : ℕ). act w (nat_le w q.length) (nat_lt (from + w) (2 ^ 32))) e ∙ at_number k (nat_le k q.length) refl
      by (negsuc k) h e = ap (λ (b : Bool). act w b (nat_lt (from + w) (2 ^ 32))) (too_large w k h)

-- both parts in registers
pub record InParts (lengths : List ℕ) (q : Region) (n : ℕ) (h : List ℕ) : Type 0 where
  pub first : slice_index h 2 ≡ region_word lengths (first_part n q)
  pub second : slice_index h 3 ≡ region_word lengths (second_part n q)

module _ (lengths : List ℕ) (code : CodeParts) (scope : Scope) (layout : Layout) (f : Frame) (own : FrameWord → ℕ) (a : Words) (arrays : Arrays)
    (at next : ℕ) where
  abbrev W : ℕ
  W = sum lengths

  abbrev now : Memory Where
  now = start_at lengths code own at a

  module _ (line : ℕ) (r : Named) (e : Expression) (x y : Named) (hand : InHand lengths code scope layout f own a arrays)
      (is : IsRegion scope layout r) where
    abbrev q : Region
    q = f.regions r.name

    abbrev load : Instr
    load = instr.LoadSlot (register 1) (slot_of layout r.name)

    abbrev left : Instr
    left = instr.CutLeft (register 2) (register 1) (register 0) line

    abbrev right : Instr
    right = instr.CutRight (register 3) (register 1) (register 0) line

    abbrev keep : List Instr
    keep = instr.StoreCur (length layout) (register 2) ∷ instr.StoreCur (suc (length layout)) (register 3) ∷ onward next

    placed : IsPlaced lengths q
    placed = record { small = hand.small; within = hand.lies.within r.name is.declaration is.found is.kind (is.seen refl) }

    at_region : own (Slot (slot_of layout r.name)) ≡ region_word lengths q
    at_region = hand.holds.region r.name is.declaration is.found is.kind is.has

    -- the cuts
    cuts_meet : (n : ℕ) (v : ℤ) (h : List ℕ) → InReg 0 zeros v h
        → Meets W (n + 1 + 1 + 1) keep (InParts lengths q) (capsule_from W n 0 (load ∷ left ∷ right ∷ keep) h) now (split_at line q v)
    cuts_meet n v h k = by (split_at line q v) refl
      where
        w : ℕ
        w = slice_index h 0

        g : List ℕ
        g = slice_set h (register 1).index (own (Slot (slot_of layout r.name)))

        g_count : length g ≡ 64
        g_count = set_count h 1 (own (Slot (slot_of layout r.name))) k.count

        loaded : Goes (capsule_from W n 0 (load ∷ left ∷ right ∷ keep) h) now (capsule_from W (n + 1) 0 (left ∷ right ∷ keep) g) now
        loaded = loads W n load (left ∷ right ∷ keep) h (OwnWord (Slot (slot_of layout r.name))) (register 1) now refl

        g_region : held g (register 1) ≡ region_word lengths q
        g_region = held_at g 1 (omega arith) ∙ set_at h 1 (own (Slot (slot_of layout r.name))) k.count (omega arith) ∙ at_region

        g_place : held g (register 0) ≡ slice_index h 0
        g_place = held_at g 0 (omega arith) ∙ set_else h 1 (own (Slot (slot_of layout r.name))) 0 (omega arith) (λ e. absurd (omega (arith, e)))

        left_act : does W left g ≡ cut lengths q placed line (register 2) (λ n. first_part n q) (split_at line q v)
        left_act = ap₂ (λ (q w : ℕ). cut_left_of line (register 2) q w) g_region g_place
            ∙ cut_left lengths q placed line (register 2) (slice_index h 0) v k.value

        right_act : (u : ℕ) → does W right (slice_set g (register 2).index u)
            ≡ cut lengths q placed line (register 3) (λ n. second_part n q) (split_at line q v)
        right_act u =
            ap₂ (λ (q w : ℕ). cut_right_of line (register 3) q w)
            (held_at (slice_set g (register 2).index u) 1 (omega arith) ∙ set_else g 2 u 1 (omega arith) (λ e. absurd (omega (arith, e)))
            ∙ sym (held_at g 1 (omega arith)) ∙ g_region)
            (held_at (slice_set g (register 2).index u) 0 (omega arith) ∙ set_else g 2 u 0 (omega arith) (λ e. absurd (omega (arith, e)))
            ∙ sym (held_at g 0 (omega arith)) ∙ g_place)
            ∙ cut_right lengths q placed line (register 3) (slice_index h 0) v k.value

        by : (t : Result ℕ TrapAt) → split_at line q v ≡ t
            → Meets W (n + 1 + 1 + 1) keep (InParts lengths q) (capsule_from W n 0 (load ∷ left ∷ right ∷ keep) h) now t
        by (Ok m) s =
            let u = region_word lengths (first_part m q) in
            let u' = region_word lengths (second_part m q) in
            let g' = slice_set g (register 2).index u in
            let g'_count = set_count g 2 u g_count in (
              slice_set g' (register 3).index u',
              goes_on loaded (goes_equal _ _ now
                  (sets W (n + 1) left (right ∷ keep) g (register 2) u
                  (left_act ∙ ap (cut lengths q placed line (register 2) (λ n. first_part n q)) s)
                  ∙ sets W (n + 1 + 1) right keep g' (register 3) u'
                  (right_act u ∙ ap (cut lengths q placed line (register 3) (λ n. second_part n q)) s))),
              record {
                first = set_else g' 3 u' 2 (omega arith) (λ e. absurd (omega (arith, e))) ∙ set_at g 2 u g_count (omega arith);
                second = set_at g' 3 u' g'_count (omega arith);
              },
            )
        by (Err stop) s =
            goes_on loaded (goes_equal _ _ now (stops W (n + 1) left (right ∷ keep) g (ends.Trap stop.0 stop.1)
            (left_act ∙ ap (cut lengths q placed line (register 2) (λ n. first_part n q)) s)))

    -- the parts are stored
    abbrev parts_stored : ℕ → Memory Where
    parts_stored n =
        store code_locations (store code_locations now (Own (Slot (length layout))) (region_word lengths (first_part n q)))
        (Own (Slot (suc (length layout)))) (region_word lengths (second_part n q))

    keeps_both : (n m : ℕ) (h : List ℕ) → InParts lengths q m h → Goes (capsule_from W n 0 keep h) now (Ends (ends.Next next)) (parts_stored m)
    keeps_both n m h k =
        let l = length layout in
        subst₂ (λ (w u : ℕ). Goes (capsule_from W n 0 keep h) now (Ends (ends.Next next))
        (store code_locations (store code_locations now (Own (Slot l)) w) (Own (Slot (suc l))) u))
        (held_at h 2 (omega arith) ∙ k.first) (held_at h 3 (omega arith) ∙ k.second)
        (goes_on (stores W n (instr.StoreCur l (register 2)) (instr.StoreCur (suc l) (register 3) ∷ onward next) h (OwnWord (Slot l))
        (held h (register 2)) now refl)
        (goes_on (stores W (n + 1) (instr.StoreCur (suc l) (register 3)) (onward next) h (OwnWord (Slot (suc l))) (held h (register 3))
        (store code_locations now (Own (Slot l)) (held h (register 2))) refl)
        (onward_goes W (n + 1 + 1) next h _)))

  pub split_does : SplitDoes lengths code scope layout f own a arrays at next
  split_does line r e x y hand stands is fits small new_x new_y other no_x no_y =
      let n = 0 + size_of e in
      let p = capsule_of W (split_code layout line r e next) in
      let rest = load line r e x y hand is ∷ left line r e x y hand is ∷ right line r e x y hand is ∷ keep line r e x y hand is in
      finish (then_with (evaluate f arrays e) (split_at line (f.regions r.name)))
      (tried lengths code at (split_code layout line r e next) stands own a p 0 refl refl (omega arith)
      (n + 1 + 1 + 1) (keep line r e x y hand is) (InParts lengths (f.regions r.name))
      (then_with (evaluate f arrays e) (split_at line (f.regions r.name)))
      (bind_meets W n (n + 1 + 1 + 1) rest (keep line r e x y hand is) (λ v h. InReg 0 zeros v h) (InParts lengths (f.regions r.name)) p now
      (evaluate f arrays e) (split_at line (f.regions r.name))
      (front lengths code scope layout f own a arrays at next e rest hand fits small) (cuts_meet line r e x y hand is n))
      (λ m. ends.Next next) (parts_stored line r e x y hand is) (λ m h k. keeps_both line r e x y hand is (n + 1 + 1 + 1) m h k))
    where
      finish : (t : Result ℕ TrapAt) → Tried lengths code 0 at (λ m. ends.Next next) (parts_stored line r e x y hand is) own a t
          → Parted lengths code (split_scope scope r x y) (with_parts layout x y) f (f.regions r.name) x y own a at next t
      finish (Ok m) c = (
        with_both lengths scope layout f own hand.holds r x y (f.regions r.name) m new_x new_y other no_x no_y,
        holds_split lengths scope layout f own hand.holds r x y (f.regions r.name) m new_x new_y other no_x no_y,
        c,
      )
      finish (Err stop) c = c
