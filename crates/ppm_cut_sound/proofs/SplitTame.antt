-- The capsule of a split is tame: the parts of the region are in the slots of their names in its block.
use Rattle.std.proofs.Common.{◌≡◌, ◌≢◌, ◌≤◌, ◌<◌, ℕ, suc, ◌+◌, ◌-◌, ◌*◌, ◌^◌, cond, Bool, true, false, List, [], ◌∷◌, ◌++◌, Some}
use Rattle.std.proofs.Common.{None, length, map, slice_set, inl, inr, refl, sym, ap, ◌∙◌, subst, arith}
use Rattle.std.specs.Str.{bytes_eq}
use Rattle.std.proofs.lemmas.List.{length-append}
use Rattle.std.specs.Option.{option_map}
use Rattle.std.specs.Prelude.{◌||◌}
use Rattle.ppm_strands.specs.Capsule.{Memory, store}
use Rattle.ppm_strands.specs.Strand.{Own, own_of}
use Rattle.ppm_code.specs.declared.code.CodeParts.{CodeParts}
use Rattle.ppm_code.specs.declared.instr.Instr.{Instr}
use Rattle.ppm_code.specs.declared.instr.Instr.TheVariants as instr
use Rattle.ppm_code.specs.declared.location.FrameWord.{FrameWord}
use Rattle.ppm_code.specs.declared.location.FrameWord.TheVariants.{Slot}
use Rattle.ppm_code.specs.Acts.{held, start_of, length_of}
use Rattle.ppm_code.specs.Locations.{Where, code_locations}
use Rattle.ppm_code.specs.Strands.{instrs_of}
use Rattle.ppm_tree.specs.declared.named.Named.{Named}
use Rattle.ppm_tree.specs.Tree.{Expression, Argument, Side, Statement, Block, Nil, Then, Procedure, ProgramTree}
use Rattle.ppm_tree.specs.Tree as tree
use Rattle.ppm_tree.specs.State.{Frame, Region, first_part, second_part}
use Rattle.ppm_regions.specs.Scope.{Declaration, Scope, declared, is_region, split_scope, in_split, parts_of, part, seen_in_split}
use Rattle.ppm_regions.specs.Admission.{IsAdmitted}
use Rattle.ppm_regions.specs.Correct.{KeepsRules}
use Rattle.ppm_regions.proofs.ScopeLemmas.{same_names, names_same, names_other, declared_in_front, declared_behind}
use Rattle.ppm_regions.proofs.ScopeLemmas.{declared_map, image_of, found_cases, none_and_some, some_same}
use Rattle.ppm_ownership.specs.Owning.{IsSeen}
use Rattle.ppm_ownership.specs.Coming.{split_frame}
use Rattle.ppm_ownership.proofs.PartLemmas.{ComesFrom, lie_still, owns_on, owns_no_more}
use Rattle.ppm_ownership.proofs.SplitLemmas.{split_apart}
use Rattle.ppm_ownership.proofs.ComingLemmas.{split_comes, split_new, split_sites, split_whole}
use Rattle.ppm_cut_code.specs.Layout.{Layout, slot_of, register}
use Rattle.ppm_cut_code.specs.Expressions.{size_of}
use Rattle.ppm_cut_code.specs.Numbers.{end_of, hidden_behind_block}
use Rattle.ppm_cut_code.specs.Statements.{Instrs, onward, Last, OnTo, with_parts}
use Rattle.ppm_cut_code.specs.Fits.{Has, IsNew}
use Rattle.ppm_cut_code.proofs.LayoutLemmas.{slot_in_front, has_in_front}
use Rattle.ppm_cut_code.proofs.RegionWords.{lengths_of, region_word}
use Rattle.ppm_cut_sound.proofs.OwnLemmas.{Label, AreShort, seen_short, length_is, first_word, second_word}
use Rattle.ppm_cut_sound.proofs.TameLemmas.{Goes, IsFile, file_set, held_set, held_other, registers_differ}
use Rattle.ppm_cut_sound.proofs.TameLemmas.{go_load, go_store, go_cut_left, go_cut_right}
use Rattle.ppm_cut_sound.proofs.StandLemmas.{Level, level, IsUnder, under_on, IsSame, same_on, same_store, off_behind}
use Rattle.ppm_cut_sound.proofs.StandLemmas.{store_other, store_here, seen_of, IsAt, at_on, leads_onto}
use Rattle.ppm_cut_sound.proofs.LevelLemmas.{behind_at, has_cases, has_one, has_none}
use Rattle.ppm_cut_sound.proofs.BlockTame.{world, zeros, zeros_kept, value_tame, next_tame, under_same}

-- a region that is seen through a change of declarations, and after none of more declarations, is seen without it
pub seen_back : (g : Declaration → Declaration) → ((d : Declaration) → (g d).name.name ≡ d.name.name) → ((d : Declaration) → (g d).mode ≡ d.mode)
    → ((d : Declaration) → (g d).hidden ≡ false → d.hidden ≡ false) → (scope more : Scope) (z : List ℕ)
    → ((e : Declaration) → declared more z ≡ Some e → is_region e.mode ≡ true → ⊥) → IsSeen (map g scope ++ more) z → IsSeen scope z
seen_back g names modes shown scope more z none seen = elim (found_cases (declared (map g scope) z)) [
  | inl n ↦ absurd (none seen.declaration (sym (declared_behind z (map g scope) more n) ∙ seen.found) seen.region)
  | inr c ↦
      let same = some_same (declared_in_front z (map g scope) more c.0 c.1) seen.found in
      let d = image_of g (declared scope z) c.0 (sym (declared_map z g names scope) ∙ c.1) in
      record {
        declaration = d.0;
        found = d.1;
        region = ap is_region (sym (modes d.0)) ∙ (ap (λ (e : Declaration). is_region e.mode) (d.2 ∙ same) ∙ seen.region);
        shown = shown d.0 (ap (λ (e : Declaration). e.hidden) (d.2 ∙ same) ∙ seen.shown);
      }
]

pub or_left : (a b : Bool) → a || b ≡ false → a ≡ false
or_left false b h = refl
or_left true b h = absurd (cc)

-- a region of the block of a split that is none of its parts
split_seen : (scope : Scope) (r x y : Named) (z : List ℕ) → x.name ≢ z → y.name ≢ z → IsSeen (split_scope scope r x y) z → IsSeen scope z
split_seen scope r x y z p q seen =
    seen_back (seen_in_split r) (λ d. refl) (λ d. refl) (λ d h. or_left d.hidden (bytes_eq d.name.name r.name) h) scope
    (parts_of scope r x y) z none seen
  where
    none : (e : Declaration) → declared (parts_of scope r x y) z ≡ Some e → is_region e.mode ≡ true → ⊥
    none e h region = go (bytes_eq x.name z) (bytes_eq y.name z) refl refl h
      where
        go : (a b : Bool) → bytes_eq x.name z ≡ a → bytes_eq y.name z ≡ b
            → cond a (Some (part scope r x)) (cond b (Some (part scope r y)) None) ≡ Some e → ⊥
        go true b i j h = p (same_names x.name z i)
        go false true i j h = q (same_names y.name z j)
        go false false i j h = none_and_some refl h

-- what names stand for in the block
at_first : (frame : Frame) (r x y : Named) (n : ℕ) (z : List ℕ) → x.name ≡ z → x.name ≢ y.name
    → (split_frame frame r n x y).regions z ≡ first_part n (frame.regions r.name)
at_first frame r x y n z same other =
    ap (λ (b : Bool). cond b (second_part n (frame.regions r.name)) (cond (bytes_eq x.name z) (first_part n (frame.regions r.name))
    (frame.regions z)))
    (names_other y.name z (λ e. other (same ∙ sym e)))
    ∙ ap (λ (b : Bool). cond b (first_part n (frame.regions r.name)) (frame.regions z)) (names_same x.name z same)

at_second : (frame : Frame) (r x y : Named) (n : ℕ) (z : List ℕ) → y.name ≡ z
    → (split_frame frame r n x y).regions z ≡ second_part n (frame.regions r.name)
at_second frame r x y n z same =
    ap (λ (b : Bool). cond b (second_part n (frame.regions r.name)) (cond (bytes_eq x.name z) (first_part n (frame.regions r.name))
    (frame.regions z)))
    (names_same y.name z same)

at_neither : (frame : Frame) (r x y : Named) (n : ℕ) (z : List ℕ) → x.name ≢ z → y.name ≢ z
    → (split_frame frame r n x y).regions z ≡ frame.regions z
at_neither frame r x y n z p q =
    ap (λ (b : Bool). cond b (second_part n (frame.regions r.name)) (cond (bytes_eq x.name z) (first_part n (frame.regions r.name))
    (frame.regions z)))
    (names_other y.name z q)
    ∙ ap (λ (b : Bool). cond b (first_part n (frame.regions r.name)) (frame.regions z)) (names_other x.name z p)

module _ (t : ProgramTree) (code : CodeParts) (rules : KeepsRules t) (admitted : IsAdmitted t) (short : AreShort t.arrays) (words : ℕ)
    (l : Label) where
  module _ (spare : ℕ) (scope : Scope) (layout : Layout) (at h : ℕ) (last : Last) (line : ℕ) (r : Named) (e : Expression) (x y : Named)
      (block rest : Block)
      (frame : Frame) where
    abbrev statement : Statement
    statement = tree.Split line r e x y block

    abbrev around : Level
    around = level spare scope layout at h last (Then statement rest) frame

    abbrev inside : ℕ → Level
    inside n =
        level spare (split_scope scope r x y) (with_parts layout x y) (suc at) h (OnTo (suc (end_of block (suc at)))) block
        (split_frame frame r n x y)

    under_parts : (n : ℕ) → IsUnder around (inside n)
    under_parts n = record {
      front = λ z has. (has_in_front z layout (x.name ∷ y.name ∷ []) has, slot_in_front z layout (x.name ∷ y.name ∷ []) has);
      stays = λ z d f region. (
        seen_in_split r d,
        declared_in_front z (in_split scope r) (parts_of scope r x y) (seen_in_split r d)
            (declared_map z (seen_in_split r) (λ c. refl) scope ∙ ap (option_map (seen_in_split r)) f),
        region,
      );
    }

    module _ (own new : FrameWord → ℕ) (n : ℕ) (a : IsAt t code l own around) (same : IsSame around own new)
        (low : n ≤ length_of (own (Slot (slot_of layout r.name))))
        (first : new (Slot (length layout)) ≡ start_of (own (Slot (slot_of layout r.name))) * 2 ^ 32 + n)
        (second : new (Slot (suc (length layout)))
        ≡ (start_of (own (Slot (slot_of layout r.name))) + n) * 2 ^ 32 + (length_of (own (Slot (slot_of layout r.name))) - n)) where
      abbrev whole : Region
      whole = frame.regions r.name

      holds_whole : own (Slot (slot_of layout r.name)) ≡ region_word (lengths_of t.arrays) whole
      holds_whole = a.holds.holds r.name (seen_of scope layout r.name a.stays.fits.0.0) a.stays.fits.0.0.has

      whole_short : whole.length < 2 ^ 32
      whole_short =
          seen_short t.arrays short l scope frame.regions a.stays.within a.stays.home r.name (seen_of scope layout r.name a.stays.fits.0.0)

      within_whole : n ≤ whole.length
      within_whole = subst (λ (k : ℕ). n ≤ k) (ap length_of holds_whole ∙ length_is t.arrays whole whole_short) low

      comes : ComesFrom (split_scope scope r x y) (split_frame frame r n x y).regions scope frame.regions
      comes = split_comes t rules admitted scope line r e x y block rest a.stays.sites frame n within_whole

      -- a name that has a slot is none of the parts
      not_new : (w : Named) (z : List ℕ) → IsNew layout w.name → Has layout z → w.name ≢ z
      not_new w z new has same = let s = ap (slot_of layout) same in omega (arith, new, has, s)

      holds_in : (z : List ℕ) → IsSeen (split_scope scope r x y) z → Has (with_parts layout x y) z
          → new (Slot (slot_of (with_parts layout x y) z)) ≡ region_word (lengths_of t.arrays) ((split_frame frame r n x y).regions z)
      holds_in z seen has = elim (has_cases z layout (x.name ∷ y.name ∷ []) has) [
        | inl had ↦
            let p = not_new x z a.stays.fits.0.2 had in
            let q = not_new y z a.stays.fits.0.3 had in
            let before = split_seen scope r x y z p q seen in
            ap (λ (k : ℕ). new (Slot k)) (slot_in_front z layout (x.name ∷ y.name ∷ []) had)
            ∙ same.same z before.declaration before.found before.region had ∙ a.holds.holds z before had
            ∙ ap (region_word (lengths_of t.arrays)) (sym (at_neither frame r x y n z p q))
        | inr j ↦ elim (has_one z x.name (y.name ∷ []) j.0) [
          | inl is ↦
              let slot : slot_of (with_parts layout x y) z ≡ length layout = j.1
              ∙ (let f = ap (λ (b : Bool). cond b 0 (suc (slot_of (y.name ∷ []) z))) (names_same x.name z is) in omega (arith, f)) in
              ap (λ (k : ℕ). new (Slot k)) slot ∙ first ∙ ap (λ (w : ℕ). start_of w * 2 ^ 32 + n) holds_whole
              ∙ first_word t.arrays whole whole_short n ∙ ap (region_word (lengths_of t.arrays)) (sym (at_first frame r x y n z is a.stays.fits.0.4))
          | inr k ↦ elim (has_one z y.name [] k.0) [
            | inl is ↦
                let slot : slot_of (with_parts layout x y) z ≡ suc (length layout) =
                j.1 ∙ (let f = ap (λ (b : Bool). cond b 0 (suc (slot_of (y.name ∷ []) z))) k.1 in let g = ap (λ (b : Bool). cond b 0 (suc 0))
                (names_same y.name z is) in omega (arith, f, g)) in
                ap (λ (k : ℕ). new (Slot k)) slot ∙ second ∙ ap (λ (w : ℕ). (start_of w + n) * 2 ^ 32 + (length_of w - n)) holds_whole
                ∙ second_word t.arrays whole whole_short n ∙ ap (region_word (lengths_of t.arrays)) (sym (at_second frame r x y n z is))
            | inr none ↦ absurd (has_none z none.0)
          ]
        ]
      ]

      pub split_inside : IsAt t code l new (inside n)
      split_inside =
          let sites = a.stays.sites in
          let fresh = split_new t rules admitted scope line r e x y block rest sites in
          let size = length-append layout (x.name ∷ y.name ∷ []) in
          let room = a.stays.room in
          let outer = behind_at t code rules admitted l spare scope layout at h last statement rest frame new
          (at_on t code l own new around same a) in
          let behind_level = level spare (scope ++ []) layout (suc (end_of block (suc at))) (hidden_behind_block block h) last rest frame in
          record {
            stays = record {
              stands = a.stays.stands.0.1;
              fits = a.stays.fits.0.7;
              gives = tt;
              room = omega (arith, size, room);
              few = a.stays.few.0;
              sites = split_sites t rules admitted scope line r e x y block rest sites;
              apart = split_apart scope r
                  (split_whole t rules admitted scope line r e x y block rest sites) x y frame n within_whole fresh.0 fresh.1.0 a.stays.apart;
              within = lie_still comes t.arrays a.stays.within;
              home = owns_on (owns_no_more comes) a.stays.home;
            };
            holds = record { holds = holds_in };
            leads = leads_onto t code l new (inside n) behind_level refl
                (under_on behind_level around (inside n)
                (under_same scope layout around behind_level refl refl refl refl) (under_parts n)) outer;
          }

    module _ (m : Memory Where) (a : IsAt t code l (own_of m) around) where
      abbrev slot : ℕ
      slot = slot_of layout r.name

      abbrev into : Instrs
      into = instr.StoreCur (length layout) (register 2) ∷ instr.StoreCur (suc (length layout)) (register 3) ∷ onward (suc at)

      -- both parts, and where they are stored
      parts_tame : (here : ℕ) (g : List ℕ) → IsFile g → held g (register 1) ≡ m (Own (Slot slot))
          → Goes (world t code rules admitted short words l) here
          (instr.CutLeft (register 2) (register 1) (register 0) line ∷ instr.CutRight (register 3) (register 1) (register 0) line ∷ into) g m
      parts_tame here g file is =
          let all = world t code rules admitted short words l in
          let w = m (Own (Slot slot)) in
          let n = held g (register 0) in
          let one = start_of (held g (register 1)) * 2 ^ 32 + n in
          let g2 = slice_set g (register 2).index one in
          let file2 = file_set g (register 2).index one file in
          let two = (start_of (held g2 (register 1)) + held g2 (register 0)) * 2 ^ 32 + (length_of (held g2 (register 1)) - held g2 (register 0)) in
          let g3 = slice_set g2 (register 3).index two in
          let same_n : held g2 (register 0) ≡ n = held_other g (register 2) (register 0) one (registers_differ 0 2 (omega arith) (omega arith)) in
          let same_w : held g2 (register 1) ≡ w = held_other g (register 2) (register 1) one (registers_differ 1 2 (omega arith) (omega arith))
          ∙ is in
          let at_two : held g3 (register 2) ≡ one = held_other g2 (register 3) (register 2) two (registers_differ 2 3 (omega arith)
          (omega arith)) ∙ held_set g (register 2) one file in
          let at_three : held g3 (register 3) ≡ two = held_set g2 (register 3) two file2 in
          let m1 = store code_locations m (Own (Slot (length layout))) (held g3 (register 2)) in
          let m2 = store code_locations m1 (Own (Slot (suc (length layout)))) (held g3 (register 3)) in
          let same : IsSame around (own_of m) (own_of m2) =
          same_on around (own_of m) (own_of m1) (own_of m2) (same_store around m (length layout) (held g3 (register 2)) (off_behind around
          (length layout) (omega arith)))
          (same_store around m1 (suc (length layout)) (held g3 (register 3)) (off_behind around (suc (length layout)) (omega arith))) in
          go_cut_left all here (instr.CutRight (register 3) (register 1) (register 0) line ∷ into) g m (register 2) (register 1)
          (register 0) line (λ low.
          go_cut_right all (here + 1) into g2 m (register 3) (register 1) (register 0) line
          (go_store all (here + 1 + 1) (instr.StoreCur (suc (length layout)) (register 3) ∷ onward (suc at)) g3 m (length layout) (register 2)
          (go_store all (here + 1 + 1 + 1) (onward (suc at)) g3 m1 (suc (length layout)) (register 3)
          (next_tame t code rules admitted short words l m2 (here + 1 + 1 + 1 + 1) g3 (inside n)
          (split_inside (own_of m) (own_of m2) n a same (subst (λ (k : ℕ). n ≤ length_of k) is low)
          (store_other m1 (length layout) (suc (length layout)) (held g3 (register 3)) (λ e. omega (arith, e))
          ∙ store_here m (length layout) (held g3 (register 2)) ∙ at_two
          ∙ ap (λ (k : ℕ). start_of k * 2 ^ 32 + n) is)
          (store_here m1 (suc (length layout)) (held g3 (register 3)) ∙ at_three
          ∙ ap (λ (k : ℕ). (start_of k + held g2 (register 0)) * 2 ^ 32 + (length_of k - held g2 (register 0))) same_w
          ∙ ap (λ (k : ℕ). (start_of w + k) * 2 ^ 32 + (length_of w - k)) same_n))))))

      pub split_tame : Goes (world t code rules admitted short words l) 0 (instrs_of code at) zeros m
      split_tame =
          let all = world t code rules admitted short words l in
          let parts = instr.CutLeft (register 2) (register 1) (register 0) line ∷ instr.CutRight (register 3) (register 1)
          (register 0) line ∷ into in
          let u = 0 + size_of e in
          subst (λ (is : List Instr). Goes all 0 is zeros m) (sym a.stays.stands.0.0)
          (value_tame t code rules admitted short words l m around a e a.stays.fits.0.1 0 0 0 (instr.LoadSlot
          (register 1) slot ∷ parts) zeros zeros refl
          (zeros_kept t code rules admitted short words l 0) (λ g k.
          let w = m (Own (Slot slot)) in
          let g1 = slice_set g (register 1).index w in
          go_load all u parts g m (register 1) slot (parts_tame (u + 1) g1 (file_set g (register 1).index w k.file) (held_set g
          (register 1) w k.file))))
