-- The capsules of an `each` and of its hidden procedure are tame: each half owns its own part, and reads the names of outside.
use Rattle.std.proofs.Common.{◌≡◌, ◌≢◌, ◌≤◌, ◌<◌, ℕ, zero, suc, ◌+◌, cond, Bool, true, false, List, [], ◌∷◌, ◌++◌, Some}
use Rattle.std.proofs.Common.{None, length, slice_set, inl, inr, refl, sym, ap, ◌∙◌, subst, arith}
use Rattle.std.specs.Prelude.{pos, int_lt}
use Rattle.std.specs.Str.{bytes_eq}
use Rattle.std.specs.Option.{option_map}
use Rattle.std.specs.List.{filter}
use Rattle.std.specs.Set.{is_member}
use Rattle.ppm_strands.specs.Capsule.{Memory}
use Rattle.ppm_strands.specs.Strand.{Own, New as NewWord, own_of, new_of}
use Rattle.ppm_words.specs.TwosComplement.{word_of, value_of}
use Rattle.ppm_code.specs.declared.act.End.TheVariants as ends
use Rattle.ppm_code.specs.declared.code.CodeParts.{CodeParts}
use Rattle.ppm_code.specs.declared.instr.Instr.{Instr}
use Rattle.ppm_code.specs.declared.instr.Instr.TheVariants as instr
use Rattle.ppm_code.specs.declared.location.FrameWord.{FrameWord}
use Rattle.ppm_code.specs.declared.location.FrameWord.TheVariants.{Slot}
use Rattle.ppm_code.specs.Acts.{held, length_of}
use Rattle.ppm_code.specs.Locations.{Where}
use Rattle.ppm_code.specs.Sizes.{slots_of}
use Rattle.ppm_code.specs.Strands.{instrs_of, entry_of, built}
use Rattle.ppm_code.proofs.BuiltLemmas.{built_slot}
use Rattle.ppm_tree.specs.declared.named.Named.{Named}
use Rattle.ppm_tree.specs.Tree.{Expression, Argument, Side, Statement, Block, Nil, Then, Procedure, ProgramTree}
use Rattle.ppm_tree.specs.Tree as tree
use Rattle.ppm_tree.specs.State.{Frame, Region}
use Rattle.ppm_regions.specs.Scope.{Declaration, Scope, declared, is_region, each_scope, in_each, element_of, part, seen_in_each, index_of}
use Rattle.ppm_regions.specs.Admission.{IsAdmitted}
use Rattle.ppm_regions.specs.Correct.{KeepsRules}
use Rattle.ppm_regions.proofs.ScopeLemmas.{same_names, names_same, names_other, other_names, declared_behind, declared_map, none_and_some, some_same}
use Rattle.ppm_ownership.specs.Words.{IsPart, HasWord}
use Rattle.ppm_ownership.specs.Owning.{IsSeen, OwnsNoMore}
use Rattle.ppm_ownership.specs.Coming.{part_frame}
use Rattle.ppm_ownership.proofs.PartLemmas.{owns_on, owns_no_more, part_of_itself, owns_itself, word_of_whole}
use Rattle.ppm_ownership.proofs.ComingLemmas.{part_comes}
use Rattle.ppm_cut_bounds.specs.Names.{free_names}
use Rattle.ppm_cut_code.specs.Layout.{Layout, slot_of, caught, register}
use Rattle.ppm_cut_code.specs.Numbers.{hidden_behind_block, halving, element_block}
use Rattle.ppm_cut_code.specs.Slots.{hidden_slots, frame_words}
use Rattle.ppm_cut_code.specs.Statements.{Last, hidden_layout, stores_code, loads_code, names_code}
use Rattle.ppm_cut_code.specs.Fits.{Has}
use Rattle.ppm_cut_code.proofs.RegionWords.{lengths_of, region_word}
use Rattle.ppm_cut_sound.proofs.OwnLemmas.{Label, AreShort, less_label}
use Rattle.ppm_cut_sound.proofs.TameLemmas.{World, Goes, held_set, Keeps, keeps_itself, keeps_set, keeps_on}
use Rattle.ppm_cut_sound.proofs.TameLemmas.{go_set, go_load, go_room, go_end, go_zero}
use Rattle.ppm_cut_sound.proofs.StandLemmas.{Level, level, seen_of, IsAt, at_on}
use Rattle.ppm_cut_sound.proofs.LevelLemmas.{behind_at, has_one, has_none, IsSwept, element_level, element_at, Begins, Enters, Halves, ForCallee}
use Rattle.ppm_cut_sound.proofs.BlockTame.{world, zeros, zeros_kept}
use Rattle.ppm_cut_sound.proofs.TameExpressions.{moved}
use Rattle.ppm_cut_sound.proofs.SplitTame.{seen_back, or_left}
use Rattle.ppm_cut_sound.proofs.CallTame.{same_words, stores_tame}

-- a name that is caught has a slot in the layout
has_all : (test : List ℕ → Bool) (layout : Layout) (z : List ℕ) → Has (filter test layout) z → Has layout z
has_all test [] z h = h
has_all test (y ∷ layout) z h = go (test y) h (has_all test layout z)
  where
    later : (b : Bool) → Has layout z → cond b 0 (suc (slot_of layout z)) < suc (length layout)
    later true h = omega arith
    later false h = omega (arith, h)

    kept : (b : Bool) → cond b 0 (suc (slot_of (filter test layout) z)) < suc (length (filter test layout)) → (Has (filter test layout) z
        → Has layout z)
        → cond b 0 (suc (slot_of layout z)) < suc (length layout)
    kept true h rest = omega arith
    kept false h rest = let l = rest (omega (arith, h)) in omega (arith, l)

    go : (c : Bool) → Has (cond c (y ∷ filter test layout) (filter test layout)) z → (Has (filter test layout) z → Has layout z)
        → cond (bytes_eq y z) 0 (suc (slot_of layout z)) < suc (length layout)
    go true h rest = kept (bytes_eq y z) h rest
    go false h rest = later (bytes_eq y z) (rest h)

no_region : (e : Declaration) (i : Named) → Some (index_of i) ≡ Some e → is_region e.mode ≡ true → ⊥
no_region e i h region =
    let local : false ≡ is_region e.mode = ap (λ (d : Declaration). is_region d.mode) (some_same {o = Some (index_of i)} refl h) in
    true_and_false (local ∙ region)
  where
    true_and_false : false ≡ true → ⊥
    true_and_false p = cc

-- a region of the block that is not the part is one of outside
each_seen : (scope : Scope) (r i x : Named) (z : List ℕ) → x.name ≢ z → IsSeen (each_scope scope r i x) z → IsSeen scope z
each_seen scope r i x z other seen =
    seen_back (seen_in_each r) (λ d. refl) (λ d. refl) (λ d h. or_left d.hidden (bytes_eq d.name.name r.name) h) scope
    (element_of scope r i x) z none seen
  where
    none : (e : Declaration) → declared (element_of scope r i x) z ≡ Some e → is_region e.mode ≡ true → ⊥
    none e h region = go (bytes_eq i.name z) (bytes_eq x.name z) refl h
      where
        go : (a b : Bool) → bytes_eq x.name z ≡ b → cond a (Some (index_of i)) (cond b (Some (part scope r x)) None) ≡ Some e → ⊥
        go true b q h = no_region e i h region
        go false true q h = other (same_names x.name z q)
        go false false q h = none_and_some refl h

-- the index is no region
index_unseen : (scope : Scope) (r i x : Named) (z : List ℕ) → i.name ≡ z → declared scope i.name ≡ None → IsSeen (each_scope scope r i x) z → ⊥
index_unseen scope r i x z same fresh seen =
    let none : declared (in_each scope r) z ≡ None =
    declared_map z (seen_in_each r) (λ d. refl) scope
    ∙ ap (option_map (seen_in_each r)) (subst (λ (y : List ℕ). declared scope y ≡ None) same fresh) in
    let here = ap (λ (b : Bool). cond b (Some (index_of i)) (declared (part scope r x ∷ []) z)) (names_same i.name z same) in
    no_region seen.declaration i (sym (declared_behind z (in_each scope r) (element_of scope r i x) none ∙ here) ∙ seen.found) seen.region

-- what the part and other names stand for
at_part : (frame : Frame) (x : Named) (q : Region) (z : List ℕ) → x.name ≡ z → (part_frame frame x q).regions z ≡ q
at_part frame x q z same = ap (λ (b : Bool). cond b q (frame.regions z)) (names_same x.name z same)

at_outside : (frame : Frame) (x : Named) (q : Region) (z : List ℕ) → x.name ≢ z → (part_frame frame x q).regions z ≡ frame.regions z
at_outside frame x q z other = ap (λ (b : Bool). cond b q (frame.regions z)) (names_other x.name z other)

-- a part of a part
pub part_on : {p q s : Region} → IsPart p q → IsPart q s → IsPart p s
part_on a b = record { array = a.array ∙ b.array; from = omega (arith, a.from, b.from); to = omega (arith, a.to, b.to) }

pub part_shorter : {p q : Region} → IsPart p q → p.length ≤ q.length
part_shorter a = omega (arith, a.from, a.to)

-- a smaller part owns less
pub smaller_owns : (scope : Scope) (frame : Frame) (x : Named) (p q : Region) → IsPart p q
    → OwnsNoMore scope (part_frame frame x p).regions scope (part_frame frame x q).regions
smaller_owns scope frame x p q a = record {
  owned = λ k i o. record { name = o.name; seen = o.seen; has = go k i o.name (bytes_eq x.name o.name) o.has };
  written = λ k i o. record { name = o.name; writable = o.writable; has = go k i o.name (bytes_eq x.name o.name) o.has };
}
  where
    go : (k i : ℕ) (z : List ℕ) (b : Bool) → HasWord (cond b p (frame.regions z)) k i → HasWord (cond b q (frame.regions z)) k i
    go k i z true h = word_of_whole a k i h
    go k i z false h = h

module _ (world : World) (m : Memory Where) where
  -- the slots of these names come into registers from d on
  pub record IsLoaded (layout names : Layout) (d : ℕ) (h : List ℕ) : Type 0 where
    pub loaded : (z : List ℕ) → Has names z → held h (register (d + slot_of names z)) ≡ m (Own (Slot (slot_of layout z)))

  pub loads_tame : (layout names : Layout) (d here : ℕ) (is : List Instr) (f g : List ℕ) → d + length names ≤ 63 → Keeps d f g
      → ((h : List ℕ) → Keeps d f h → IsLoaded layout names d h → Goes world (here + length names) is h m)
      → Goes world here (loads_code layout names d is) g m
  loads_tame layout [] d here is f g few keep go =
      moved world m is g here (here + 0) (omega arith) (go g keep (record { loaded = λ z has. absurd (has_none z has) }))
  loads_tame layout (y ∷ names) d here is f g few keep go =
      let w = m (Own (Slot (slot_of layout y))) in
      let g1 = slice_set g (register d).index w in
      let k1 = keeps_set d d w f g (omega arith) keep in
      go_load world here (loads_code layout names (suc d) is) g m (register d) (slot_of layout y)
      (loads_tame layout names (suc d) (here + 1) is g1 g1 (omega (arith, few)) (keeps_itself (suc d) g1 k1.file) (λ h k rest.
      moved world m is h (here + 1 + length names) (here + suc (length names)) (omega arith)
      (go h (keeps_on d (suc d) f g1 h (omega arith) k1 k) (record {
        loaded = λ z has. one z (bytes_eq y z) refl has h (k.kept d (omega arith) (omega (arith, few)) ∙ held_set g (register d) w keep.file) rest;
      }))))
    where
      one : (z : List ℕ) (b : Bool) → bytes_eq y z ≡ b → cond b 0 (suc (slot_of names z)) < suc (length names) → (h : List ℕ)
          → held h (register d) ≡ m (Own (Slot (slot_of layout y))) → IsLoaded layout names (suc d) h
          → held h (register (d + cond b 0 (suc (slot_of names z)))) ≡ m (Own (Slot (slot_of layout z)))
      one z true e has h first rest =
          let zero_on : d + 0 ≡ d = omega arith in
          ap (λ (k : ℕ). held h (register k)) zero_on ∙ first ∙ ap (λ (x : List ℕ). m (Own (Slot (slot_of layout x)))) (same_names y z e)
      one z false e has h first rest =
          let on : d + suc (slot_of names z) ≡ suc d + slot_of names z = omega arith in
          ap (λ (k : ℕ). held h (register k)) on ∙ rest.loaded z (omega (arith, has))

  -- so many slots come into registers
  pub record AreLoaded (slot d count : ℕ) (h : List ℕ) : Type 0 where
    pub loaded : (j : ℕ) → j < count → held h (register (d + j)) ≡ m (Own (Slot (slot + j)))

  pub names_tame : (count slot d here : ℕ) (is : List Instr) (f g : List ℕ) → d + count ≤ 63 → Keeps d f g
      → ((h : List ℕ) → Keeps d f h → AreLoaded slot d count h → Goes world (here + count) is h m)
      → Goes world here (names_code slot d count is) g m
  names_tame zero slot d here is f g few keep go =
      moved world m is g here (here + 0) (omega arith) (go g keep (record { loaded = λ j low. absurd (omega (arith, low)) }))
  names_tame (suc count) slot d here is f g few keep go =
      let w = m (Own (Slot slot)) in
      let g1 = slice_set g (register d).index w in
      let k1 = keeps_set d d w f g (omega arith) keep in
      go_load world here (names_code (suc slot) (suc d) count is) g m (register d) slot
      (names_tame count (suc slot) (suc d) (here + 1) is g1 g1 (omega (arith, few)) (keeps_itself (suc d) g1 k1.file) (λ h k rest.
      moved world m is h (here + 1 + count) (here + suc count) (omega arith)
      (go h (keeps_on d (suc d) f g1 h (omega arith) k1 k) (record {
        loaded = λ j low. one j low h (k.kept d (omega arith) (omega (arith, few)) ∙ held_set g (register d) w keep.file) rest;
      }))))
    where
      one : (j : ℕ) → j < suc count → (h : List ℕ) → held h (register d) ≡ m (Own (Slot slot)) → AreLoaded (suc slot) (suc d) count h
          → held h (register (d + j)) ≡ m (Own (Slot (slot + j)))
      one zero low h first rest =
          let a : d + 0 ≡ d = omega arith in
          let b : slot ≡ slot + 0 = omega arith in
          ap (λ (k : ℕ). held h (register k)) a ∙ first ∙ ap (λ (k : ℕ). m (Own (Slot k))) b
      one (suc j) low h first rest =
          let a : d + suc j ≡ suc d + j = omega arith in
          let b : suc slot + j ≡ slot + suc j = omega arith in
          ap (λ (k : ℕ). held h (register k)) a ∙ rest.loaded j (omega (arith, low)) ∙ ap (λ (k : ℕ). m (Own (Slot k))) b

module _ (t : ProgramTree) (code : CodeParts) (rules : KeepsRules t) (admitted : IsAdmitted t) (short : AreShort t.arrays) (words : ℕ) where
  -- the slots of a hidden procedure hold its part, and the regions of outside
  pub swept_holds : (scope : Scope) (layout : Layout) (i x r : Named) (block : Block) (frame : Frame) (q : Region) (own : FrameWord → ℕ)
      → declared scope i.name ≡ None → own (Slot 0) ≡ region_word (lengths_of t.arrays) q
      → ((z : List ℕ) → IsSeen (each_scope scope r i x) z → x.name ≢ z → Has (caught layout block) z → bytes_eq x.name z ≡ false
      → bytes_eq i.name z ≡ false
      → own (Slot (suc (suc (slot_of (caught layout block) z)))) ≡ region_word (lengths_of t.arrays) (frame.regions z))
      → (z : List ℕ) → IsSeen (each_scope scope r i x) z → Has (hidden_layout layout i x block) z
      → own (Slot (slot_of (hidden_layout layout i x block) z)) ≡ region_word (lengths_of t.arrays) ((part_frame frame x q).regions z)
  swept_holds scope layout i x r block frame q own fresh first others z seen has = elim (has_one z x.name (i.name ∷ caught layout block) has) [
    | inl same ↦
        ap (λ (b : Bool). own (Slot (cond b 0 (suc (slot_of (i.name ∷ caught layout block) z))))) (names_same x.name z same) ∙ first
        ∙ ap (region_word (lengths_of t.arrays)) (sym (at_part frame x q z same))
    | inr j ↦ elim (has_one z i.name (caught layout block) j.0) [
      | inl same ↦ absurd (index_unseen scope r i x z same fresh seen)
      | inr k ↦
          let other = other_names x.name z j.1 in
          ap (λ (b : Bool). own (Slot (cond b 0 (suc (slot_of (i.name ∷ caught layout block) z))))) j.1
          ∙ ap (λ (b : Bool). own (Slot (suc (cond b 0 (suc (slot_of (caught layout block) z)))))) k.1
          ∙ others z seen other k.0 j.1 k.1 ∙ ap (region_word (lengths_of t.arrays)) (sym (at_outside frame x q z other))
    ]
  ]

  module _ (l : Label) where
    abbrev all : World
    all = world t code rules admitted short words l

    module _ (spare : ℕ) (scope : Scope) (layout : Layout) (at h : ℕ) (last : Last) (i x r : Named) (block rest : Block) (frame : Frame)
        (m : Memory Where) (a : IsAt t code l (own_of m) (level spare scope layout at h last (Then (tree.Each i x r block) rest) frame)) where
      abbrev here : Level
      here = level spare scope layout at h last (Then (tree.Each i x r block) rest) frame

      abbrev names : Layout
      names = caught layout block

      abbrev whole_part : Region
      whole_part = frame.regions r.name

      abbrev part_label : Label
      part_label = record { scope = each_scope scope r i x; regions = (part_frame frame x whole_part).regions }

      pub each_tame : Goes all 0 (instrs_of code at) zeros m
      each_tame =
          let next = suc at in
          let n = suc (suc (length names)) in
          let w = level spare (scope ++ []) layout next (hidden_behind_block block (suc h)) last rest frame in
          let slot = slot_of layout r.name in
          let end = ends.Call h next None in
          let ending = instr.Ends end ∷ [] in
          let stores = stores_code 6 0 n ending in
          let few = a.stays.few.0.0 in
          let g1 = slice_set zeros (register 0).index (m (Own (Slot slot))) in
          let k1 = keeps_set 0 0 (m (Own (Slot slot))) zeros zeros (omega arith) (zeros_kept t code rules admitted short words l 0) in
          let g2 = slice_set g1 (register 1).index (word_of (pos 0)) in
          let k2 = keeps_set 1 1 (word_of (pos 0)) g1 g1 (omega arith) (keeps_itself 1 g1 k1.file) in
          let holds_whole = a.holds.holds r.name (seen_of scope layout r.name a.stays.fits.0.0) a.stays.fits.0.0.has in
          subst (λ (is : List Instr). Goes all 0 is zeros m) (sym a.stays.stands.0.0)
          (go_room all 0 (instr.LoadSlot (register 0) slot ∷ instr.Const (register 1) (pos 0) ∷ loads_code layout names 2 stores) zeros m
          (frame_words (hidden_slots (length names) block))
          (go_load all 1 (instr.Const (register 1) (pos 0) ∷ loads_code layout names 2 stores) zeros m (register 0) slot
          (go_set all 2 (loads_code layout names 2 stores) g1 m (instr.Const (register 1) (pos 0)) (register 1) (word_of (pos 0)) refl
          (loads_tame all m layout names 2 3 stores g2 g2 (omega (arith, few)) (keeps_itself 2 g2 k2.file) (λ g k loads.
          stores_tame all n 6 0 (3 + length names) ending g m (λ new st.
          let own = built (slots_of code h) 0 (new_of new) in
          let size_is = a.stays.stands.0.4 in
          let slots : (j : ℕ) → j < n → own (Slot j) ≡ held g (register (0 + j)) =
          λ j low. built_slot (slots_of code h) 0 (new_of new) j (omega (arith, low, size_is))
          ∙ (let e : 0 + (6 + j) ≡ 6 + j = omega arith in ap (λ (o : ℕ). new (NewWord o)) e) ∙ st.within j low in
          let first : own (Slot 0) ≡ region_word (lengths_of t.arrays) whole_part =
          slots 0 (omega arith) ∙ k.kept 0 (omega arith) (omega arith) ∙ k2.kept 0 (omega arith) (omega arith)
          ∙ held_set zeros (register 0) (m (Own (Slot slot))) refl ∙ holds_whole in
          go_end all (3 + length names + n) [] g new end (
            ForCallee w refl (behind_at t code rules admitted l spare scope layout at h last (tree.Each i x r block) rest frame (own_of new)
                (at_on t code l (own_of m) (own_of new) here (same_words here m new st.own) a)) tt tt,
            part_label,
            Enters (record {
              around = l;
              spare = spare;
              scope = scope;
              layout = layout;
              at = at;
              h = h;
              last = last;
              i = i;
              x = x;
              r = r;
              block = block;
              rest = rest;
              frame = frame;
              q = whole_part;
              stays = a.stays;
              part = part_of_itself whole_part;
              home = owns_itself (each_scope scope r i x) (part_frame frame x whole_part).regions;
              first = first;
              holds = swept_holds scope layout i x r block frame whole_part own a.stays.fits.0.4 first (λ z seen other has p q.
                  let before = each_seen scope r i x z other seen in
                  slots (suc (suc (slot_of names z))) (omega (arith, has))
                  ∙ (let e : 0 + suc (suc (slot_of names z)) ≡ 2 + slot_of names z = omega arith in ap (λ (o : ℕ). held g (register o)) e)
                  ∙ loads.loaded z has ∙ a.holds.holds z before (has_all (is_member bytes_eq (free_names block)) layout z has));
            }) refl,
            less_label t.arrays part_label l (owns_on (owns_no_more
                (part_comes t rules admitted scope i x r block rest a.stays.sites frame whole_part (part_of_itself whole_part)))
                a.stays.home),
          )))))))

    module _ (m : Memory Where) (w : IsSwept t code rules admitted l (own_of m)) where
      abbrev entry : ℕ
      entry = entry_of code w.h

      pub entry_tame : Goes all 0 (instrs_of code entry) zeros m
      entry_tame =
          let v = m (Own (Slot 0)) in
          let g1 = slice_set zeros (register 0).index v in
          let n = length_of (held g1 (register 0)) in
          let g2 = slice_set g1 (register 0).index n in
          let g3 = slice_set g2 (register 1).index (word_of (pos 1)) in
          let b = cond (int_lt (value_of (held g3 (register 1))) (value_of (held g3 (register 0)))) 1 0 in
          let g4 = slice_set g3 (register 2).index b in
          let last = instr.Ends ends.Finish ∷ [] in
          let one = instr.BranchZero (register 0) 8 ∷ instr.Ends (ends.Next (element_block entry)) ∷ last in
          let rest = instr.BranchZero (register 2) 6 ∷ instr.Ends (ends.Next (halving entry)) ∷ one in
          let ends_one : Goes all 6 one g4 m =
          go_zero all 6 (instr.Ends (ends.Next (element_block entry)) ∷ last) g4 m (register 0) 8 (go_end all 8 [] g4 m ends.Finish tt)
          (go_end all 7 last g4 m (ends.Next (element_block entry))
          (Begins (element_level t code rules admitted l (own_of m) w) refl (element_at t code rules admitted l (own_of m) w))) in
          subst (λ (is : List Instr). Goes all 0 is zeros m) (sym w.stays.stands.0.1)
          (go_load all 0 (instr.Len (register 0) (register 0) ∷ instr.Const (register 1) (pos 1) ∷ instr.Less (register 2) (register 1)
          (register 0) ∷ rest) zeros m (register 0) 0
          (go_set all 1 (instr.Const (register 1) (pos 1) ∷ instr.Less (register 2) (register 1) (register 0) ∷ rest) g1 m (instr.Len
          (register 0) (register 0)) (register 0) n refl
          (go_set all 2 (instr.Less (register 2) (register 1) (register 0) ∷ rest) g2 m (instr.Const (register 1) (pos 1)) (register 1) (word_of
          (pos 1)) refl
          (go_set all 3 rest g3 m (instr.Less (register 2) (register 1) (register 0)) (register 2) b refl
          (go_zero all 4 (instr.Ends (ends.Next (halving entry)) ∷ one) g4 m (register 2) 6 ends_one
          (go_end all 5 one g4 m (ends.Next (halving entry)) (Halves w refl)))))))
