-- A hidden procedure that goes on by halves: it forks itself over both halves of its part, and gives both the names of outside.
use Rattle.std.proofs.Common.{◌≡◌, ◌≤◌, ◌<◌, ℕ, suc, ◌+◌, ◌-◌, ◌*◌, ◌^◌, cond, Bool, List, [], ◌∷◌, None}
use Rattle.std.proofs.Common.{length, slice_set, refl, sym, ap, ◌∙◌, subst, arith}
use Rattle.std.specs.Prelude.{pos, ◌+ℤ◌, int_div}
use Rattle.ppm_strands.specs.Capsule.{Memory, store}
use Rattle.ppm_strands.specs.Strand.{Own, New as NewWord, own_of, new_of}
use Rattle.ppm_words.specs.TwosComplement.{word_of, value_of}
use Rattle.ppm_code.specs.declared.act.End.TheVariants as ends
use Rattle.ppm_code.specs.declared.code.CodeParts.{CodeParts}
use Rattle.ppm_code.specs.declared.instr.Instr.{Instr}
use Rattle.ppm_code.specs.declared.instr.Instr.TheVariants as instr
use Rattle.ppm_code.specs.declared.location.FrameWord.{FrameWord}
use Rattle.ppm_code.specs.declared.location.FrameWord.TheVariants.{Slot}
use Rattle.ppm_code.specs.Acts.{held, start_of, length_of}
use Rattle.ppm_code.specs.Locations.{Where, code_locations}
use Rattle.ppm_code.specs.Sizes.{slots_of, right_at}
use Rattle.ppm_code.specs.Strands.{instrs_of, entry_of, built, at_capsule}
use Rattle.ppm_code.proofs.BuiltLemmas.{built_slot}
use Rattle.ppm_tree.specs.Tree.{ProgramTree}
use Rattle.ppm_tree.specs.State.{Region, first_part, second_part}
use Rattle.ppm_regions.specs.Scope.{Scope, each_scope, part}
use Rattle.ppm_regions.specs.Admission.{IsAdmitted}
use Rattle.ppm_regions.specs.Correct.{KeepsRules}
use Rattle.ppm_ownership.specs.Words.{IsPart}
use Rattle.ppm_ownership.specs.Coming.{part_frame}
use Rattle.ppm_ownership.proofs.PartLemmas.{owns_on, first_in, second_in, halves_share_none, owns_itself}
use Rattle.ppm_ownership.proofs.ComingLemmas.{parts_beside}
use Rattle.ppm_cut_code.specs.Layout.{Layout, slot_of, caught, register}
use Rattle.ppm_cut_code.specs.Numbers.{halving, halved}
use Rattle.ppm_cut_code.specs.Slots.{hidden_slots, frame_words, fork_words}
use Rattle.ppm_cut_code.specs.Statements.{Instrs, hidden_layout, stores_code, names_code}
use Rattle.ppm_cut_code.proofs.RegionWords.{lengths_of, region_word}
use Rattle.ppm_strands.specs.Labels.{IsLess, AreApart}
use Rattle.ppm_cut_sound.proofs.OwnLemmas.{Label, OwnsWord, WritesWord, AreShort, seen_short, length_is}
use Rattle.ppm_cut_sound.proofs.OwnLemmas.{first_word, second_word, less_label, apart_labels}
use Rattle.ppm_cut_sound.proofs.TameLemmas.{World, Goes, IsFile, file_set, held_set, held_other, registers_differ, keeps_itself, keeps_set, go_set}
use Rattle.ppm_cut_sound.proofs.TameLemmas.{go_work, go_load, go_new, go_room, go_end, go_cut_left, go_cut_right, whole_works, divided_works}
use Rattle.ppm_cut_sound.proofs.StandLemmas.{seen_of}
use Rattle.ppm_cut_sound.proofs.LevelLemmas.{IsSwept, Runs, Enters, ForHalves}
use Rattle.ppm_cut_sound.proofs.BlockTame.{world, zeros, zeros_kept}
use Rattle.ppm_cut_sound.proofs.CallTame.{new_other, new_here, stores_tame}
use Rattle.ppm_cut_sound.proofs.EachTame.{part_on, part_shorter, smaller_owns, AreLoaded, names_tame, swept_holds}

module _ (t : ProgramTree) (code : CodeParts) (rules : KeepsRules t) (admitted : IsAdmitted t) (short : AreShort t.arrays) (words : ℕ) (l : Label)
    (m : Memory Where) (w : IsSwept t code rules admitted l (own_of m)) where
  abbrev all : World
  all = world t code rules admitted short words l

  abbrev entry : ℕ
  entry = entry_of code w.h

  abbrev names : Layout
  names = caught w.layout w.block

  abbrev count : ℕ
  count = length names

  abbrev slots : ℕ
  slots = hidden_slots count w.block

  abbrev region_of : Region → ℕ
  region_of = region_word (lengths_of t.arrays)

  abbrev inner : Scope
  inner = each_scope w.scope w.r w.i w.x

  abbrev label_of : Region → Label
  label_of q = record { scope = inner; regions = (part_frame w.frame w.x q).regions }

  part_short : w.q.length < 2 ^ 32
  part_short =
      let r = w.r in
      let fits = w.stays.fits.0.0 in
      let all_short = seen_short t.arrays short w.around w.scope w.frame.regions w.stays.within w.stays.home r.name
      (seen_of w.scope w.layout r.name fits) in
      let less = part_shorter w.part in
      omega (arith, all_short, less)

  -- a half as it is entered
  abbrev half_swept : (q : Region) (own : FrameWord → ℕ) → IsPart q w.q → own (Slot 0) ≡ region_of q
      → ((j : ℕ) → j < count → own (Slot (2 + j)) ≡ m (Own (Slot (2 + j)))) → IsSwept t code rules admitted (label_of q) own
  half_swept q own part first same = record {
    around = w.around;
    spare = w.spare;
    scope = w.scope;
    layout = w.layout;
    at = w.at;
    h = w.h;
    last = w.last;
    i = w.i;
    x = w.x;
    r = w.r;
    block = w.block;
    rest = w.rest;
    frame = w.frame;
    q = q;
    stays = w.stays;
    part = part_on part w.part;
    home = owns_itself inner (part_frame w.frame w.x q).regions;
    first = first;
    holds =
        swept_holds t code rules admitted short words w.scope w.layout w.i w.x w.r w.block w.frame q own w.stays.fits.0.4 first
        (λ z seen other has p e.
        let slot = slot_of names z in
        let here : slot_of (hidden_layout w.layout w.i w.x w.block) z ≡ suc (suc slot) =
        ap (λ (b : Bool). cond b 0 (suc (slot_of (w.i.name ∷ names) z))) p ∙ ap (λ (b : Bool). suc (cond b 0 (suc slot))) e in
        let low : slot_of (hidden_layout w.layout w.i w.x w.block) z < length (hidden_layout w.layout w.i w.x w.block) = omega (arith, here, has) in
        let two : suc (suc slot) ≡ 2 + slot = omega arith in
        let outside = ap (λ (b : Bool). cond b w.q (w.frame.regions z)) p in
        ap (λ (k : ℕ). own (Slot k)) two ∙ same slot has ∙ ap (λ (k : ℕ). m (Own (Slot k))) (sym two ∙ sym here)
        ∙ w.holds z seen low ∙ ap region_of outside);
  }

  half_runs : (q : Region) (own : FrameWord → ℕ) → IsPart q w.q → own (Slot 0) ≡ region_of q
      → ((j : ℕ) → j < count → own (Slot (2 + j)) ≡ m (Own (Slot (2 + j))))
      → Runs t code rules admitted (label_of q) (record { own = own; point = at_capsule entry })
  half_runs q own part first same = Enters (half_swept q own part first same) refl

  half_less : (q : Region) → IsPart q w.q → IsLess (OwnsWord t.arrays) (WritesWord t.arrays) (label_of q) l
  half_less q part = less_label t.arrays (label_of q) l (owns_on (smaller_owns inner w.frame w.x q w.q part) w.home)

  halves_apart : (n : ℕ) → n ≤ w.q.length
      → AreApart (OwnsWord t.arrays) (WritesWord t.arrays) (label_of (first_part n w.q)) (label_of (second_part n w.q))
  halves_apart n low =
      apart_labels t.arrays (label_of (first_part n w.q)) (label_of (second_part n w.q))
      (parts_beside t rules admitted w.scope w.i w.x w.r w.block w.rest w.stays.sites w.frame (first_part n w.q) (second_part n w.q) w.stays.apart
      (part_on (first_in w.q n low) w.part) (part_on (second_in w.q n low) w.part) (halves_share_none w.q n))

  abbrev right_frame : ℕ
  right_frame = 11 + frame_words slots

  abbrev ending : Instrs
  ending = instr.Ends (ends.Fork w.h w.h (halved entry) None None) ∷ []

  abbrev right_stores : Instrs
  right_stores =
      instr.StoreNew right_frame (register 3) ∷ instr.StoreNew (suc right_frame) (register 5) ∷ stores_code (suc (suc right_frame)) 6 count ending

  abbrev left_stores : Instrs
  left_stores = instr.StoreNew 11 (register 2) ∷ instr.StoreNew 12 (register 4) ∷ stores_code 13 6 count right_stores

  -- both frames are built
  stores_end : (here n : ℕ) (g : List ℕ) → n ≤ w.q.length → held g (register 2) ≡ region_of (first_part n w.q)
      → held g (register 3) ≡ region_of (second_part n w.q)
      → AreLoaded all m 2 6 count g → Goes all here left_stores g m
  stores_end here n g low two three loads =
      let m1 = store code_locations m (NewWord 11) (held g (register 2)) in
      let m2 = store code_locations m1 (NewWord 12) (held g (register 4)) in
      go_new all here (instr.StoreNew 12 (register 4) ∷ stores_code 13 6 count right_stores) g m 11 (register 2)
      (go_new all (here + 1) (stores_code 13 6 count right_stores) g m1 12 (register 4)
      (stores_tame all count 13 6 (here + 1 + 1) right_stores g m2 (λ m3 st.
      let u = here + 1 + 1 + count in
      let m4 = store code_locations m3 (NewWord right_frame) (held g (register 3)) in
      let m5 = store code_locations m4 (NewWord (suc right_frame)) (held g (register 5)) in
      go_new all u (instr.StoreNew (suc right_frame) (register 5) ∷ stores_code (suc (suc right_frame)) 6 count ending) g m3 right_frame
      (register 3)
      (go_new all (u + 1) (stores_code (suc (suc right_frame)) 6 count ending) g m4 (suc right_frame) (register 5)
      (stores_tame all count (suc (suc right_frame)) 6 (u + 1 + 1) ending g m5 (λ m6 st'.
      let front : (o : ℕ) → o < right_frame → m6 (NewWord o) ≡ m3 (NewWord o) =
      λ o before. st'.front o (omega (arith, before)) ∙ new_other m4 o (suc right_frame) (held g (register 5)) (λ e. omega (arith, e, before))
      ∙ new_other m3 o right_frame (held g (register 3)) (λ e. omega (arith, e, before)) in
      let left_own = built (slots_of code w.h) 5 (new_of m6) in
      let right_own = built (slots_of code w.h) (right_at code w.h) (new_of m6) in
      let size_is = w.stays.stands.0.4 in
      let left_slot = built_slot (slots_of code w.h) 5 (new_of m6) in
      let right_slot = built_slot (slots_of code w.h) (right_at code w.h) (new_of m6) in
      let left_first : left_own (Slot 0) ≡ region_of (first_part n w.q) =
      left_slot 0 (omega (arith, size_is))
      ∙ front 11 (omega arith) ∙ st.front 11 (omega arith) ∙ new_other m1 11 12 (held g (register 4)) (λ e. omega (arith, e))
      ∙ new_here m 11 11 (held g (register 2)) refl ∙ two in
      let right_first : right_own (Slot 0) ≡ region_of (second_part n w.q) =
      right_slot 0 (omega (arith, size_is))
      ∙ (let e : (5 + (6 + slots_of code w.h)) + (6 + 0) ≡ right_frame = omega (arith, size_is) in ap (λ (o : ℕ). m6 (NewWord o)) e)
      ∙ st'.front right_frame (omega arith) ∙ new_other m4 right_frame (suc right_frame) (held g (register 5)) (λ e. omega (arith, e))
      ∙ new_here m3 right_frame right_frame (held g (register 3)) refl ∙ three in
      let left_others : (j : ℕ) → j < count → left_own (Slot (2 + j)) ≡ m (Own (Slot (2 + j))) =
      λ j before. left_slot (2 + j) (omega (arith, before, size_is))
      ∙ (let e : 5 + (6 + (2 + j)) ≡ 13 + j = omega arith in ap (λ (o : ℕ). m6 (NewWord o)) e)
      ∙ front (13 + j) (omega (arith, before)) ∙ st.within j before ∙ loads.loaded j before in
      let right_others : (j : ℕ) → j < count → right_own (Slot (2 + j)) ≡ m (Own (Slot (2 + j))) =
      λ j before. right_slot (2 + j) (omega (arith, before, size_is))
      ∙ (let e : (5 + (6 + slots_of code w.h)) + (6 + (2 + j)) ≡ suc (suc right_frame) + j = omega (arith, size_is) in ap (λ
      (o : ℕ). m6 (NewWord o)) e)
      ∙ st'.within j before ∙ loads.loaded j before in
      go_end all (u + 1 + 1 + count) [] g m6 (ends.Fork w.h w.h (halved entry) None None) (
        ForHalves w.stays.stands.0.3,
        label_of (first_part n w.q),
        label_of (second_part n w.q),
        half_runs (first_part n w.q) left_own (first_in w.q n low) left_first left_others,
        half_runs (second_part n w.q) right_own (second_in w.q n low) right_first right_others,
        half_less (first_part n w.q) (first_in w.q n low),
        half_less (second_part n w.q) (second_in w.q n low),
        halves_apart n low,
      )))))))

  -- the part is cut
  cuts_end : (here : ℕ) (g : List ℕ) → IsFile g → held g (register 0) ≡ m (Own (Slot 0)) → Goes all here
      (instr.CutLeft (register 2) (register 0) (register 1) w.r.line ∷ instr.CutRight (register 3) (register 0) (register 1) w.r.line
      ∷ instr.LoadSlot (register 4) 1 ∷ instr.Add (register 5) (register 4) (register 1) w.r.line ∷ names_code 2 6 count left_stores) g m
  cuts_end here g file is =
      let line = w.r.line in
      let few = w.stays.few.0.0 in
      let n = held g (register 1) in
      let one = start_of (held g (register 0)) * 2 ^ 32 + n in
      let g2 = slice_set g (register 2).index one in
      let file2 = file_set g (register 2).index one file in
      let two = (start_of (held g2 (register 0)) + held g2 (register 1)) * 2 ^ 32 + (length_of (held g2 (register 0)) - held g2 (register 1)) in
      let g3 = slice_set g2 (register 3).index two in
      let file3 = file_set g2 (register 3).index two file2 in
      let v = m (Own (Slot 1)) in
      let g4 = slice_set g3 (register 4).index v in
      let k4 = keeps_set 4 4 v g3 g3 (omega arith) (keeps_itself 4 g3 file3) in
      let same_n : held g2 (register 1) ≡ n = held_other g (register 2) (register 1) one (registers_differ 1 2 (omega arith) (omega arith)) in
      let same_w : held g2 (register 0) ≡ held g (register 0) = held_other g (register 2) (register 0) one (registers_differ 0 2 (omega arith)
      (omega arith)) in
      let holds : held g (register 0) ≡ region_of w.q = is ∙ w.first in
      let at_two : held g3 (register 2) ≡ region_of (first_part n w.q) =
      held_other g2 (register 3) (register 2) two (registers_differ 2 3 (omega arith) (omega arith)) ∙ held_set g (register 2) one file
      ∙ ap (λ (k : ℕ). start_of k * 2 ^ 32 + n) holds ∙ first_word t.arrays w.q part_short n in
      let at_three : held g3 (register 3) ≡ region_of (second_part n w.q) =
      held_set g2 (register 3) two file2
      ∙ ap (λ (k : ℕ). (start_of k + held g2 (register 1)) * 2 ^ 32 + (length_of k - held g2 (register 1))) (same_w ∙ holds)
      ∙ ap (λ (k : ℕ). (start_of (region_of w.q) + k) * 2 ^ 32 + (length_of (region_of w.q) - k)) same_n ∙ second_word t.arrays w.q part_short n in
      let add = instr.Add (register 5) (register 4) (register 1) line in
      let more = names_code 2 6 count left_stores in
      go_cut_left all here (instr.CutRight (register 3) (register 0) (register 1) line ∷ instr.LoadSlot (register 4) 1 ∷ add ∷ more) g m
      (register 2) (register 0) (register 1) line (λ low.
      let inside : n ≤ w.q.length = subst (λ (k : ℕ). n ≤ k) (ap length_of holds ∙ length_is t.arrays w.q part_short) low in
      go_cut_right all (here + 1) (instr.LoadSlot (register 4) 1 ∷ add ∷ more) g2 m (register 3) (register 0) (register 1) line
      (go_load all (here + 1 + 1) (add ∷ more) g3 m (register 4) 1
      (go_work all (here + 1 + 1 + 1) more g4 m add (register 5) (whole_works all line (register 5) (value_of (held g4 (register 4)) +ℤ value_of
      (held g4 (register 1)))) (λ s.
      let g5 = slice_set g4 (register 5).index s in
      let k5 = keeps_set 4 5 s g3 g4 (omega arith) k4 in
      names_tame all m count 2 6 (here + 1 + 1 + 1 + 1) left_stores g5 g5 (omega (arith, few)) (keeps_itself 6 g5 k5.file) (λ h k loads.
      stores_end (here + 1 + 1 + 1 + 1 + count) n h inside (k.kept 2 (omega arith) (omega arith) ∙ k5.kept 2 (omega arith) (omega arith) ∙ at_two)
      (k.kept 3 (omega arith) (omega arith) ∙ k5.kept 3 (omega arith) (omega arith) ∙ at_three) loads)))))

  pub halving_tame : Goes all 0 (instrs_of code (halving entry)) zeros m
  halving_tame =
      let line = w.r.line in
      let v = m (Own (Slot 0)) in
      let cuts =
      instr.CutLeft (register 2) (register 0) (register 1) line ∷ instr.CutRight (register 3) (register 0) (register 1) line
      ∷ instr.LoadSlot (register 4) 1 ∷ instr.Add (register 5) (register 4) (register 1) line ∷ names_code 2 6 count left_stores in
      let div = instr.Div (register 1) (register 1) (register 2) line in
      let g1 = slice_set zeros (register 0).index v in
      let k1 = keeps_set 0 0 v zeros zeros (omega arith) (zeros_kept t code rules admitted short words l 0) in
      let n = length_of (held g1 (register 0)) in
      let g2 = slice_set g1 (register 1).index n in
      let k2 = keeps_set 1 1 n g1 g1 (omega arith) (keeps_itself 1 g1 k1.file) in
      let g3 = slice_set g2 (register 2).index (word_of (pos 2)) in
      let k3 = keeps_set 1 2 (word_of (pos 2)) g1 g2 (omega arith) k2 in
      subst (λ (is : List Instr). Goes all 0 is zeros m) (sym w.stays.stands.0.2)
      (go_room all 0 (instr.LoadSlot (register 0) 0 ∷ instr.Len (register 1) (register 0) ∷ instr.Const (register 2)
      (pos 2) ∷ div ∷ cuts) zeros m (fork_words slots slots)
      (go_load all 1 (instr.Len (register 1) (register 0) ∷ instr.Const (register 2) (pos 2) ∷ div ∷ cuts) zeros m (register 0) 0
      (go_set all 2 (instr.Const (register 2) (pos 2) ∷ div ∷ cuts) g1 m (instr.Len (register 1) (register 0)) (register 1) n refl
      (go_set all 3 (div ∷ cuts) g2 m (instr.Const (register 2) (pos 2)) (register 2) (word_of (pos 2)) refl
      (go_work all 4 cuts g3 m div (register 1)
      (divided_works all line (register 1) (value_of (held g3 (register 1))) (value_of (held g3 (register 2)))
      (int_div (value_of (held g3 (register 1))) (value_of (held g3 (register 2))))) (λ s.
      let k4 = keeps_set 1 1 s g1 g3 (omega arith) k3 in
      cuts_end 5 (slice_set g3 (register 1).index s) k4.file (k4.kept 0 (omega arith) (omega arith) ∙ held_set zeros (register 0) v refl)))))))
