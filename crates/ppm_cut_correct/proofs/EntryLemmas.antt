-- An `each`: its hidden procedure is called with the whole region, and where it is entered it goes on by how many elements are in hand.
use Rattle.std.proofs.Common.{◌≡◌, ◌≤◌, ◌<◌, ℕ, zero, suc, ◌+◌, ◌*◌, ◌^◌, Bool, pos, List, [], ◌∷◌, None, length}
use Rattle.std.proofs.Common.{replicate, inl, refl, sym, ap, ◌∙◌, subst, subst₂, arith}
use Rattle.std.specs.Prelude.{slice_index, slice_set, int_lt, if◌then◌else◌}
use Rattle.std.specs.List.{sum}
use Rattle.std.proofs.lemmas.Bool.{lt-ltb}
use Rattle.std.proofs.lemmas.Nat.{mod-mul-add}
use Rattle.ppm_strands.specs.Tree.{Words, Strand, Call as Calling, Over}
use Rattle.ppm_strands.specs.Capsule.{Memory, Capsule}
use Rattle.ppm_strands.specs.Strand.{New, new_of}
use Rattle.ppm_words.specs.TwosComplement.{value_of}
use Rattle.ppm_code.specs.declared.act.End.{End}
use Rattle.ppm_code.specs.declared.act.End.TheVariants as ends
use Rattle.ppm_code.specs.declared.code.CodeParts.{CodeParts}
use Rattle.ppm_code.specs.declared.instr.Instr.{Instr}
use Rattle.ppm_code.specs.declared.instr.Instr.TheVariants as instr
use Rattle.ppm_code.specs.declared.location.FrameWord.{FrameWord}
use Rattle.ppm_code.specs.declared.location.FrameWord.TheVariants.{Slot}
use Rattle.ppm_code.specs.Acts.{length_of}
use Rattle.ppm_code.specs.Locations.{Where}
use Rattle.ppm_code.specs.Capsules.{capsule_of, capsule_from}
use Rattle.ppm_code.specs.Sizes.{slots_of}
use Rattle.ppm_code.specs.Strands.{Gave, entry_of, built}
use Rattle.ppm_code.proofs.BuiltLemmas.{built_slot}
use Rattle.ppm_tree.specs.State.{Frame, Arrays}
use Rattle.ppm_ownership.specs.Coming.{stretch}
use Rattle.ppm_regions.specs.Scope.{Scope}
use Rattle.ppm_cut_code.specs.Layout.{Layout, slot_of, caught, register}
use Rattle.ppm_cut_code.specs.Numbers.{halving, element_block}
use Rattle.ppm_cut_code.specs.Slots.{hidden_slots, frame_words}
use Rattle.ppm_cut_code.specs.Statements.{each_code, entry_code, stores_code}
use Rattle.ppm_cut_code.proofs.RegionWords.{offset_of, region_word}
use Rattle.ppm_cut_correct.proofs.ChainLemmas.{cost, Chain}
use Rattle.ppm_cut_correct.proofs.Holding.{HoldsValue, at_work, waits, strands}
use Rattle.ppm_cut_correct.proofs.Doing.{Entered, EntryDoes, EachDoes}
use Rattle.ppm_cut_correct.proofs.ExprLemmas.{Goes, goes_on, goes_equal, set_count, holds_number}
use Rattle.ppm_cut_correct.proofs.StepLemmas.{start_at, whole}
use Rattle.ppm_cut_correct.proofs.SlotLemmas.{sweep_holds, each_catches}
use Rattle.ppm_cut_correct.proofs.BlockLemmas.{loads_go, stored, stored_at, stored_else, stored_own, stored_shared, stores_go}

-- a small number is its own value
pub value_is : (n : ℕ) → n < 2 ^ 63 → value_of n ≡ pos n
value_is n low = (holds_number n low).value

module _ (lengths : List ℕ) (code : CodeParts) (scope : Scope) (layout : Layout) (f : Frame) (own : FrameWord → ℕ) (a : Words) (arrays : Arrays)
    (at next : ℕ) where
  abbrev W : ℕ
  W = sum lengths

  abbrev at_start : Memory Where
  at_start = start_at lengths code own at a

  -- the branches, where register 0 has the length and register 2 says whether it is more than one
  abbrev branches : List Instr
  branches =
      instr.BranchZero (register 2) 6 ∷ instr.Ends (ends.Next (halving at)) ∷ instr.BranchZero (register 0) 8
      ∷ instr.Ends (ends.Next (element_block at)) ∷ instr.Ends ends.Finish ∷ []

  abbrev at_branches : (count many : ℕ) → Capsule Where End
  at_branches count many =
      capsule_from W 4 0 branches (slice_set (slice_set (slice_set (slice_set (replicate 64 0) 0 (own (Slot 0))) 0 count) 1 1) 2 many)

  abbrev many_of : ℕ → ℕ
  many_of count = if int_lt (value_of 1) (value_of count) then 1 else 0

  more_than_one : (k : ℕ) → suc (suc k) ≤ 4194304 → many_of (suc (suc k)) ≡ 1
  more_than_one k low =
      ap (λ z. if int_lt (pos 1) z then 1 else 0) (value_is (suc (suc k)) (omega (arith, low)))
      ∙ ap (λ (b : Bool). if b then 1 else 0) (lt-ltb 1 (suc (suc k)) (omega arith))

  to_branches : (count : ℕ) → length_of (own (Slot 0)) ≡ count
      → Goes (capsule_of W (entry_code at)) at_start (at_branches count (many_of count)) at_start
  to_branches count is = goes_on (record { ends = refl; left = refl; asks = refl })
      (goes_equal (at_branches (length_of (own (Slot 0))) (many_of (length_of (own (Slot 0))))) (at_branches count (many_of count)) at_start
      (ap (λ (n : ℕ). at_branches n (many_of n)) is))

  pub entry_does : EntryDoes lengths code scope layout f own a arrays at next
  entry_does start m stands is_part small at_value = go m small refl
    where
      counted : (k : ℕ) → k ≤ 4194304 → k ≡ m → length_of (own (Slot 0)) ≡ k
      counted k low is =
          ap length_of is_part ∙ mod-mul-add start (2 ^ 32) m (omega (arith, low, is)) ∙ sym is

      go : (k : ℕ) → k ≤ 4194304 → k ≡ m → Entered lengths code scope layout f own a arrays at next k
      go zero low is =
          let g = to_branches 0 (counted 0 low is) in
          subst (λ (v : ℕ). Chain (strands lengths code) (cost 1 1 0 0) (Strand (at_work own at)) a (Over (Gave v)) a) at_value
          (whole lengths code at (entry_code at) stands own a ends.Finish at_start 0 g.ends g.left g.asks)
      go (suc zero) low is =
          let g = to_branches 1 (counted 1 low is) in
          whole lengths code at (entry_code at) stands own a (ends.Next (element_block at)) at_start 0 g.ends g.left g.asks
      go (suc (suc k)) low is =
          let c = suc (suc k) in
          let g = goes_on (to_branches c (counted c low is))
          (goes_equal (at_branches c (many_of c)) (at_branches c 1) at_start (ap (at_branches c) (more_than_one k low))) in
          whole lengths code at (entry_code at) stands own a (ends.Next (halving at)) at_start 0 g.ends g.left g.asks

  pub each_does : EachDoes lengths code scope layout f own a arrays at next
  each_does i x r block h hand stands has_slots region other no_i no_x few =
      let names = caught layout block in
      let count = suc (suc (length names)) in
      let room = frame_words (hidden_slots (length names) block) in
      let q = f.regions r.name in
      let w = own (Slot (slot_of layout r.name)) in
      let g = slice_set (slice_set (replicate 64 0) 0 w) 1 0 in
      let last : List Instr = instr.Ends (ends.Call h next None) ∷ [] in
      let rest = stores_code 6 0 count last in
      let sixty_four = set_count (slice_set (replicate 64 0) 0 w) 1 0 (set_count (replicate 64 0) 0 w refl) in
      let l = loads_go W at_start layout names 2 3 rest g sixty_four (omega (arith, few)) in
      let s = stores_go W 6 0 count l.number last l.registers at_start (omega (arith, few)) in
      let m' = stored l.registers 6 0 count at_start in
      let goes = goes_on l.goes s.1 in
      let own' = built (slots_of code h) 0 (new_of m') in
      let at_slot : (k : ℕ) → k < count → own' (Slot k) ≡ slice_index l.registers k =
      λ k low. built_slot (slots_of code h) 0 (new_of m') k (omega (arith, low, has_slots))
      ∙ ap (λ (i : ℕ). m' (New i)) (let e : 0 + (6 + k) ≡ 6 + k = omega arith in e) ∙ stored_at l.registers 6 0 count at_start k low
      ∙ ap (slice_index l.registers) (let e : 0 + k ≡ k = omega arith in e) in
      let start_is : region_word lengths q ≡ region_word lengths (stretch 0 q.length q) =
      ap (λ (k : ℕ). (offset_of lengths q.array + k) * 2 ^ 32 + q.length) (let e : q.start ≡ q.start + 0 = omega arith in e) in
      let catches = each_catches lengths scope layout f i x r block other no_i no_x own own' hand.holds
      (λ k low. at_slot (suc (suc k)) (omega (arith, low)) ∙ ap (slice_index l.registers) (let e : suc (suc k) ≡ 2 + k = omega arith in e)
      ∙ l.loaded.words k low) in
      let chain = whole lengths code at (each_code layout r block h next) stands own a (ends.Call h next None) m' room goes.ends goes.left
      (ap (λ (z : ℕ). room + z) goes.asks ∙ (let e : room + 0 ≡ room = omega arith in e)) in (
        own',
        sweep_holds lengths scope layout f i x r block other no_i no_x q own' 0 q.length catches
            (at_slot 0 (omega arith) ∙ l.loaded.keeps 0 (omega arith)
            ∙ hand.holds.region r.name region.declaration region.found region.kind region.has ∙ start_is)
            (subst (λ (v : ℕ). HoldsValue v (pos 0)) (sym (at_slot 1 (omega arith) ∙ l.loaded.keeps 1 (omega arith))) (holds_number 0 (omega arith)))
            (stored_else l.registers 6 0 count at_start 4 (inl (omega arith))),
        subst₂ (λ (o : FrameWord → ℕ) (b : Words). Chain (strands lengths code) (cost 1 1 0 room) (Strand (at_work own at)) a
            (Calling (waits o next None None) (Strand (at_work own' (entry_of code h)))) b)
            (stored_own l.registers 6 0 count at_start) (stored_shared l.registers 6 0 count at_start) chain,
      )
