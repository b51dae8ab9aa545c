-- The hidden procedure of an `each` halves what it has in hand: it forks itself over both halves.
use Rattle.std.proofs.Common.{◌≡◌, ◌≤◌, ◌<◌, ℕ, suc, ◌+◌, ◌*◌, ◌/◌, ◌^◌, Bool, nat_lt, nat_le, pos, List, [], ◌∷◌, None}
use Rattle.std.proofs.Common.{length, inl, inr, replicate, refl, sym, ap, ap₂, ◌∙◌, subst, subst₂, arith}
use Rattle.std.specs.Prelude.{slice_index, slice_set, if◌then◌else◌, ◌-◌, ◌&&◌, ◌+ℤ◌}
use Rattle.std.specs.List.{sum}
use Rattle.std.proofs.lemmas.Bool.{lt-ltb, le-leb}
use Rattle.std.proofs.lemmas.Nat.{div-mul-add, mod-mul-add}
use Rattle.ppm_strands.specs.Tree.{Words, Strand, Fork as Forking}
use Rattle.ppm_strands.specs.Capsule.{Memory, Ends}
use Rattle.ppm_strands.specs.Strand.{new_of}
use Rattle.ppm_words.specs.TwosComplement.{value_of}
use Rattle.ppm_words.specs.declared.trap.Trap.TheVariants.{Overflow, Split}
use Rattle.ppm_code.specs.declared.act.Act.TheVariants.{Sets}
use Rattle.ppm_code.specs.declared.act.End.{End}
use Rattle.ppm_code.specs.declared.act.End.TheVariants as ends
use Rattle.ppm_code.specs.declared.code.CodeParts.{CodeParts}
use Rattle.ppm_code.specs.declared.instr.Instr.{Instr}
use Rattle.ppm_code.specs.declared.instr.Instr.TheVariants as instr
use Rattle.ppm_code.specs.declared.location.FrameWord.{FrameWord}
use Rattle.ppm_code.specs.declared.location.FrameWord.TheVariants.{Slot}
use Rattle.ppm_code.specs.declared.register.Register.{Register}
use Rattle.ppm_code.specs.Acts.{start_of, length_of, traps, quotient_of, cut_left_of, cut_right_of, whole as fitting}
use Rattle.ppm_code.specs.Sizes.{slots_of, left_at, right_at}
use Rattle.ppm_code.specs.Locations.{Where}
use Rattle.ppm_code.specs.Capsules.{capsule_from}
use Rattle.ppm_code.specs.Strands.{instrs_of, entry_of, built}
use Rattle.ppm_tree.specs.State.{Frame, Arrays}
use Rattle.ppm_ownership.specs.Coming.{stretch}
use Rattle.ppm_regions.specs.Scope.{Scope}
use Rattle.ppm_cut_code.specs.Layout.{Layout, caught, register}
use Rattle.ppm_cut_code.specs.Numbers.{halving, halved}
use Rattle.ppm_cut_code.specs.Slots.{hidden_slots, frame_words, fork_words}
use Rattle.ppm_cut_code.specs.Statements.{halving_code, names_code, stores_code}
use Rattle.ppm_cut_code.proofs.RegionWords.{offset_of, region_word}
use Rattle.ppm_cut_correct.proofs.ChainLemmas.{cost, Chain}
use Rattle.ppm_cut_correct.proofs.Holding.{HoldsValue, at_work, waits, strands}
use Rattle.ppm_cut_correct.proofs.Doing.{HalvingDoes}
use Rattle.ppm_cut_correct.proofs.ExprLemmas.{Goes, goes_on, goes_equal, sets, set_count, holds_number}
use Rattle.ppm_cut_correct.proofs.StepLemmas.{start_at, whole}
use Rattle.ppm_cut_correct.proofs.SlotLemmas.{sweep_holds, half_catches, part_slot, index_slot}
use Rattle.ppm_cut_correct.proofs.BlockLemmas.{Loads, names_go, half_stored, half_own, half_shared, half_else, IsHalf, half_built, half_go}
use Rattle.ppm_cut_correct.proofs.EntryLemmas.{value_is}

-- half of a small number
half_does : (line : ℕ) (d : Register) (m : ℕ) → m ≤ 4194304 → quotient_of line d (value_of m) (value_of 2) ≡ Sets d (m / 2)
half_does line d m low =
    ap (λ z. quotient_of line d z (value_of 2)) (value_is m (omega (arith, low)))
    ∙ ap (λ (b : Bool). if b then Sets d (m / 2) else traps Overflow line) (lt-ltb (m / 2) (2 ^ 63) (omega (arith, low)))

-- a sum of small numbers
sum_does : (line : ℕ) (d : Register) (word n k : ℕ) → value_of word ≡ pos n → n ≤ 4194304 → k ≤ 4194304
    → fitting line d (value_of word +ℤ value_of k) ≡ Sets d (n + k)
sum_does line d word n k is low_n low_k =
    ap₂ (λ y z. fitting line d (y +ℤ z)) is (value_is k (omega (arith, low_k)))
    ∙ ap (λ (b : Bool). if b then Sets d (n + k) else traps Overflow line) (lt-ltb (n + k) (2 ^ 63) (omega (arith, low_n, low_k)))

-- the word of a region with this start and length, cut
module _ (line : ℕ) (d : Register) (start count at : ℕ) (low : count ≤ 4194304) (within : at ≤ count) where
  abbrev whole_word : ℕ
  whole_word = start * 2 ^ 32 + count

  is_start : start_of whole_word ≡ start
  is_start = div-mul-add start (2 ^ 32) count (omega (arith, low))

  is_length : length_of whole_word ≡ count
  is_length = mod-mul-add start (2 ^ 32) count (omega (arith, low))

  left_does : cut_left_of line d whole_word at ≡ Sets d (start * 2 ^ 32 + at)
  left_does =
      ap₂ (λ (s n : ℕ). if nat_le at n then Sets d (s * 2 ^ 32 + at) else traps Split line) is_start is_length
      ∙ ap (λ (b : Bool). if b then Sets d (start * 2 ^ 32 + at) else traps Split line) (le-leb at count within)

  right_does : start ≤ 4194304 → cut_right_of line d whole_word at ≡ Sets d ((start + at) * 2 ^ 32 + (count - at))
  right_does small =
      ap₂ (λ (s n : ℕ). if nat_le at n && nat_lt (s + at) (2 ^ 32) then Sets d ((s + at) * 2 ^ 32 + (n - at)) else traps Split line)
      is_start is_length
      ∙ ap₂ (λ (b c : Bool). if b && c then Sets d ((start + at) * 2 ^ 32 + (count - at)) else traps Split line) (le-leb at count within)
      (lt-ltb (start + at) (2 ^ 32) (omega (arith, small, within, low)))

module _ (lengths : List ℕ) (code : CodeParts) (scope : Scope) (layout : Layout) (f : Frame) (own : FrameWord → ℕ) (a : Words) (arrays : Arrays)
    (at next : ℕ) where
  abbrev W : ℕ
  W = sum lengths

  abbrev at_start : Memory Where
  at_start = start_at lengths code own (halving at) a

  -- the registers, one after the other
  module _ (half left right total : ℕ) where
    abbrev with_length : List ℕ
    with_length = slice_set (slice_set (slice_set (replicate 64 0) 0 (own (Slot 0))) 1 (length_of (own (Slot 0)))) 2 2

    abbrev with_half : List ℕ
    with_half = slice_set with_length 1 half

    abbrev with_left : List ℕ
    with_left = slice_set with_half 2 left

    abbrev with_right : List ℕ
    with_right = slice_set with_left 3 right

    abbrev with_index : List ℕ
    with_index = slice_set with_right 4 (own (Slot 1))

    abbrev with_total : List ℕ
    with_total = slice_set with_index 5 total

    -- the instructions in front of the names
    module _ (line : ℕ) (rest : List Instr) where
      abbrev at_sum : List Instr
      at_sum = instr.Add (register 5) (register 4) (register 1) line ∷ rest

      abbrev at_index : List Instr
      at_index = instr.LoadSlot (register 4) 1 ∷ at_sum

      abbrev at_right : List Instr
      at_right = instr.CutRight (register 3) (register 0) (register 1) line ∷ at_index

      abbrev at_left : List Instr
      at_left = instr.CutLeft (register 2) (register 0) (register 1) line ∷ at_right

      abbrev at_half : List Instr
      at_half = instr.Div (register 1) (register 1) (register 2) line ∷ at_left

      front_goes : quotient_of line (register 1) (value_of (length_of (own (Slot 0)))) (value_of 2) ≡ Sets (register 1) half
          → cut_left_of line (register 2) (own (Slot 0)) half ≡ Sets (register 2) left
          → cut_right_of line (register 3) (own (Slot 0)) half ≡ Sets (register 3) right
          → fitting line (register 5) (value_of (own (Slot 1)) +ℤ value_of half) ≡ Sets (register 5) total
          → Goes (capsule_from W 4 0 at_half with_length) at_start (capsule_from W 9 0 rest with_total) at_start
      front_goes is_half is_left is_right is_total =
          let one = sets W 4 (instr.Div (register 1) (register 1) (register 2) line) at_left with_length (register 1) half is_half in
          let two = sets W 5 (instr.CutLeft (register 2) (register 0) (register 1) line) at_right with_half (register 2) left is_left in
          let three = sets W 6 (instr.CutRight (register 3) (register 0) (register 1) line) at_index with_left (register 3) right is_right in
          let five = sets W 8 (instr.Add (register 5) (register 4) (register 1) line) rest with_index (register 5) total is_total in
          let loaded : Goes (capsule_from W 7 0 at_index with_right) at_start (capsule_from W 8 0 at_sum with_index) at_start =
          record { ends = refl; left = refl; asks = refl } in
          goes_on (goes_equal (capsule_from W 4 0 at_half with_length) (capsule_from W 5 0 at_left with_half) at_start one)
          (goes_on (goes_equal (capsule_from W 5 0 at_left with_half) (capsule_from W 6 0 at_right with_left) at_start two)
          (goes_on (goes_equal (capsule_from W 6 0 at_right with_left) (capsule_from W 7 0 at_index with_right) at_start three)
          (goes_on loaded (goes_equal (capsule_from W 8 0 at_sum with_index) (capsule_from W 9 0 rest with_total) at_start five))))

    with_total_count : length with_total ≡ 64
    with_total_count =
        set_count with_index 5 total (set_count with_right 4 (own (Slot 1)) (set_count with_left 3 right (set_count with_half 2 left
        (set_count with_length 1 half (set_count (slice_set (slice_set (replicate 64 0) 0 (own (Slot 0))) 1 (length_of (own (Slot 0)))) 2 2
        (set_count (slice_set (replicate 64 0) 0 (own (Slot 0))) 1 (length_of (own (Slot 0))) (set_count (replicate 64 0) 0 (own (Slot 0)) refl)))))))

  -- what stands after these: the names, and then both frames are stored
  module _ (h slots count line : ℕ) (half left right total : ℕ) (few : count ≤ 24) where
    abbrev fork_end : End
    fork_end = ends.Fork h h (halved at) None None

    abbrev right_offset : ℕ
    right_offset = 11 + frame_words slots

    abbrev right_stores : List Instr
    right_stores =
        instr.StoreNew right_offset (register 3) ∷ instr.StoreNew (suc right_offset) (register 5)
        ∷ stores_code (suc (suc right_offset)) 6 count (instr.Ends fork_end ∷ [])

    abbrev left_stores : List Instr
    left_stores = instr.StoreNew 11 (register 2) ∷ instr.StoreNew 12 (register 4) ∷ stores_code 13 6 count right_stores

    named : Loads W at_start 6 count (λ k. own (Slot (2 + k))) 9 (names_code 2 6 count left_stores) left_stores (with_total half left right total)
    named = names_go W at_start 2 6 count 9 left_stores (with_total half left right total) (with_total_count half left right total)
        (omega (arith, few))

    -- the registers then, and the memory with the left frame and with both
    abbrev registers : List ℕ
    registers = named.registers

    abbrev with_left_frame : Memory Where
    with_left_frame = half_stored registers 11 2 4 count at_start

    abbrev with_frames : Memory Where
    with_frames = half_stored registers right_offset 3 5 count with_left_frame

    stores_goes : Goes (capsule_from W named.number 0 left_stores registers) at_start (Ends fork_end) with_frames
    stores_goes =
        let first = half_go registers 11 2 4 count at_start W named.number right_stores (omega arith) (omega arith) (omega (arith, few)) in
        let second = half_go registers right_offset 3 5 count with_left_frame W first.0 (instr.Ends fork_end ∷ []) (omega arith) (omega arith)
        (omega (arith, few)) in
        goes_on first.1 second.1

    -- all instructions after the room
    all_goes : quotient_of line (register 1) (value_of (length_of (own (Slot 0)))) (value_of 2) ≡ Sets (register 1) half
        → cut_left_of line (register 2) (own (Slot 0)) half ≡ Sets (register 2) left
        → cut_right_of line (register 3) (own (Slot 0)) half ≡ Sets (register 3) right
        → fitting line (register 5) (value_of (own (Slot 1)) +ℤ value_of half) ≡ Sets (register 5) total
        → Goes (capsule_from W 4 0 (at_half half left right total line (names_code 2 6 count left_stores))
        (with_length half left right total)) at_start
        (Ends fork_end) with_frames
    all_goes is_half is_left is_right is_total =
        goes_on (front_goes half left right total line (names_code 2 6 count left_stores) is_half is_left is_right is_total)
        (goes_on named.goes stores_goes)

    -- the two frames, and what they keep of this one
    left_frame : 2 + count ≤ slots → slots_of code h ≡ slots
        → IsHalf registers 11 2 4 count at_start (built (slots_of code h) left_at (new_of with_frames))
    left_frame fit is = half_built registers 11 2 4 count at_start with_frames (slots_of code h) 5 (omega (arith, fit, is)) refl
        (λ k low high. half_else registers right_offset 3 5 count with_left_frame k (inl (omega (arith, high, fit))))
        (half_else registers right_offset 3 5 count with_left_frame 9 (inl (omega arith))
        ∙ half_else registers 11 2 4 count at_start 9 (inl (omega arith)))

    right_frame : 2 + count ≤ slots → slots_of code h ≡ slots
        → IsHalf registers right_offset 3 5 count with_left_frame (built (slots_of code h) (right_at code h) (new_of with_frames))
    right_frame fit is = half_built registers right_offset 3 5 count with_left_frame with_frames (slots_of code h) (right_at code h)
        (omega (arith, fit, is)) (omega (arith, is))
        (λ k low high. refl)
        (half_else registers right_offset 3 5 count with_left_frame (right_at code h + 4) (inl (omega (arith, is)))
        ∙ half_else registers 11 2 4 count at_start (right_at code h + 4) (inr (omega (arith, is, fit))))

    kept : (k : ℕ) → k < count → slice_index registers (6 + k) ≡ own (Slot (suc (suc k)))
    kept k low = named.loaded.words k low ∙ ap (λ (s : ℕ). own (Slot s)) (let e : 2 + k ≡ suc (suc k) = omega arith in e)

    -- the whole capsule
    forks : instrs_of code (halving at) ≡ halving_code at h slots count line → at ≡ entry_of code h
        → Goes (capsule_from W 4 0 (at_half half left right total line (names_code 2 6 count left_stores))
        (with_length half left right total)) at_start
        (Ends fork_end) with_frames
        → Chain (strands lengths code) (cost 1 1 1 (fork_words slots slots)) (Strand (at_work own (halving at))) a
        (Forking (waits own (halved at) None None) (Strand (at_work (built (slots_of code h) left_at (new_of with_frames)) at))
        (Strand (at_work (built (slots_of code h) (right_at code h) (new_of with_frames)) at))) a
    forks stands is_entry goes =
        let room = fork_words slots slots in
        let first = built (slots_of code h) left_at (new_of with_frames) in
        let second = built (slots_of code h) (right_at code h) (new_of with_frames) in
        let chain = whole lengths code (halving at) (halving_code at h slots count line) stands own a fork_end with_frames room goes.ends goes.left
        (ap (λ (z : ℕ). room + z) goes.asks ∙ (let e : room + 0 ≡ room = omega arith in e)) in
        subst (λ (e : ℕ). Chain (strands lengths code) (cost 1 1 1 room) (Strand (at_work own (halving at))) a
        (Forking (waits own (halved at) None None) (Strand (at_work first e)) (Strand (at_work second e))) a) (sym is_entry)
        (subst₂ (λ (w : FrameWord → ℕ) (b : Words). Chain (strands lengths code) (cost 1 1 1 room) (Strand (at_work own (halving at))) a
        (Forking (waits w (halved at) None None) (Strand (at_work first (entry_of code h))) (Strand (at_work second (entry_of code h)))) b)
        (half_own registers right_offset 3 5 count with_left_frame ∙ half_own registers 11 2 4 count at_start)
        (half_shared registers right_offset 3 5 count with_left_frame ∙ half_shared registers 11 2 4 count at_start) chain)

  pub halving_does : HalvingDoes lengths code scope layout f own a arrays at next
  halving_does i x r block h q n m stands has_slots is_entry holds other no_i no_x few bound within =
      let count = length (caught layout block) in
      let slots = hidden_slots count block in
      let half = m / 2 in
      let start = offset_of lengths q.array + (q.start + n) in
      let left = start * 2 ^ 32 + half in
      let right = (start + half) * 2 ^ 32 + (m - half) in
      let total = n + half in
      let smaller : half ≤ m = omega arith in
      let small : m ≤ 4194304 = omega (arith, within) in
      let small_n : n ≤ 4194304 = omega (arith, within) in
      let small_half : half ≤ 4194304 = omega (arith, small, smaller) in
      let small_start : start ≤ 4194304 = omega (arith, bound) in
      let fit : 2 + count ≤ slots = omega arith in
      let is_part : own (Slot 0) ≡ start * 2 ^ 32 + m = part_slot lengths scope layout f i x r block other no_i no_x q n m own holds in
      let is_index = index_slot lengths scope layout f i x r block other no_i no_x q n m own holds in
      let goes = all_goes h slots count r.line half left right total few
      (ap (λ (w : ℕ). quotient_of r.line (register 1) (value_of (length_of w)) (value_of 2)) is_part
      ∙ ap (λ (k : ℕ). quotient_of r.line (register 1) (value_of k) (value_of 2)) (is_length r.line (register 1) start m half small smaller)
      ∙ half_does r.line (register 1) m small)
      (ap (λ (w : ℕ). cut_left_of r.line (register 2) w half) is_part ∙ left_does r.line (register 2) start m half small smaller)
      (ap (λ (w : ℕ). cut_right_of r.line (register 3) w half) is_part ∙ right_does r.line (register 3) start m half small smaller small_start)
      (sum_does r.line (register 5) (own (Slot 1)) n half is_index.value small_n small_half) in
      let loaded = (named h slots count r.line half left right total few).loaded in
      let keeps = kept h slots count r.line half left right total few in
      let first = left_frame h slots count r.line half left right total few fit has_slots in
      let second = right_frame h slots count r.line half left right total few fit has_slots in
      let memory = with_frames h slots count r.line half left right total few in
      let first_own = built (slots_of code h) left_at (new_of memory) in
      let second_own = built (slots_of code h) (right_at code h) (new_of memory) in
      let right_is : right ≡ region_word lengths (stretch (n + half) (m - half) q) =
      ap (λ (s : ℕ). s * 2 ^ 32 + (m - half)) (let e : start + half ≡ offset_of lengths q.array + (q.start + (n + half)) = omega arith in e) in (
        first_own,
        second_own,
        sweep_holds lengths scope layout f i x r block other no_i no_x q first_own n half
            (half_catches lengths scope layout f i x r block other no_i no_x q n m own first_own holds (λ k low. first.names k low ∙ keeps k low))
            (first.at_part ∙ loaded.keeps 2 (omega arith))
            (subst (λ (v : ℕ). HoldsValue v (pos n)) (sym (first.at_index ∙ loaded.keeps 4 (omega arith))) is_index) first.value,
        sweep_holds lengths scope layout f i x r block other no_i no_x q second_own total (m - half)
            (half_catches lengths scope layout f i x r block other no_i no_x q n m own second_own holds (λ k low. second.names k low ∙ keeps k low))
            (second.at_part ∙ loaded.keeps 3 (omega arith) ∙ right_is)
            (subst (λ (v : ℕ). HoldsValue v (pos total)) (sym (second.at_index ∙ loaded.keeps 5 (omega arith)))
            (holds_number total (omega (arith, small_n, small_half)))) second.value,
        forks h slots count r.line half left right total few stands is_entry goes,
      )
