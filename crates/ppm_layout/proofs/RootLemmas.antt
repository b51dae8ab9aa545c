-- The keeper's pool begins with the root's frame.
use Rattle.std.proofs.Common.{◌≡◌, ℕ, ◌+◌, ◌-◌, ◌^◌, ◌<◌, ◌≤◌, List, [], ◌∷◌, length, map, get_or, Some, eqb, leb, ltb, refl, sym, ap, ◌∙◌, arith, lit<, inl, inr}
use Rattle.std.specs.List.{All}
use Rattle.std.specs.Prelude.{slice_get}
use Rattle.std.proofs.lemmas.Bool.{eq-eqb, le-leb, lt-ltb, le-ltb, cases_lt, cond-true, cond-false}
use Rattle.std.proofs.lemmas.List.Elements.{All-get_or}
use Rattle.std.proofs.lemmas.Option.{slice_get_cases}
use Rattle.ppm_strands.specs.Tree.{Strand}
use Rattle.std.proofs.lemmas.List.{get_or-append_right, get_or-map, get_or_past, length-map}
use Rattle.ppm_words.specs.declared.named_array.NamedArray.{NamedArray}
use Rattle.ppm_cells.specs.declared.shape.Shape.{Shape}
use Rattle.ppm_cells.specs.declared.cell.Cell.TheVariants.{RoomCounter, BlockWord, ArrayWord}
use Rattle.ppm_cells.specs.declared.finish.Finish.TheVariants.{Ended}
use Rattle.ppm_cells.specs.Cells.{pool_at, IsInPool}
use Rattle.ppm_cells.specs.Memory.{read}
use Rattle.ppm_cells.specs.Finish.{finish_word, IsFinish, finish_of}
use Rattle.ppm_cells.specs.Link.{link_word, IsLink, link_of}
use Rattle.ppm_cells.specs.declared.region.Region.{Region}
use Rattle.ppm_cells.specs.Region.{region_word, IsRegion, region_of}
use Rattle.ppm_cells.proofs.ExactLemmas.{unpack-pack}
use Rattle.ppm_cells.proofs.FinishLemmas.{finishes_exact}
use Rattle.ppm_cells.proofs.LinkLemmas.{links_exact}
use Rattle.ppm_cells.proofs.RegionLemmas.{regions_exact}
use Rattle.ppm_code.specs.declared.code.CodeParts.{CodeParts}
use Rattle.ppm_code.specs.declared.location.FrameWord.{FrameWord}
use Rattle.ppm_code.specs.declared.location.FrameWord.TheVariants.{Slot, Value}
use Rattle.ppm_code.specs.Limits.{slot_limit}
use Rattle.ppm_code.specs.declared.code.Procedure.{Procedure}
use Rattle.ppm_code.specs.Sizes.{slots_in, slots_of, frame_size, slot_at}
use Rattle.ppm_code.specs.Strands.{entry_of, at_capsule}
use Rattle.ppm_layout.specs.declared.images.Image.{Image}
use Rattle.ppm_layout.specs.Opening.{whole_array, root_link, root_frame}
use Rattle.ppm_layout.specs.Root.{own_at, root_own, strand_at, root_strand}
use Rattle.ppm_layout.specs.Correct.{Opens, BeginsWithRoot}
use Rattle.ppm_layout.proofs.InputLemmas.{whole_within}

-- a procedure has 25 slots at most
few_slots : (procedures : List Procedure) (number : ℕ) → All (λ p. p.slots ≤ slot_limit) procedures → slots_in (slice_get procedures number) ≤ slot_limit
few_slots procedures number all = elim ((slice_get_cases procedures number).1) [
  | inl there ↦
      let few : (get_or procedures number there.0).slots ≤ slot_limit
      = All-get_or (λ (p : Procedure). p.slots ≤ slot_limit) procedures number there.0 there.1 all in
      let is : slots_in (slice_get procedures number) ≡ (get_or procedures number there.0).slots
      = ap slots_in there.2 ∙ ap (λ (p : Procedure). p.slots) (sym there.3) in
      omega (arith, few, is)
  | inr past ↦ let none : slots_in (slice_get procedures number) ≡ 0 = ap slots_in past.1 in omega (arith, none)
]

module _ (code : CodeParts) (input : List NamedArray) (s : Shape) (keeper : ℕ) (image : Image) (o : Opens code input s keeper image) where
  -- the root's frame is shorter than any pool
  slots_few : slots_of code code.root ≤ 25
  slots_few = few_slots code.procedures code.root o.code_is.slots_most

  fits : frame_size code code.root ≤ s.room
  fits = omega (arith, slots_few, s.within.room_least)

  -- a word of the keeper's pool
  pool_word : (k : ℕ) → k < s.room → read s image.words (BlockWord (pool_at s keeper + k)) ≡ get_or (root_frame code input) k 0
  pool_word k h =
      let at : ℕ = pool_at s keeper in
      let in_pool : IsInPool s (at + k) = record { place = keeper; is_place = o.below; begun = omega arith; ended = omega (arith, h) } in
      let index : at + k - at ≡ k = omega arith in
      o.image_is.opened (BlockWord (at + k)) in_pool
      ∙ cond-true (leb at (at + k)) (get_or (root_frame code input) (at + k - at) 0) 0 (le-leb at (at + k) (omega arith))
      ∙ ap (λ n. get_or (root_frame code input) n 0) index

  -- a slot of the root's frame
  slot_word : (slot : ℕ) → slot < slots_of code code.root
      → read s image.words (BlockWord (pool_at s keeper + slot_at slot)) ≡ get_or (map (λ number. region_word (whole_array input number)) code.arrays) slot 0
  slot_word slot h =
      let size : ℕ = frame_size code code.root in
      let front : List ℕ = link_word (root_link size) ∷ finish_word Ended ∷ entry_of code code.root ∷ 0 ∷ 0 ∷ 0 ∷ [] in
      let regions : List ℕ = map (λ number. region_word (whole_array input number)) code.arrays in
      let index : 6 + slot - 6 ≡ slot = omega arith in
      pool_word (6 + slot) (omega (arith, h, slots_few, s.within.room_least))
      ∙ get_or-append_right front regions 6 (6 + slot) 0 refl (omega arith) ∙ ap (λ n. get_or regions n 0) index

  -- the words of its own
  own_is : (word : FrameWord) → own_at s image.words (slots_of code code.root) (pool_at s keeper) word ≡ root_own code input word
  own_is (Slot slot) =
      let slots : ℕ = slots_of code code.root in
      let regions : List ℕ = map (λ number. region_word (whole_array input number)) code.arrays in
      let long : length regions ≡ length code.arrays = length-map code.arrays (λ number. region_word (whole_array input number)) in
      let word : ℕ = read s image.words (BlockWord (pool_at s keeper + slot_at slot)) in
      elim (cases_lt slot slots) [
        | inl h ↦ cond-true (ltb slot slots) word 0 (lt-ltb slot slots h) ∙ slot_word slot h
        | inr h ↦
            cond-false (ltb slot slots) word 0 (le-ltb slot slots h)
            ∙ sym (get_or_past regions slot 0 (omega (arith, h, long, o.code_is.root_slots)))
      ]
  own_is Value = pool_word 4 (omega (arith, s.within.room_least))

  strand : strand_at s image.words (slots_of code code.root) (pool_at s keeper) ≡ root_strand code input
  strand =
      let header = pool_word 2 (omega (arith, s.within.room_least)) in
      λ i. Strand (record { own = λ word. own_is word i; point = at_capsule (header i) })

  -- a slot that has a region
  region : (slot : ℕ) → slot < length code.arrays
      → region_of (read s image.words (BlockWord (pool_at s keeper + slot_at slot))) ≡ Some (whole_array input (get_or code.arrays slot 0))
  region slot h =
      let number : ℕ = get_or code.arrays slot 0 in
      let whole : Region = whole_array input number in
      let within = whole_within input number in
      let most : 4194304 < 2 ^ 32 = lit< tt in
      let short : IsRegion whole
      = (omega (arith, within, most, o.input_is.values_bound), (omega (arith, within, most, o.input_is.values_bound), tt)) in
      ap region_of (slot_word slot (omega (arith, h, o.code_is.root_slots))
      ∙ get_or-map (λ n. region_word (whole_array input n)) code.arrays slot 0 0 h)
      ∙ unpack-pack region_word IsRegion region_of regions_exact whole short

  link : link_of (read s image.words (BlockWord (pool_at s keeper))) ≡ Some (root_link (frame_size code code.root))
  link =
      let most : 31 < 2 ^ 28 = lit< tt in
      let first : pool_at s keeper ≡ pool_at s keeper + 0 = omega arith in
      ap (λ n. link_of (read s image.words (BlockWord n))) first ∙ ap link_of (pool_word 0 (omega (arith, s.within.room_least)))
      ∙ unpack-pack link_word IsLink link_of links_exact (root_link (frame_size code code.root))
      ((lit< tt, (lit< tt, tt)), omega (arith, slots_few, most))

  outcome : finish_of (read s image.words (BlockWord (pool_at s keeper + 1))) ≡ Some Ended
  outcome =
      ap finish_of (pool_word 1 (omega (arith, s.within.room_least))) ∙ unpack-pack finish_word IsFinish finish_of finishes_exact Ended tt

  counter : read s image.words (RoomCounter keeper) ≡ pool_at s keeper + frame_size code code.root
  counter =
      o.image_is.opened (RoomCounter keeper) o.below
      ∙ cond-true (eqb keeper keeper) (pool_at s keeper + frame_size code code.root) (pool_at s keeper) (eq-eqb keeper keeper refl)

  pub begins : BeginsWithRoot code input s keeper image.words
  begins = record {
    fits = fits;
    room = counter;
    link = link;
    outcome = outcome;
    regions = region;
    strand = strand;
    arrays = λ index h. o.image_is.opened (ArrayWord index) h;
  }
