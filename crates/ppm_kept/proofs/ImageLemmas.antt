-- Images open runs: the words of an image, by cells.
use Rattle.std.proofs.Common.{◌≡◌, ◌≢◌, ◌≤◌, ◌<◌, ◌⊎◌, ℕ, ◌+◌, ◌-◌, ◌*◌, ◌==◌, Bool, true, List, Some, inl, inr, refl, sym, ap, ap₂, ◌∙◌, subst, arith}
use Rattle.std.specs.Prelude.{nat_le}
use Rattle.std.proofs.Math.Path.{fun_ext}
use Rattle.std.proofs.Math.Nat.{mul-le-mul_right}
use Rattle.std.proofs.lemmas.Bool.{cases_Bool, cases_eq, cases_lt, le-leb, lt-leb, lt-ltb, ne_eqb, eq-eqb}
use Rattle.std.proofs.lemmas.List.{length-map, get_or_past}
use Rattle.ppm_strands.specs.Run.{Counts, none}
use Rattle.ppm_strands.specs.Calm.{Calm}
use Rattle.ppm_strands.specs.Tree.{Tree, Strand}
use Rattle.ppm_words.specs.declared.named_array.NamedArray.{NamedArray}
use Rattle.ppm_cells.specs.Cells.{pool_at, place_size}
use Rattle.ppm_cells.specs.Finish.{finish_word, finish_of, IsFinish, IsOutcome}
use Rattle.ppm_cells.specs.Link.{link_of}
use Rattle.ppm_cells.specs.Memory.{read}
use Rattle.ppm_cells.specs.declared.cell.Cell.{Cell}
use Rattle.ppm_cells.specs.declared.cell.Cell.TheVariants.{FinishWord, RoomCounter, BlockWord}
use Rattle.ppm_cells.specs.declared.finish.Finish.{Finish}
use Rattle.ppm_cells.specs.declared.finish.Finish.TheVariants.{Unset, Ended}
use Rattle.ppm_cells.specs.declared.shape.Shape.{Shape}
use Rattle.ppm_cells.proofs.ExactLemmas.{pack-unpack}
use Rattle.ppm_cells.proofs.FinishLemmas.{finishes_exact}
use Rattle.ppm_strands.specs.Strand.{Frame}
use Rattle.ppm_code.specs.Sizes.{frame_size, slots_of, slot_at, value_at, slots_at}
use Rattle.ppm_code.specs.Strands.{Point, Result, entry_of, at_capsule}
use Rattle.ppm_code.specs.declared.code.CodeParts.{CodeParts}
use Rattle.ppm_code.specs.declared.location.FrameWord.{FrameWord}
use Rattle.ppm_code.specs.declared.location.FrameWord.TheVariants.{Slot, Value}
use Rattle.ppm_code.proofs.CodeLemmas.{procedure_is, entry_is}
use Rattle.ppm_layout.specs.Correct.{Opens, BeginsWithRoot}
use Rattle.ppm_cells.specs.Region.{region_word}
use Rattle.ppm_layout.specs.Opening.{whole_array, root_frame, first_room, first_block}
use Rattle.ppm_layout.specs.Root as layout
use Rattle.ppm_layout.specs.Root.{strand_at, root_strand}
use Rattle.ppm_layout.specs.declared.images.Image.{Image}
use Rattle.ppm_layout.proofs.RootLemmas.{begins}
use Rattle.ppm_layout.proofs.ValueLemmas.{stands_for}
use Rattle.ppm_frames.specs.Views.{is_cell, view}
use Rattle.ppm_frames.specs.Seen.{own_at, arrays_at}
use Rattle.ppm_frames.specs.Skeletons.{Begins, InPlace, Leaf, tree_of}
use Rattle.ppm_frames.specs.Good.{link_or}
use Rattle.ppm_frames.proofs.SeenLemmas.{if_true, if_false, choice}
use Rattle.ppm_frames.proofs.ViewLemmas.{view_is, view_not, is_one}
use Rattle.ppm_kept.specs.Running.{strands}
use Rattle.ppm_kept.specs.Kept.{Setting, start, end_of, NoOutcome}
use Rattle.ppm_kept.specs.Openings.{Opening, ImagesOpen}
use Rattle.ppm_kept.proofs.OwnerLemmas.{owned}
use Rattle.ppm_kept.proofs.TurnLemmas.{pool_cell}

module _ (code : CodeParts) (input : List NamedArray) (s : Shape) (keeper : ℕ) (image : Image) (o : Opens code input s keeper image) (asked : Counts → Bool) (so : asked none ≡ true) where
  abbrev i : Setting
  i = record { shape = s; code = code; counted = asked }

  abbrev m : Cell → ℕ
  m = view s image.words

  abbrev f : ℕ
  f = pool_at s keeper

  abbrev n : ℕ
  n = slots_of code code.root

  root : BeginsWithRoot code input s keeper image.words
  root = begins code input s keeper image o

  pool : (q x : ℕ) → q < s.processors → pool_at s q ≤ x → x < pool_at s q + s.room → is_cell s (BlockWord x) ≡ true
  pool q x there low high = let own = owned i q x low high in
      pool_cell i x (subst (λ (z : ℕ). z < s.processors) (sym own) there) (subst (λ (z : ℕ). start i z ≤ x) (sym own) low) (subst (λ (z : ℕ). x < end_of i z) (sym own) high)

  -- a word of the root's frame
  word : (j : ℕ) → j < 6 + n → m (BlockWord (f + j)) ≡ read s image.words (BlockWord (f + j))
  word j lt = view_is s image.words (BlockWord (f + j)) (pool keeper (f + j) o.below (omega arith) (let fit = root.fits in omega (arith, fit, lt)))

  word_at : (x j : ℕ) → x ≡ f + j → j < 6 + n → m (BlockWord x) ≡ read s image.words (BlockWord x)
  word_at x j e lt = subst (λ (z : ℕ). m (BlockWord z) ≡ read s image.words (BlockWord z)) (sym e) (word j lt)

  number : Tree (Frame FrameWord Point) Result → ℕ
  number (Strand g) = g.point.capsule
  number _ = 0

  entry_word : read s image.words (BlockWord (f + 2)) ≡ entry_of code code.root
  unfolding number
  entry_word = ap number root.strand

  entry_slots : slots_at code (entry_of code code.root) ≡ n
  entry_slots = ap (slots_of code) (procedure_is code code.root (entry_of code code.root) (entry_is code o.code_is code.root o.code_is.root))

  shown : tree_of m (Leaf (InPlace keeper) (Begins 0) f n) ≡ strand_at s image.words n f
  shown = ap₂ (λ (own : FrameWord → ℕ) (k : ℕ). Strand (record { own = own; point = at_capsule k })) (fun_ext by) (word 2 (omega arith))
    where
      by : (w : FrameWord) → own_at m f n w ≡ layout.own_at s image.words n f w
      by (Slot j) = choice j n _ _ (λ lt. word (slot_at j) (omega (arith, lt)))
      by Value = word value_at (omega arith)

  counter : (q : ℕ) → q < s.processors → m (RoomCounter q) ≡ first_room s keeper (6 + n) q
  counter q there = view_is s image.words (RoomCounter q) (lt-ltb q s.processors there) ∙ o.image_is.opened (RoomCounter q) there

  counter_keeper : m (RoomCounter keeper) ≡ f + (6 + n)
  counter_keeper = counter keeper o.below ∙ if_true (keeper == keeper) _ _ (eq-eqb keeper keeper refl)

  counter_other : (q : ℕ) → q ≢ keeper → m (RoomCounter q) ≡ pool_at s q
  counter_other q ne = elim (cases_Bool (is_cell s (RoomCounter q))) [
    | inl e ↦ counter q (is_one s (RoomCounter q) e) ∙ if_false (q == keeper) _ _ (ne_eqb q keeper ne)
    | inr e ↦ view_not s image.words (RoomCounter q) e
  ]

  rooms : (q : ℕ) → (start i q ≤ m (RoomCounter q)) × (m (RoomCounter q) ≤ end_of i q)
  rooms q = elim (cases_eq q keeper) [
    | inl e ↦ subst (λ (z : ℕ). (start i z ≤ m (RoomCounter z)) × (m (RoomCounter z) ≤ end_of i z)) (sym e)
        (let c = counter_keeper in omega (arith, c), let c = counter_keeper in let fit = root.fits in omega (arith, c, fit))
    | inr ne ↦ (let c = counter_other q ne in omega (arith, c), let c = counter_other q ne in omega (arith, c))
  ]

  small : (q : ℕ) → m (RoomCounter q) ≤ start i q + frame_size code code.root
  small q = elim (cases_eq q keeper) [
    | inl e ↦ subst (λ (z : ℕ). m (RoomCounter z) ≤ start i z + frame_size code code.root) (sym e) (let c = counter_keeper in omega (arith, c))
    | inr ne ↦ let c = counter_other q ne in omega (arith, c)
  ]

  -- after the root's frame all is 0
  past : (x : ℕ) → f + (6 + n) ≤ x ⊎ (x < f) → first_block s keeper (root_frame code input) x ≡ 0
  past x (inl le) = if_true (nat_le f x) _ _ (le-leb f x (omega (arith, le))) ∙ get_or_past (root_frame code input) (x - f) 0 (
      let slots = o.code_is.root_slots in let len = length-map code.arrays (λ (number : ℕ). region_word (whole_array input number)) in omega (arith, le, slots, len))
  past x (inr lt) = if_false (nat_le f x) _ _ (lt-leb f x lt)

  size : ℕ
  size = place_size s

  side : (q x : ℕ) → m (RoomCounter q) ≤ x → x < end_of i q → f + (6 + n) ≤ x ⊎ (x < f)
  side q x low high = elim (cases_eq q keeper) [
    | inl e ↦ inl (let a = subst (λ (z : ℕ). m (RoomCounter z) ≤ x) e low in let c = counter_keeper in omega (arith, a, c))
    | inr ne ↦ let c = counter_other q ne in elim (cases_lt q keeper) [
      | inl lt ↦ let z : (q + 1) * place_size s ≤ keeper * place_size s = mul-le-mul_right (place_size s) (omega (arith, lt)) in
          let d : (q + 1) * place_size s ≡ q * place_size s + place_size s = mul-succ' q (place_size s) in inr (omega (arith, high, z, d))
      | inr le ↦ let z : (keeper + 1) * place_size s ≤ q * place_size s = mul-le-mul_right (place_size s) (omega (arith, le, ne)) in
          let d : (keeper + 1) * place_size s ≡ keeper * place_size s + place_size s = mul-succ' keeper (place_size s) in
          let fit = root.fits in inl (omega (arith, low, c, z, d, fit))
    ]
  ]
    where
      mul-succ' : (a b : ℕ) → (a + 1) * b ≡ a * b + b
      mul-succ' a b = omega arith

  block : (x : ℕ) → f + (6 + n) ≤ x ⊎ (x < f) → m (BlockWord x) ≡ 0
  block x far = elim (cases_Bool (is_cell s (BlockWord x))) [
    | inl e ↦ view_is s image.words (BlockWord x) e ∙ o.image_is.opened (BlockWord x) (is_one s (BlockWord x) e) ∙ past x far
    | inr e ↦ view_not s image.words (BlockWord x) e
  ]

  no_finish : NoOutcome (m FinishWord)
  no_finish v e out =
      let unset : finish_of (m FinishWord) ≡ Some Unset = ap finish_of (view_is s image.words FinishWord refl) ∙ (stands_for code input s keeper image o).finish in
      subst IsOutcome {x = v} {y = Unset} (one v (sym e ∙ unset)) out
    where
      one : (v : Finish) → Some v ≡ Some Unset → v ≡ Unset
      one v e = cc

  pub opens : Calm (strands s code) (root_strand code input) (arrays_at m) → Opening i m keeper f n × (tree_of m (Leaf (InPlace keeper) (Begins 0) f n) ≡ root_strand code input)
  opens calm =
      let is = shown ∙ root.strand in (
        record {
          there = o.below;
          uncounted = so;
          link = ap link_or (ap link_of (word_at f 0 (omega arith) (omega arith)) ∙ root.link);
          entry = ap (slots_at code) (word 2 (omega arith) ∙ entry_word) ∙ entry_slots;
          outcome = word 1 (omega arith) ∙ sym (pack-unpack finish_word IsFinish finish_of finishes_exact (read s image.words (BlockWord (f + 1))) Ended root.outcome);
          first = omega arith;
          within = let fit = root.fits in omega (arith, fit);
          room = counter_keeper;
          finish = no_finish;
          rooms = rooms;
          small = small;
          blank = λ q o lt. block (m (RoomCounter q) + o) (side q (m (RoomCounter q) + o) (omega arith) lt);
          calm = subst (λ (t : Tree (Frame FrameWord Point) Result). Calm (strands s code) t (arrays_at m)) (sym is) calm;
        },
        is,
      )

pub images_open : ImagesOpen
images_open code input s keeper image o calm =
    (λ asked so. (opens code input s keeper image o asked so calm).0, (opens code input s keeper image o (λ k. true) refl calm).1)
