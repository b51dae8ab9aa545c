-- The words in the order of their addresses are those of the cells.
use Rattle.std.proofs.Common.{◌≡◌, ℕ, zero, suc, inl, inr, ◌+◌, ◌-◌, ◌*◌, ◌<◌, ◌≤◌, List, ◌++◌, length, get_or, replicate, refl, sym, ap, ◌∙◌, arith}
use Rattle.std.proofs.Math.Nat.{mul-le-mul_right}
use Rattle.std.proofs.lemmas.Bool.{cases_lt}
use Rattle.std.proofs.lemmas.List.{get_or_append_left, get_or-append_right, get_or-append-add, get_or-replicate, length-append, length-replicate}
use Rattle.std.proofs.lemmas.List.FromFn.{length-range_with_len, get_or-range_with_len, length-map-range_with_len, get_or-map-range_with_len}
use Rattle.ppm_cells.specs.declared.shape.Shape.{Shape}
use Rattle.ppm_cells.specs.declared.cell.Cell.{Cell}
use Rattle.ppm_cells.specs.declared.cell.Cell.TheVariants.{FinishWord, CarryWord, DeadWord, RestartWord, MessageWord, HolderWord}
use Rattle.ppm_cells.specs.declared.cell.Cell.TheVariants.{Top, RoomCounter, EntryWord, BlockWord, ArrayWord}
use Rattle.ppm_cells.specs.Cells.{place_size, place_at, pool_at, arrays_at, word_count, address, IsCell}
use Rattle.ppm_cells.specs.Entry.{entry_word}
use Rattle.ppm_layout.specs.Opening.{first_entry, first_block, opening_with}
use Rattle.ppm_layout.specs.Sequence.{carries, processor_words, entry_words, place_head, block_words, place_words, places, all_words}

-- the words in front of the places
length_processors : (processors : ℕ) → length (processor_words processors) ≡ 1 + 2 * processors
length_processors processors =
    let both = length-append (carries processors) (replicate processors 0) in
    let left = length-range_with_len 0 processors in
    let right = length-replicate {A = ℕ} processors 0 in
    omega (arith, both, left, right)

carry_read : (processors processor : ℕ) → processor < processors → get_or (processor_words processors) (1 + processor) 0 ≡ processor
carry_read processors processor h =
    let at : 1 + processor ≡ suc processor = omega arith in
    let long = length-range_with_len 0 processors in
    let is : 0 + processor ≡ processor = omega arith in
    ap (λ k. get_or (processor_words processors) k 0) at
    ∙ get_or_append_left (carries processors) (replicate processors 0) 0 processor (omega (arith, h, long))
    ∙ get_or-range_with_len 0 processors processor 0 h ∙ is

dead_read : (processors processor : ℕ) → processor < processors → get_or (processor_words processors) (1 + processors + processor) 0 ≡ 0
dead_read processors processor h =
    let at : 1 + processors + processor ≡ suc (processors + processor) = omega arith in
    let index : processors + processor - processors ≡ processor = omega arith in
    ap (λ k. get_or (processor_words processors) k 0) at
    ∙ get_or-append_right (carries processors) (replicate processors 0) processors (processors + processor) 0
    (length-range_with_len 0 processors) (omega arith)
    ∙ ap (λ k. get_or (replicate processors 0) k 0) index ∙ get_or-replicate processors processor 0 0 h

module _ (s : Shape) (keeper size : ℕ) (frame : List ℕ) where
  -- the words of one place, and of so many
  length_place : (place : ℕ) → length (place_words s keeper size frame place) ≡ place_size s
  length_place place =
      let head = place_head s keeper size place in
      let pool = block_words s keeper frame (pool_at s place) s.room in
      let all = length-append (head ++ entry_words s.slots) pool in
      let front = length-append head (entry_words s.slots) in
      let entries = length-map-range_with_len (λ slot. entry_word (first_entry slot)) 0 s.slots in
      let blocks = length-map-range_with_len (first_block s keeper frame) (pool_at s place) s.room in
      omega (arith, all, front, entries, blocks)

  length_places : (count : ℕ) → length (places s keeper size frame count) ≡ count * place_size s
  length_places zero = omega arith
  length_places (suc count) =
      let both = length-append (places s keeper size frame count) (place_words s keeper size frame count) in
      omega (arith, both, length_place count, length_places count)

  -- a place among the first so many
  in_places : (count place offset : ℕ) → place < count → offset < place_size s
      → get_or (places s keeper size frame count) (place * place_size s + offset) 0 ≡ get_or (place_words s keeper size frame place) offset 0
  in_places zero place offset h k = absurd (omega (arith, h))
  in_places (suc count) place offset h k =
      let front = places s keeper size frame count in
      let last = place_words s keeper size frame count in
      let long = length_places count in
      elim (cases_lt place count) [
        | inl before ↦
            let end : suc place * place_size s ≤ count * place_size s = mul-le-mul_right (place_size s) (omega (arith, before)) in
            get_or_append_left front last 0 (place * place_size s + offset) (omega (arith, end, k, long)) ∙ in_places count place offset before k
        | inr not_before ↦
            let is : place ≡ count = omega (arith, h, not_before) in
            let at : place * place_size s + offset ≡ length front + offset
            = ap (λ n. n * place_size s + offset) is ∙ ap (λ n. n + offset) (sym long) in
            ap (λ n. get_or (front ++ last) n 0) at ∙ get_or-append-add front last offset 0
            ∙ ap (λ n. get_or (place_words s keeper size frame n) offset 0) (sym is)
      ]

  -- the entries and the pool of a place
  entry_read : (place slot : ℕ) → slot < s.slots → get_or (place_words s keeper size frame place) (5 + slot) 0 ≡ entry_word (first_entry slot)
  entry_read place slot h =
      let head = place_head s keeper size place in
      let pool = block_words s keeper frame (pool_at s place) s.room in
      let front = length-append head (entry_words s.slots) in
      let entries = length-map-range_with_len (λ n. entry_word (first_entry n)) 0 s.slots in
      let index : 5 + slot - 5 ≡ slot = omega arith in
      get_or_append_left (head ++ entry_words s.slots) pool 0 (5 + slot) (omega (arith, front, entries, h))
      ∙ get_or-append_right head (entry_words s.slots) 5 (5 + slot) 0 refl (omega arith)
      ∙ ap (λ n. get_or (entry_words s.slots) n 0) index
      ∙ get_or-map-range_with_len (λ n. entry_word (first_entry n)) 0 s.slots slot slot 0 h (omega arith)

  block_read : (place far : ℕ) → far < s.room
      → get_or (place_words s keeper size frame place) (5 + s.slots + far) 0 ≡ first_block s keeper frame (pool_at s place + far)
  block_read place far h =
      let head = place_head s keeper size place in
      let pool = block_words s keeper frame (pool_at s place) s.room in
      let front = length-append head (entry_words s.slots) in
      let entries = length-map-range_with_len (λ n. entry_word (first_entry n)) 0 s.slots in
      let index : 5 + s.slots + far - (5 + s.slots) ≡ far = omega arith in
      get_or-append_right (head ++ entry_words s.slots) pool (5 + s.slots) (5 + s.slots + far) 0 (omega (arith, front, entries)) (omega arith)
      ∙ ap (λ n. get_or pool n 0) index
      ∙ get_or-map-range_with_len (first_block s keeper frame) (pool_at s place) s.room far (pool_at s place + far) 0 h refl

  module _ (arrays : List ℕ) where
    -- in front of the places
    in_front : (at : ℕ) → at < 1 + 2 * s.processors
        → get_or (all_words s keeper size frame arrays) at 0 ≡ get_or (processor_words s.processors) at 0
    in_front at h =
        let front = processor_words s.processors in
        let middle = places s keeper size frame s.processors in
        let long = length_processors s.processors in
        let both = length-append front middle in
        get_or_append_left (front ++ middle) arrays 0 at (omega (arith, h, both, long)) ∙ get_or_append_left front middle 0 at (omega (arith, h, long))

    -- in a place
    in_place : (place offset at : ℕ) → place < s.processors → offset < place_size s → place_at s place + offset ≡ at
        → get_or (all_words s keeper size frame arrays) at 0 ≡ get_or (place_words s keeper size frame place) offset 0
    in_place place offset at h k is =
        let front = processor_words s.processors in
        let middle = places s keeper size frame s.processors in
        let long = length_processors s.processors in
        let count = length_places s.processors in
        let both = length-append front middle in
        let end : suc place * place_size s ≤ s.processors * place_size s = mul-le-mul_right (place_size s) (omega (arith, h)) in
        let index : at - (1 + 2 * s.processors) ≡ place * place_size s + offset = omega (arith, is) in
        get_or_append_left (front ++ middle) arrays 0 at (omega (arith, is, end, k, both, long, count))
        ∙ get_or-append_right front middle (1 + 2 * s.processors) at 0 long (omega (arith, is))
        ∙ ap (λ n. get_or middle n 0) index ∙ in_places s.processors place offset h k

    -- in the arrays
    in_arrays : (index : ℕ) → get_or (all_words s keeper size frame arrays) (arrays_at s + index) 0 ≡ get_or arrays index 0
    in_arrays index =
        let front = processor_words s.processors in
        let middle = places s keeper size frame s.processors in
        let both : length (front ++ middle) ≡ arrays_at s
        = let long = length_processors s.processors in
        let count = length_places s.processors in
        let joined = length-append front middle in
        omega (arith, long, count, joined) in
        let is : arrays_at s + index - arrays_at s ≡ index = omega arith in
        get_or-append_right (front ++ middle) arrays (arrays_at s) (arrays_at s + index) 0 both (omega arith) ∙ ap (λ n. get_or arrays n 0) is

    -- each cell
    pub read_all : (c : Cell) → IsCell s c → get_or (all_words s keeper size frame arrays) (address s c) 0 ≡ opening_with s keeper size frame arrays c
    read_all FinishWord h = in_front 0 (omega arith)
    read_all (CarryWord processor) h = in_front (1 + processor) (omega (arith, h)) ∙ carry_read s.processors processor h
    read_all (DeadWord processor) h = in_front (1 + s.processors + processor) (omega (arith, h)) ∙ dead_read s.processors processor h
    read_all (RestartWord place) h = in_place place 0 (place_at s place) h (omega arith) (omega arith)
    read_all (MessageWord place) h = in_place place 1 (place_at s place + 1) h (omega arith) refl
    read_all (HolderWord place) h = in_place place 2 (place_at s place + 2) h (omega arith) refl
    read_all (Top place) h = in_place place 3 (place_at s place + 3) h (omega arith) refl
    read_all (RoomCounter place) h = in_place place 4 (place_at s place + 4) h (omega arith) refl
    read_all (EntryWord place slot) h =
        in_place place (5 + slot) (place_at s place + 5 + slot) h.0 (omega (arith, h.1)) (omega arith) ∙ entry_read place slot h.1
    read_all (BlockWord at) h =
        let far : ℕ = at - pool_at s h.place in
        let is : pool_at s h.place + far ≡ at = omega (arith, h.begun) in
        in_place h.place (5 + s.slots + far) at h.is_place (omega (arith, h.begun, h.ended)) (omega (arith, h.begun))
        ∙ block_read h.place far (omega (arith, h.begun, h.ended)) ∙ ap (first_block s keeper frame) is
    read_all (ArrayWord index) h = in_arrays index

    -- and there are as many as the shape has
    pub length_all : length arrays ≡ s.arrays → length (all_words s keeper size frame arrays) ≡ word_count s
    length_all h =
        let front = processor_words s.processors in
        let middle = places s keeper size frame s.processors in
        let long = length_processors s.processors in
        let count = length_places s.processors in
        let joined = length-append front middle in
        let all = length-append (front ++ middle) arrays in
        omega (arith, long, count, joined, all, h)
