-- Each address below the count is that of one cell, which is found from it.
use Rattle.std.proofs.Common.{◌≡◌, ℕ, zero, suc, inl, inr, ◌+◌, ◌-◌, ◌*◌, ◌/◌, ◌%◌, ◌<◌, ◌≤◌, true, false, cond, eqb, ltb, refl, sym, ap, ◌∙◌, arith}
use Rattle.std.proofs.Math.Nat.{mul-le-mul_right}
use Rattle.std.proofs.lemmas.Nat.{div-mul-add, mod-mul-add, div-add-mod', mod_below, div_below}
use Rattle.std.proofs.lemmas.Bool.{cases_eq, cases_lt, ne_eqb, lt-ltb, le-ltb}
use Rattle.ppm_cells.specs.declared.shape.Shape.{Shape}
use Rattle.ppm_cells.specs.declared.cell.Cell.{Cell}
use Rattle.ppm_cells.specs.declared.cell.Cell.TheVariants.{FinishWord, CarryWord, DeadWord, RestartWord, MessageWord, HolderWord}
use Rattle.ppm_cells.specs.declared.cell.Cell.TheVariants.{Top, RoomCounter, EntryWord, BlockWord, ArrayWord}
use Rattle.ppm_cells.specs.Cells.{place_size, place_at, arrays_at, word_count, address, IsCell, AddressesDiffer, AddressesAreCells}

-- the cell of a place with this offset from its first word
in_place : Shape → (place offset at : ℕ) → Cell
in_place s place offset at =
    cond (eqb offset 0) (RestartWord place)
    (cond (eqb offset 1) (MessageWord place)
    (cond (eqb offset 2) (HolderWord place)
    (cond (eqb offset 3) (Top place)
    (cond (eqb offset 4) (RoomCounter place)
    (cond (ltb offset (5 + s.slots)) (EntryWord place (offset - 5)) (BlockWord at))))))

-- the cell at an address after the dead words, so far from the first place
behind : Shape → (far at : ℕ) → Cell
behind s far at =
    cond (ltb far (s.processors * place_size s)) (in_place s (far / place_size s) (far % place_size s) at)
    (ArrayWord (far - s.processors * place_size s))

-- the cell at an address
cell_at : Shape → ℕ → Cell
cell_at s at =
    cond (eqb at 0) FinishWord
    (cond (ltb at (1 + s.processors)) (CarryWord (at - 1))
    (cond (ltb at (1 + 2 * s.processors)) (DeadWord (at - (1 + s.processors)))
    (behind s (at - (1 + 2 * s.processors)) at)))

-- an offset past the five words of a place
past_five : (s : Shape) (place offset at : ℕ) → 5 ≤ offset
    → in_place s place offset at ≡ cond (ltb offset (5 + s.slots)) (EntryWord place (offset - 5)) (BlockWord at)
unfolding in_place
past_five s place offset at h =
    let a : eqb offset 0 ≡ false = ne_eqb offset 0 (λ e. omega (arith, e)) in
    let b : eqb offset 1 ≡ false = ne_eqb offset 1 (λ e. omega (arith, e)) in
    let c : eqb offset 2 ≡ false = ne_eqb offset 2 (λ e. omega (arith, e)) in
    let d : eqb offset 3 ≡ false = ne_eqb offset 3 (λ e. omega (arith, e)) in
    let e : eqb offset 4 ≡ false = ne_eqb offset 4 (λ e. omega (arith, e)) in
    rw (a, b, c, d, e) refl

module _ (s : Shape) where
  -- a place ends before the next one, and the last one before the arrays
  pub place_end : (place : ℕ) → place < s.processors → place * place_size s + place_size s ≤ s.processors * place_size s
  place_end place h = let m : suc place * place_size s ≤ s.processors * place_size s = mul-le-mul_right (place_size s) (omega arith) in omega (arith, m)

  -- all places together have no more words than 64 places with the most slots, and all their pools
  places_low : s.processors * place_size s ≤ 71303488
  places_low =
      let slots : s.processors * (5 + s.slots) ≤ 64 * (5 + s.slots) = mul-le-mul_right (5 + s.slots) s.within.processors_most in
      omega (arith, slots, s.within.slots_most, s.within.pools_most)

  -- the words of all places in front of one are few
  pub place_low : (place : ℕ) → place ≤ s.processors → place * place_size s ≤ 71303488
  place_low place h =
      let m : place * place_size s ≤ s.processors * place_size s = mul-le-mul_right (place_size s) h in
      omega (arith, m, places_low)

  -- no shape has more words than that
  pub few_words : word_count s ≤ 75497921
  few_words = omega (arith, places_low, s.within.processors_most, s.within.arrays_most)

  -- past the finish, carry and dead words
  far_on : (far : ℕ) → cell_at s (1 + 2 * s.processors + far) ≡ behind s far (1 + 2 * s.processors + far)
  unfolding cell_at
  far_on far =
      let at : ℕ = 1 + 2 * s.processors + far in
      let a : eqb at 0 ≡ false = ne_eqb at 0 (λ e. omega (arith, e)) in
      let b : ltb at (1 + s.processors) ≡ false = le-ltb at (1 + s.processors) (omega arith) in
      let c : ltb at (1 + 2 * s.processors) ≡ false = le-ltb at (1 + 2 * s.processors) (omega arith) in
      let d : at - (1 + 2 * s.processors) ≡ far = omega arith in
      rw (a, b, c, d) refl

  -- at an offset in a place
  at_offset : (place offset at : ℕ) → place < s.processors → offset < place_size s → place_at s place + offset ≡ at
      → cell_at s at ≡ in_place s place offset at
  unfolding behind
  at_offset place offset at h k is =
      let far : ℕ = place * place_size s + offset in
      let where_ : 1 + 2 * s.processors + far ≡ at = omega (arith, is) in
      let e = place_end place h in
      let a : ltb far (s.processors * place_size s) ≡ true = lt-ltb far (s.processors * place_size s) (omega (arith, e)) in
      let q : far / place_size s ≡ place = div-mul-add place (place_size s) offset k in
      let r : far % place_size s ≡ offset = mod-mul-add place (place_size s) offset k in
      ap (cell_at s) (sym where_) ∙ far_on far ∙ (rw (a, q, r, where_) refl)

  -- a cell is found at its address
  cell_at-address : (c : Cell) → IsCell s c → cell_at s (address s c) ≡ c
  unfolding cell_at behind in_place
  cell_at-address FinishWord h = refl
  cell_at-address (CarryWord processor) h =
      let a : eqb (1 + processor) 0 ≡ false = ne_eqb (1 + processor) 0 (λ e. omega (arith, e)) in
      let b : ltb (1 + processor) (1 + s.processors) ≡ true = lt-ltb (1 + processor) (1 + s.processors) (omega (arith, h)) in
      let c : (1 + processor) - 1 ≡ processor = omega arith in
      rw (a, b, c) refl
  cell_at-address (DeadWord processor) h =
      let at : ℕ = 1 + s.processors + processor in
      let a : eqb at 0 ≡ false = ne_eqb at 0 (λ e. omega (arith, e)) in
      let b : ltb at (1 + s.processors) ≡ false = le-ltb at (1 + s.processors) (omega arith) in
      let c : ltb at (1 + 2 * s.processors) ≡ true = lt-ltb at (1 + 2 * s.processors) (omega (arith, h)) in
      let d : at - (1 + s.processors) ≡ processor = omega arith in
      rw (a, b, c, d) refl
  cell_at-address (RestartWord place) h = at_offset place 0 (place_at s place) h (omega arith) (omega arith)
  cell_at-address (MessageWord place) h = at_offset place 1 (place_at s place + 1) h (omega arith) refl
  cell_at-address (HolderWord place) h = at_offset place 2 (place_at s place + 2) h (omega arith) refl
  cell_at-address (Top place) h = at_offset place 3 (place_at s place + 3) h (omega arith) refl
  cell_at-address (RoomCounter place) h = at_offset place 4 (place_at s place + 4) h (omega arith) refl
  cell_at-address (EntryWord place slot) h =
      let at : ℕ = place_at s place + 5 + slot in
      let below : ltb (5 + slot) (5 + s.slots) ≡ true = lt-ltb (5 + slot) (5 + s.slots) (omega (arith, h.1)) in
      let is : (5 + slot) - 5 ≡ slot = omega arith in
      at_offset place (5 + slot) at h.0 (omega (arith, h.1)) (omega arith) ∙ past_five s place (5 + slot) at (omega arith) ∙ (rw (below, is) refl)
  cell_at-address (BlockWord at) h =
      let offset : ℕ = at - place_at s h.place in
      let e : place_at s h.place + offset ≡ at = omega (arith, h.begun) in
      let past : ltb offset (5 + s.slots) ≡ false = le-ltb offset (5 + s.slots) (omega (arith, h.begun)) in
      at_offset h.place offset at h.is_place (omega (arith, h.begun, h.ended)) e
      ∙ past_five s h.place offset at (omega (arith, h.begun)) ∙ (rw past refl)
  cell_at-address (ArrayWord index) h =
      let far : ℕ = s.processors * place_size s + index in
      let e : 1 + 2 * s.processors + far ≡ arrays_at s + index = omega arith in
      let a : ltb far (s.processors * place_size s) ≡ false = le-ltb far (s.processors * place_size s) (omega arith) in
      let b : far - s.processors * place_size s ≡ index = omega arith in
      ap (cell_at s) (sym e) ∙ far_on far ∙ (rw (a, b) refl)

  pub differ : AddressesDiffer s
  differ c d p q e = sym (cell_at-address c p) ∙ ap (cell_at s) e ∙ cell_at-address d q

  -- each address of a place is that of a cell
  of_place : (place offset at : ℕ) → place < s.processors → offset < place_size s → place_at s place + offset ≡ at
      → (c : Cell) × IsCell s c × (address s c ≡ at)
  of_place place offset at h k is =
      elim (cases_lt offset 5) [
        | inl low ↦ first offset refl low
        | inr high ↦ elim (cases_lt offset (5 + s.slots)) [
          | inl slot ↦ (EntryWord place (offset - 5), (h, omega (arith, high, slot)), omega (arith, high, is))
          | inr pool ↦ (BlockWord at, record { place = place; is_place = h; begun = omega (arith, is, pool); ended = omega (arith, is, k) }, refl)
        ]
      ]
    where
      first : (o : ℕ) → o ≡ offset → o < 5 → (c : Cell) × IsCell s c × (address s c ≡ at)
      first zero e l = (RestartWord place, h, omega (arith, is, e))
      first (suc zero) e l = (MessageWord place, h, omega (arith, is, e))
      first (suc (suc zero)) e l = (HolderWord place, h, omega (arith, is, e))
      first (suc (suc (suc zero))) e l = (Top place, h, omega (arith, is, e))
      first (suc (suc (suc (suc zero)))) e l = (RoomCounter place, h, omega (arith, is, e))
      first (suc (suc (suc (suc (suc n))))) e l = absurd (omega (arith, l))

  -- after the dead words it lies in a place or in the arrays
  of_rest : (far at : ℕ) → 1 + 2 * s.processors + far ≡ at → at < word_count s → (c : Cell) × IsCell s c × (address s c ≡ at)
  of_rest far at is h =
      let size : ℕ = place_size s in
      let whole = div-add-mod' far size in
      elim (cases_lt far (s.processors * size)) [
        | inl before ↦
            of_place (far / size) (far % size) at (div_below far size s.processors (omega arith) before) (mod_below far size (omega arith))
            (omega (arith, whole, is))
        | inr behind_ ↦ (ArrayWord (far - s.processors * size), omega (arith, behind_, is, h), omega (arith, behind_, is))
      ]

  pub all : AddressesAreCells s
  all at h = elim (cases_eq at 0) [
    | inl e ↦ (FinishWord, tt, sym e)
    | inr some ↦ elim (cases_lt at (1 + s.processors)) [
      | inl carry ↦ (CarryWord (at - 1), omega (arith, carry, some), omega (arith, some))
      | inr past ↦ elim (cases_lt at (1 + 2 * s.processors)) [
        | inl dead ↦ (DeadWord (at - (1 + s.processors)), omega (arith, dead, past), omega (arith, past))
        | inr place ↦ of_rest (at - (1 + 2 * s.processors)) at (omega (arith, place)) h
      ]
    ]
  ]
