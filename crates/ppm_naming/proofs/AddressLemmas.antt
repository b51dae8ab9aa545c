-- The cell that is found at an address is there, and each cell is found at its own.
use Rattle.std.proofs.Common.{◌≡◌, ℕ, ◌+◌, ◌-◌, ◌*◌, ◌/◌, ◌%◌, ◌<◌, ◌≤◌, cond, eqb, ltb, false, refl, sym, arith}
use Rattle.std.proofs.lemmas.Nat.{div-add-mod', mod_below, div_below}
use Rattle.std.proofs.lemmas.Bool.{cond_both, eqb-true, eqb-false, ltb-true, ltb-false}
use Rattle.ppm_cells.specs.declared.shape.Shape.{Shape}
use Rattle.ppm_cells.specs.declared.cell.Cell.{Cell}
use Rattle.ppm_cells.specs.declared.cell.Cell.TheVariants.{EntryWord, BlockWord, ArrayWord}
use Rattle.ppm_cells.specs.Cells.{place_size, place_at, arrays_at, word_count, address, IsCell, CellsAreWithin, AddressesDiffer}
use Rattle.ppm_naming.specs.Addresses.{in_place, in_places, addressed}
use Rattle.ppm_naming.specs.Correct.{AddressesName}

-- an offset that is none of the first five
past_five : (n : ℕ) → eqb n 0 ≡ false → eqb n 1 ≡ false → eqb n 2 ≡ false → eqb n 3 ≡ false → eqb n 4 ≡ false → 5 ≤ n
past_five n a b c d e = omega (arith, eqb-false n 0 a, eqb-false n 1 b, eqb-false n 2 c, eqb-false n 3 d, eqb-false n 4 e)

module _ (s : Shape) where
  -- a cell of the shape, with this address
  abbrev IsAt : (at : ℕ) → Cell → Type 0
  IsAt at c = IsCell s c × (address s c ≡ at)

  -- what is found in a place
  placed : (place offset at : ℕ) → place < s.processors → offset < place_size s → place_at s place + offset ≡ at
      → IsAt at (in_place s place offset at)
  placed place offset at h k is =
      cond_both (eqb offset 0) _ _ (IsAt at) (λ e. let o = eqb-true offset 0 e in (h, omega (arith, is, o)))
      (λ a. cond_both (eqb offset 1) _ _ (IsAt at) (λ e. let o = eqb-true offset 1 e in (h, omega (arith, is, o)))
      (λ b. cond_both (eqb offset 2) _ _ (IsAt at) (λ e. let o = eqb-true offset 2 e in (h, omega (arith, is, o)))
      (λ c. cond_both (eqb offset 3) _ _ (IsAt at) (λ e. let o = eqb-true offset 3 e in (h, omega (arith, is, o)))
      (λ d. cond_both (eqb offset 4) _ _ (IsAt at) (λ e. let o = eqb-true offset 4 e in (h, omega (arith, is, o)))
      (λ e. after_five (past_five offset a b c d e))))))
    where
      after_five : 5 ≤ offset → IsAt at (cond (ltb offset (5 + s.slots)) (EntryWord place (offset - 5)) (BlockWord at))
      after_five past =
          cond_both (ltb offset (5 + s.slots)) _ _ (IsAt at)
          (λ t. let low = ltb-true offset (5 + s.slots) t in ((h, omega (arith, low, past)), omega (arith, is, past)))
          (λ f. let high = ltb-false offset (5 + s.slots) f in
          (record { place = place; is_place = h; begun = omega (arith, is, high); ended = omega (arith, is, k) }, refl))

  -- what is found so far from the first place, below the arrays
  in_some_place : (far at : ℕ) → 1 + 2 * s.processors + far ≡ at → far < s.processors * place_size s → IsAt at (in_places s far at)
  in_some_place far at is h =
      let whole = div-add-mod' far (place_size s) in
      placed (far / place_size s) (far % place_size s) at (div_below far (place_size s) s.processors (omega arith) h)
      (mod_below far (place_size s) (omega arith)) (omega (arith, whole, is))

  -- what is found at an address
  pub there : (at : ℕ) → at < word_count s → IsAt at (addressed s at)
  there at h =
      cond_both (eqb at 0) _ _ (IsAt at) (λ e. (tt, sym (eqb-true at 0 e)))
      (λ z. let some = eqb-false at 0 z in
      cond_both (ltb at (1 + s.processors)) _ _ (IsAt at)
      (λ t. let carry = ltb-true at (1 + s.processors) t in (omega (arith, carry, some), omega (arith, some)))
      (λ f. let past = ltb-false at (1 + s.processors) f in
      cond_both (ltb at (1 + 2 * s.processors)) _ _ (IsAt at)
      (λ t. let dead = ltb-true at (1 + 2 * s.processors) t in (omega (arith, dead, past), omega (arith, past)))
      (λ g. after_dead (ltb-false at (1 + 2 * s.processors) g))))
    where
      after_dead : 1 + 2 * s.processors ≤ at
          → IsAt at (cond (ltb at (arrays_at s)) (in_places s (at - (1 + 2 * s.processors)) at) (ArrayWord (at - arrays_at s)))
      after_dead past =
          cond_both (ltb at (arrays_at s)) _ _ (IsAt at)
          (λ t. let before = ltb-true at (arrays_at s) t in
          in_some_place (at - (1 + 2 * s.processors)) at (omega (arith, past)) (omega (arith, before, past)))
          (λ f. let after = ltb-false at (arrays_at s) f in (omega (arith, after, h), omega (arith, after)))

-- addresses and cells stand for each other, since cells of one address are one cell
pub addresses_name : (s : Shape) → CellsAreWithin s → AddressesDiffer s → AddressesName s
addresses_name s within differ = record {
  there = λ at h. there s at h;
  back = λ c h. let found = there s (address s c) (within c h).1 in differ (addressed s (address s c)) c found.0 h found.1;
}
