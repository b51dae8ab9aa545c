-- A store of a cell, in the words by cells.
use Rattle.std.proofs.Common.{◌≡◌, ◌≢◌, ℕ, ◌+◌, true, false, ◌&&◌, List, inl, inr, sym, ◌∙◌, subst, arith}
use Rattle.std.specs.Prelude.{nat_lt, nat_le}
use Rattle.std.proofs.Math.Path.{fun_ext}
use Rattle.std.proofs.lemmas.Bool.{cases_Bool, ltb-true, leb-true}
use Rattle.ppm_cells.specs.Cells.{IsCell, IsAddressable, pool_at}
use Rattle.ppm_cells.specs.Memory.{read, write, AreWordsOf}
use Rattle.ppm_cells.specs.declared.cell.Cell.{Cell}
use Rattle.ppm_cells.specs.declared.cell.Cell.TheVariants.{FinishWord, CarryWord, DeadWord, RestartWord, MessageWord, HolderWord, Top, RoomCounter, EntryWord, BlockWord, ArrayWord}
use Rattle.ppm_cells.specs.declared.shape.Shape.{Shape}
use Rattle.ppm_cells.proofs.CellLemmas.{place_end}
use Rattle.ppm_cells.proofs.MemoryLemmas.{read_back, others}
use Rattle.ppm_frames.specs.Views.{same_cell, written, place_of, is_cell, absent, view}
use Rattle.ppm_frames.specs.Laws.{CellsAreViewed, OthersAreUnseen}
use Rattle.ppm_frames.proofs.WriteLemmas.{both, same_self, same_is, write_here, write_else}
use Rattle.ppm_frames.proofs.SeenLemmas.{if_true, if_false}

module _ (s : Shape) where
  pub is_one : (c : Cell) → is_cell s c ≡ true → IsCell s c
  is_one FinishWord e = tt
  is_one (RoomCounter a) e = ltb-true a s.processors e
  is_one (BlockWord x) e =
      let one = both (nat_lt (place_of s x) s.processors) (nat_le (pool_at s (place_of s x)) x && nat_lt x (pool_at s (place_of s x) + s.room)) e in
      let two = both (nat_le (pool_at s (place_of s x)) x) (nat_lt x (pool_at s (place_of s x) + s.room)) one.1 in
      record { place = place_of s x; is_place = ltb-true _ _ one.0; begun = leb-true _ _ two.0; ended = ltb-true _ _ two.1 }
  is_one (ArrayWord x) e = ltb-true x s.arrays e
  is_one (CarryWord a) e = absurd (cc)
  is_one (DeadWord a) e = absurd (cc)
  is_one (RestartWord a) e = absurd (cc)
  is_one (MessageWord a) e = absurd (cc)
  is_one (HolderWord a) e = absurd (cc)
  is_one (Top a) e = absurd (cc)
  is_one (EntryWord a j) e = absurd (cc)

  addressable : (c : Cell) → IsCell s c → IsAddressable s c
  addressable (BlockWord x) there = let e = place_end s there.place there.is_place in let lt = there.ended in omega (arith, e, lt)
  addressable FinishWord there = there
  addressable (CarryWord a) there = there
  addressable (DeadWord a) there = there
  addressable (RestartWord a) there = there
  addressable (MessageWord a) there = there
  addressable (HolderWord a) there = there
  addressable (Top a) there = there
  addressable (RoomCounter a) there = there
  addressable (EntryWord a i) there = there
  addressable (ArrayWord a) there = there

  pub view_is : (words : List ℕ) (c : Cell) → is_cell s c ≡ true → view s words c ≡ read s words c
  unfolding view
  view_is words c e = if_true (is_cell s c) _ _ e

  pub view_not : (words : List ℕ) (c : Cell) → is_cell s c ≡ false → view s words c ≡ absent s c
  unfolding view
  view_not words c e = if_false (is_cell s c) _ _ e

  each : (words : List ℕ) (c : Cell) (w : ℕ) → AreWordsOf s words → is_cell s c ≡ true → (d : Cell) → view s (write s words c w) d ≡ written (view s words) c w d
  each words c w fit there d = elim (cases_Bool (same_cell d c)) [
    | inl e ↦ subst (λ (z : Cell). view s (write s words c w) z ≡ written (view s words) c w z) (sym (same_is d c e))
        (view_is (write s words c w) c there ∙ read_back s words c w fit (addressable c (is_one c there)) ∙ sym (write_here (view s words) c w))
    | inr e ↦ let ne : d ≢ c = (λ z. let a = subst (λ (y : Cell). same_cell y c ≡ false) z e in let b = same_self c in absurd (cc)) in elim (cases_Bool (is_cell s d)) [
      | inl is ↦ view_is (write s words c w) d is ∙ others s words c d w (is_one c there) (is_one d is) ne ∙ sym (view_is words d is) ∙ sym (write_else (view s words) c w d ne)
      | inr no_cell ↦ view_not (write s words c w) d no_cell ∙ sym (view_not words d no_cell) ∙ sym (write_else (view s words) c w d ne)
    ]
  ]

  unseen : (words : List ℕ) (c : Cell) (w : ℕ) → IsCell s c → is_cell s c ≡ false → (d : Cell) → view s (write s words c w) d ≡ view s words d
  unseen words c w there out d = elim (cases_Bool (is_cell s d)) [
    | inl is ↦ view_is (write s words c w) d is
        ∙ others s words c d w there (is_one d is) (λ e. let a = subst (λ (y : Cell). is_cell s y ≡ true) e is in absurd (cc)) ∙ sym (view_is words d is)
    | inr no_cell ↦ view_not (write s words c w) d no_cell ∙ sym (view_not words d no_cell)
  ]

pub others_are_unseen : OthersAreUnseen
others_are_unseen s words c w there out = fun_ext (λ d. unseen s words c w there out d)

pub cells_are_viewed : CellsAreViewed
cells_are_viewed s words c w fit there = fun_ext (λ d. each s words c w fit there d)
