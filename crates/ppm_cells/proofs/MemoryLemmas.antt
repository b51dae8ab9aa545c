-- What is stored is read.
use Rattle.std.proofs.Common.{ℕ, ◌<◌, Option, sym, ap, subst, ◌∙◌, arith}
use Rattle.std.proofs.lemmas.List.{get_or-set_same, get_or-set_other}
use Rattle.ppm_cells.specs.declared.shape.Shape.{Shape}
use Rattle.ppm_cells.specs.declared.cell.Cell.{Cell}
use Rattle.ppm_cells.specs.declared.cell.Cell.TheVariants.{FinishWord, CarryWord, DeadWord, RestartWord, MessageWord, HolderWord}
use Rattle.ppm_cells.specs.declared.cell.Cell.TheVariants.{Top, RoomCounter, EntryWord, BlockWord, ArrayWord}
use Rattle.ppm_cells.specs.Exact.{IsExact}
use Rattle.ppm_cells.specs.Cells.{word_count, address, IsAddressable}
use Rattle.ppm_cells.specs.Memory.{StoresAreRead, OthersStay, PackedStoresAreSeen}
use Rattle.ppm_cells.proofs.ExactLemmas.{unpack-pack}
use Rattle.ppm_cells.proofs.CellLemmas.{place_end, differ}

module _ (s : Shape) where
  -- each cell has an address below the count
  pub below : (c : Cell) → IsAddressable s c → address s c < word_count s
  below FinishWord h = omega arith
  below (CarryWord processor) h = omega (arith, h)
  below (DeadWord processor) h = omega (arith, h)
  below (RestartWord place) h = let e = place_end s place h in omega (arith, e)
  below (MessageWord place) h = let e = place_end s place h in omega (arith, e)
  below (HolderWord place) h = let e = place_end s place h in omega (arith, e)
  below (Top place) h = let e = place_end s place h in omega (arith, e)
  below (RoomCounter place) h = let e = place_end s place h in omega (arith, e)
  below (EntryWord place slot) h = let e = place_end s place h.0 in omega (arith, e, h.1)
  below (BlockWord at) h = h
  below (ArrayWord index) h = omega (arith, h)

  -- a store at the cell itself
  pub read_back : StoresAreRead s
  read_back words c word fit there =
      get_or-set_same words (address s c) word 0 (subst (λ (n : ℕ). address s c < n) (sym fit) (below c there))

  -- a store elsewhere
  pub others : OthersStay s
  others words c d word p q apart =
      get_or-set_other words (address s c) (address s d) word 0 (λ e. apart (differ s d c q p e))

  -- a packed value, where the packing is exact and what is stored is read
  pub seen : {V : Type 0} (pack : V → ℕ) (IsPackable : V → Type 0) (unpack : ℕ → Option V) → IsExact pack IsPackable unpack
      → StoresAreRead s → PackedStoresAreSeen pack IsPackable unpack s
  seen pack IsPackable unpack exact stored words c v fit there ok =
      ap unpack (stored words c (pack v) fit there) ∙ unpack-pack pack IsPackable unpack exact v ok
