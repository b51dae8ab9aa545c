-- What is there has an address, and what a restart names then fits its word.
use Rattle.std.proofs.Common.{◌≡◌, ◌<◌, ◌≤◌, ℕ, ◌^◌, Bool, true, false, refl, arith}
use Rattle.std.specs.Prelude.{nat_lt, nat_le, ◌&&◌}
use Rattle.std.proofs.lemmas.Bool.{ltb-true}
use Rattle.ppm_cells.specs.Cells.{word_count, IsAddressable}
use Rattle.ppm_cells.specs.Fields.{Fit}
use Rattle.ppm_cells.specs.Restart.{address_fields, IsRestart}
use Rattle.ppm_cells.specs.Sides.{side_number}
use Rattle.ppm_cells.specs.declared.cell.Cell.{Cell}
use Rattle.ppm_cells.specs.declared.cell.Cell.TheVariants.{FinishWord, CarryWord, DeadWord, RestartWord, MessageWord, HolderWord, Top, RoomCounter, EntryWord, BlockWord, ArrayWord}
use Rattle.ppm_cells.specs.declared.restart.Restart.{Restart}
use Rattle.ppm_cells.specs.declared.restart.RestartKind.{RestartKind}
use Rattle.ppm_cells.specs.declared.restart.RestartKind.TheVariants.{Run, Bump, Push1, Push2, Unwind, Arrive, Join, Pop1, Pop2, Seek, Steal, Check, Take, Take2}
use Rattle.ppm_cells.specs.declared.shape.Shape.{Shape}
use Rattle.ppm_cells.specs.declared.side.Side.{Side}
use Rattle.ppm_cells.specs.declared.side.Side.TheVariants.{Left, Right}
use Rattle.ppm_step.specs.There.{is_there, kind_is_there, bottom_is_there, restart_is_there}

both : (a b : Bool) → (a && b) ≡ true → (a ≡ true) × (b ≡ true)
both true b h = (refl, h)
both false b h = cc

-- a cell that is there has an address
pub addressable : (s : Shape) (c : Cell) → is_there s c ≡ true → IsAddressable s c
addressable s FinishWord h = tt
addressable s (CarryWord processor) h = ltb-true processor s.processors h
addressable s (DeadWord processor) h = ltb-true processor s.processors h
addressable s (RestartWord place) h = ltb-true place s.processors h
addressable s (MessageWord place) h = ltb-true place s.processors h
addressable s (HolderWord place) h = ltb-true place s.processors h
addressable s (Top place) h = ltb-true place s.processors h
addressable s (RoomCounter place) h = ltb-true place s.processors h
addressable s (EntryWord place slot) h =
    let two = both (nat_lt place s.processors) (nat_lt slot s.slots) h in
    (ltb-true place s.processors two.0, ltb-true slot s.slots two.1)
addressable s (BlockWord address) h = ltb-true address (word_count s) h
addressable s (ArrayWord index) h = ltb-true index s.arrays h

module _ (s : Shape) (few : word_count s ≤ 75497921) where
  low : (address : ℕ) → nat_lt address (word_count s) ≡ true → address < 2 ^ 28
  low address h = omega (arith, few, ltb-true address (word_count s) h)

  side_fits : (side : Side) → side_number side < 2 ^ 1
  side_fits Left = omega arith
  side_fits Right = omega arith

  kind_fits : (kind : RestartKind) → kind_is_there s kind ≡ true → Fit (address_fields kind)
  kind_fits (Run frame copy) h =
      let two = both (nat_lt frame (word_count s)) (nat_lt copy 2) h in
      (low frame two.0, (omega (arith, ltb-true copy 2 two.1), (omega arith, tt)))
  kind_fits (Bump block) h = (low block h, (omega arith, tt))
  kind_fits (Push1 block) h = (low block h, (omega arith, tt))
  kind_fits (Push2 block) h = (low block h, (omega arith, tt))
  kind_fits (Unwind frame) h = (low frame h, (omega arith, tt))
  kind_fits (Arrive block side) h = (low block h, (side_fits side, (omega arith, tt)))
  kind_fits (Join block side) h = (low block h, (side_fits side, (omega arith, tt)))
  kind_fits Pop1 h = (omega arith, tt)
  kind_fits (Pop2 block) h = (low block h, (omega arith, tt))
  kind_fits Seek h = (omega arith, tt)
  kind_fits (Steal victim slot) h =
      let two = both (nat_lt victim s.processors) (nat_lt slot s.slots) h in (
        omega (arith, ltb-true slot s.slots two.1, s.within.slots_most),
        (omega (arith, ltb-true victim s.processors two.0, s.within.processors_most), (omega arith, tt)),
      )
  kind_fits (Check victim slot) h =
      let two = both (nat_lt victim s.processors) (nat_lt slot s.slots) h in (
        omega (arith, ltb-true slot s.slots two.1, s.within.slots_most),
        (omega (arith, ltb-true victim s.processors two.0, s.within.processors_most), (omega arith, tt)),
      )
  kind_fits (Take victim dead) h =
      let two = both (nat_lt victim s.processors) (nat_lt dead s.processors) h in (
        omega (arith, ltb-true dead s.processors two.1, s.within.processors_most),
        (omega (arith, ltb-true victim s.processors two.0, s.within.processors_most), (omega arith, tt)),
      )
  kind_fits (Take2 victim) h = (omega (arith, ltb-true victim s.processors h, s.within.processors_most), (omega arith, tt))

  -- a restart that names what is there fits its word
  pub restart_fits : (restart : Restart) → restart_is_there s restart ≡ true → IsRestart restart
  restart_fits restart h =
      let two = both (bottom_is_there s restart.bottom) (kind_is_there s restart.kind) h in
      let bottom = both (nat_le 1 restart.bottom) (nat_lt restart.bottom s.slots) two.0 in
      (kind_fits restart.kind two.1, omega (arith, ltb-true restart.bottom s.slots bottom.1, s.within.slots_most))
