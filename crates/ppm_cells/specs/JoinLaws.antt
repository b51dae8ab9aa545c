-- The laws of a join.
use Rattle.std.specs.Prelude.{◌≡◌, ◌≢◌, ℕ}
use Rattle.ppm_cells.specs.declared.side.Side.{Side}
use Rattle.ppm_cells.specs.declared.side.Side.TheVariants.{Left, Right}
use Rattle.ppm_cells.specs.JoinOrder.{other, both, IsLast, IsInline, first, arrived, Changes, Later}

-- an order word is set once, and arrivals go on in its order
pub record SetOnce : Type 0 where
  pub arrivals : (order : ℕ) (side : Side) → Later order (arrived order side)
  pub inline_forks : Later 0 both
  pub goes_on : (old mid new : ℕ) → Later old mid → Later mid new → Later old new
  pub stays : (old new : ℕ) → old ≢ 0 → Later old new → old ≡ new
  pub both_ways : (old new : ℕ) → Later old new → Later new old → old ≡ new
  pub no_return : (old now new : ℕ) → Later old now → Changes now new → new ≢ old

-- one branch is last, and the other one isn't
pub record OneIsLast : Type 0 where
  pub arrival : (side : Side) → arrived 0 side ≡ first side
  pub first_is_not_last : (side : Side) → IsLast (first side) side → ⊥
  pub other_is_last : (side : Side) → IsLast (first side) (other side)
  pub right_is_last : IsLast both Right
  pub left_goes_on : (IsLast both Left → ⊥) × IsInline both Left
  pub one_at_most : (order : ℕ) → IsLast order Left → IsLast order Right → ⊥
