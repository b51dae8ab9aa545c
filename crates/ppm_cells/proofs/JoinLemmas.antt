-- An order word is set once, and tells which branch is last.
use Rattle.std.proofs.Common.{◌≡◌, ◌≢◌, ℕ, zero, suc, inl, inr, refl, sym, subst, arith, lit≤, ◌∙◌}
use Rattle.ppm_cells.specs.declared.side.Side.{Side}
use Rattle.ppm_cells.specs.declared.side.Side.TheVariants.{Left, Right}
use Rattle.ppm_cells.specs.JoinOrder.{other, IsLast, first, arrived, Changes, Later}
use Rattle.ppm_cells.specs.JoinLaws.{SetOnce, OneIsLast}

-- where a branch is the first one, it sets the word
arrivals : (order : ℕ) (side : Side) → Later order (arrived order side)
arrivals zero Left = inr (refl, lit≤ tt, lit≤ tt)
arrivals zero Right = inr (refl, lit≤ tt, lit≤ tt)
arrivals (suc order) side = inl refl

stays : (old new : ℕ) → old ≢ 0 → Later old new → old ≡ new
stays old new set (inl same) = same
stays old new set (inr change) = absurd (set change.0)

-- what was changed is not 0
is_set : (old new : ℕ) → Changes old new → new ≢ 0
is_set old new change none = omega (arith, change.1, none)

goes_on : (old mid new : ℕ) → Later old mid → Later mid new → Later old new
goes_on old mid new (inl same) later = subst (λ (x : ℕ). Later x new) (sym same) later
goes_on old mid new (inr change) later =
    inr (subst (λ (x : ℕ). Changes old x) (stays mid new (is_set old mid change) later) change)

both_ways : (old new : ℕ) → Later old new → Later new old → old ≡ new
both_ways old new (inl same) back = same
both_ways old new (inr change) back = sym (stays new old (is_set old new change) back)

no_return : (old now new : ℕ) → Later old now → Changes now new → new ≢ old
no_return old now new (inl same) change back = is_set now new change (back ∙ (same ∙ change.0))
no_return old now new (inr before) change back = is_set old now before change.0

pub set_once : SetOnce
set_once = record {
  arrivals = arrivals;
  inline_forks = inr (refl, lit≤ tt, lit≤ tt);
  goes_on = goes_on;
  stays = stays;
  both_ways = both_ways;
  no_return = no_return;
}

-- the left branch alone came first where the right one is last
arrival : (side : Side) → arrived 0 side ≡ first side
arrival side = refl

first_is_not_last : (side : Side) → IsLast (first side) side → ⊥
first_is_not_last Left h = omega (arith, h)
first_is_not_last Right (inl h) = omega (arith, h)
first_is_not_last Right (inr h) = omega (arith, h)

other_is_last : (side : Side) → IsLast (first side) (other side)
other_is_last Left = inl refl
other_is_last Right = refl

one_at_most : (order : ℕ) → IsLast order Left → IsLast order Right → ⊥
one_at_most order left (inl right) = omega (arith, left, right)
one_at_most order left (inr right) = omega (arith, left, right)

pub one_is_last : OneIsLast
one_is_last = record {
  arrival = arrival;
  first_is_not_last = first_is_not_last;
  other_is_last = other_is_last;
  right_is_last = inr refl;
  left_goes_on = ((λ h. omega (arith, h)), refl);
  one_at_most = one_at_most;
}
