-- Whether counts of a block are within a number, statement by statement.
use Rattle.std.proofs.Common.{◌≡◌, ◌↔◌, ◌≤◌, ◌<◌, ◌+◌, ℕ, arith, max, Bool, true, false, IsTrue, Option, MatchOption, List, drop, length, get_or, refl, sym, ap, subst}
use Rattle.std.specs.Bool.{then_some}
use Rattle.std.proofs.Math.Decide.{dec_le}
use Rattle.std.proofs.Math.Nat.{le-max_left, le-max_right, max-le, lt_of_not-le}
use Rattle.ppm_tree.specs.declared.tree.Stmt.{Stmt}
use Rattle.ppm_tree.specs.Tree.{statement_of, block_of}
use Rattle.ppm_cut_bounds.specs.Names.{lets_of}
use Rattle.ppm_cut_bounds.specs.Slots.{most_within, most_in_force}
use Rattle.ppm_cut_bounds.proofs.Blocks.{block_ahead}

-- a statement's own names leave so many slots to the rest
fits_step : (w d r left behind : ℕ) → w ≤ left → behind + d ≡ left → (max w (d + r) ≤ left ↔ r ≤ behind)
fits_step w d r left behind wl e =
    (λ h. let g = le-max_right w (d + r) in omega (arith, g, h, e), λ h. let g : d + r ≤ left = omega (arith, h, e) in max-le wl g)

-- a statement's own names take too many
fits_not : (w d r left : ℕ) → left < max w d → max w (d + r) ≤ left → ⊥
fits_not w d r left lt h =
    let a = le-max_left w (d + r) in
    let b = le-max_right w (d + r) in
    let c : max w d ≤ left = max-le (omega (arith, a, h)) (omega (arith, b, h)) in
    omega (arith, c, lt)

module _ (xs : List Stmt) (k : ℕ) (s : Stmt) (in' : k < length xs) (at : s ≡ get_or xs k s) where
  most_ahead : most_in_force (block_of (drop k xs)) ≡ max (most_within (statement_of s)) (length (lets_of (statement_of s)) + most_in_force (block_of (drop (k + 1) xs)))
  most_ahead = ap most_in_force (block_ahead xs k s in' at)

  -- the names of a block fit exactly where those after a statement do
  pub names_step : (all room left behind : ℕ) → most_within (statement_of s) ≤ left → behind + length (lets_of (statement_of s)) ≡ left
      → (all ≤ room ↔ most_in_force (block_of (drop k xs)) ≤ left)
      → (all ≤ room ↔ most_in_force (block_of (drop (k + 1) xs)) ≤ behind)
  names_step all room left behind wl e h =
      let step = fits_step (most_within (statement_of s)) (length (lets_of (statement_of s))) (most_in_force (block_of (drop (k + 1) xs))) left behind wl e in
      let same = most_ahead in
      (λ g. step.0 (subst (λ n. n ≤ left) same (h.0 g)), λ g. h.1 (subst (λ n. n ≤ left) (sym same) (step.1 g)))

  -- the names of a block don't fit where those of a statement don't
  pub names_stop : (all room left : ℕ) → left < max (most_within (statement_of s)) (length (lets_of (statement_of s)))
      → (all ≤ room ↔ most_in_force (block_of (drop k xs)) ≤ left) → all ≤ room → ⊥
  names_stop all room left lt h g =
      fits_not (most_within (statement_of s)) (length (lets_of (statement_of s))) (most_in_force (block_of (drop (k + 1) xs))) left lt (subst (λ n. n ≤ left) most_ahead (h.0 g))

-- what is left where the names of a block fit or don't
pub fits_block : (w d room m : ℕ) (b : Bool) (r : Option ℕ) → w ≡ m → d ≡ 0 → (IsTrue b ↔ m ≤ room) → r ≡ then_some b room
    → MatchOption r (room < max w d) (λ left. (w ≤ room) × left + d ≡ room)
fits_block w d room m true r same none fit e = rw e (let h = fit.0 refl in (omega (arith, h, same), omega (arith, none)))
fits_block w d room m false r same none fit e = rw e (by (dec_le m room))
  where
    by : Dec (m ≤ room) → room < max w d
    by (yes h) = let f = fit.1 h in absurd (cc)
    by (no h) = let g = le-max_left w d in let k = lt_of_not-le h in omega (arith, k, g, same)

-- what is left of two blocks, of which the first fits
pub fits_both : (w d room m n : ℕ) (b : Bool) (r : Option ℕ) → w ≡ max m n → d ≡ 0 → m ≤ room → (IsTrue b ↔ n ≤ room) → r ≡ then_some b room
    → MatchOption r (room < max w d) (λ left. (w ≤ room) × left + d ≡ room)
fits_both w d room m n b r same none first fit e =
    fits_block w d room (max m n) b r same none
    (λ h. max-le first (fit.0 h), λ h. fit.1 (let g = le-max_right m n in omega (arith, g, h))) e

-- what is left of a block in which two more names are in force
pub fits_inner : (w d room m inner : ℕ) (b : Bool) (r : Option ℕ) → w ≡ 2 + m → d ≡ 0 → inner + 2 ≡ room → (IsTrue b ↔ m ≤ inner) → r ≡ then_some b room
    → MatchOption r (room < max w d) (λ left. (w ≤ room) × left + d ≡ room)
fits_inner w d room m inner b r same none two fit e =
    fits_block w d room (2 + m) b r same none (λ h. let g = fit.0 h in omega (arith, g, two), λ h. fit.1 (omega (arith, h, two))) e

-- the first of two blocks doesn't fit
pub first_not : (w d room m n : ℕ) → w ≡ max m n → (m ≤ room → ⊥) → room < max w d
first_not w d room m n same h =
    let g = le-max_left w d in let f = le-max_left m n in let k = lt_of_not-le h in omega (arith, k, g, f, same)
