-- Division in the language's words: towards zero, and the remainder has the dividend's sign.
use Rattle.std.specs.Prelude.{◌≡◌, ◌≢◌, ◌<◌, ℕ, ℤ, pos, ◌+ℤ◌, ◌*ℤ◌, neg_ℤ, int_div, int_rem, nat_abs}

-- q and r are the quotient and the remainder of x by y, truncated towards zero: r is nearer to 0 than y, and on x's side of it
pub record IsTruncated (x y q r : ℤ) : Type 0 where
  pub sum : q *ℤ y +ℤ r ≡ x
  pub less : nat_abs r < nat_abs y
  pub not_below : (m : ℕ) → x ≡ pos m → (n : ℕ) × (r ≡ pos n)
  pub not_above : (m : ℕ) → x ≡ neg_ℤ (pos m) → (n : ℕ) × (r ≡ neg_ℤ (pos n))

-- each division but by 0 truncates towards zero
abbrev pub DivideTowardsZero : Type 0
DivideTowardsZero = (x y : ℤ) → y ≢ pos 0 → IsTruncated x y (int_div x y) (int_rem x y)
