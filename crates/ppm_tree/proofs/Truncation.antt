-- Division is truncated towards zero.
use Rattle.std.proofs.Common.{◌≡◌, ◌≢◌, ◌<◌, ℕ, zero, suc, ◌%◌, ℤ, pos, negsuc, neg_ℤ, nat_abs, int_div, int_rem, refl, sym, ap, ◌∙◌, subst, arith}
use Rattle.std.proofs.Math.Nat.{zero-mod}
use Rattle.std.proofs.lemmas.Int.{quot-rem}
use Rattle.std.proofs.lemmas.Nat.{mod_below}
use Rattle.ppm_tree.specs.Division.{IsTruncated}

-- a number and its negative are equally far from 0
far : (k : ℕ) → nat_abs (neg_ℤ (pos k)) ≡ k
far zero = refl
far (suc k) = refl

-- a number but 0 is some way from 0
some_way : (y : ℤ) → y ≢ pos 0 → 0 < nat_abs y
some_way (pos zero) h = absurd (h refl)
some_way (pos (suc n)) h = omega arith
some_way (negsuc n) h = omega arith

less : (x y : ℤ) → y ≢ pos 0 → nat_abs (int_rem x y) < nat_abs y
less (pos a) y h = mod_below a (nat_abs y) (some_way y h)
less (negsuc a) y h = subst (λ (k : ℕ). k < nat_abs y) (sym (far (suc a % nat_abs y))) (mod_below (suc a) (nat_abs y) (some_way y h))

not_below : (x y : ℤ) (m : ℕ) → x ≡ pos m → (n : ℕ) × (int_rem x y ≡ pos n)
not_below x y m is = (m % nat_abs y, ap (λ (x : ℤ). int_rem x y) is)

not_above_rem : (m : ℕ) (y : ℤ) → (n : ℕ) × (int_rem (neg_ℤ (pos m)) y ≡ neg_ℤ (pos n))
not_above_rem zero y = (0, ap pos (zero-mod (nat_abs y)))
not_above_rem (suc m) y = (suc m % nat_abs y, refl)

not_above : (x y : ℤ) (m : ℕ) → x ≡ neg_ℤ (pos m) → (n : ℕ) × (int_rem x y ≡ neg_ℤ (pos n))
not_above x y m is = let p = not_above_rem m y in (p.0, ap (λ (x : ℤ). int_rem x y) is ∙ p.1)

pub truncated : (x y : ℤ) → y ≢ pos 0 → IsTruncated x y (int_div x y) (int_rem x y)
truncated x y h = record { sum = quot-rem x y; less = less x y h; not_below = not_below x y; not_above = not_above x y }
