-- A signed number goes into a word and comes back, and a word into a signed number.
use Rattle.std.specs.Prelude.{◌≡◌, ℕ, ◌<◌, ◌-◌, ◌^◌, ℤ, pos, negsuc, Bool, true, false, cond, nat_lt, FitsSigned, refl}
use Rattle.std.proofs.Common.{arith, ap, ◌≤◌}
use Rattle.std.specs.Int.{w64}
use Rattle.std.proofs.lemmas.Bool.{lt-ltb, le-ltb, ltb-true, ltb-false}
use Rattle.ppm_words.specs.TwosComplement.{word_of, value_of}

-- a number that fits comes back
pub value_of-word_of : (z : ℤ) → FitsSigned w64 z → value_of (word_of z) ≡ z
value_of-word_of (pos n) fits = rw (lt-ltb n (2 ^ 63) fits.sfits) refl
value_of-word_of (negsuc n) fits =
    let large : 2 ^ 63 ≤ 2 ^ 64 - 1 - n = omega (arith, fits.sfits) in
    rw (le-ltb (2 ^ 64 - 1 - n) (2 ^ 63) large) (ap negsuc (omega (arith, fits.sfits)))

-- a word has 64 bits
pub word_of-below : (z : ℤ) → FitsSigned w64 z → word_of z < 2 ^ 64
word_of-below (pos n) fits = omega (arith, fits.sfits)
word_of-below (negsuc n) fits = omega arith

-- what a word stands for fits
pub value_of-fits : (n : ℕ) → n < 2 ^ 64 → FitsSigned w64 (value_of n)
value_of-fits n h = by (nat_lt n (2 ^ 63)) refl
  where
    by : (t : Bool) → nat_lt n (2 ^ 63) ≡ t → FitsSigned w64 (cond t (pos n) (negsuc (2 ^ 64 - 1 - n)))
    by true e = record { sfits = ltb-true n (2 ^ 63) e }
    by false e = record { sfits = omega (arith, ltb-false n (2 ^ 63) e) }
