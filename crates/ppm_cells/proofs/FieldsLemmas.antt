-- Each field is found again where it lies.
use Rattle.std.proofs.Common.{◌≡◌, ℕ, ◌+◌, ◌*◌, ◌/◌, ◌%◌, ◌^◌, ◌<◌, List, [], ◌∷◌, ◌++◌, sym, ap, ◌∙◌, arith}
use Rattle.std.proofs.lemmas.Nat.{mod_low, shr_high, shr-shr, shr_split, shr_below, pow_pos, pow-add, mod_below, mul-add-lt}
use Rattle.std.proofs.Math.Nat.{mod-eq_of_lt}
use Rattle.ppm_cells.specs.Fields.{Field, Bits, number_of, Fit, bits}

-- how many bits the fields have
abbrev pub width_of : List Field → ℕ
width_of [] = 0
width_of (Bits width value ∷ above) = width + width_of above

-- the bits after some fields are the number of the next one
pub bits-number_of : (below : List Field) (width value : ℕ) (above : List Field) → Fit below → value < 2 ^ width
    → bits (width_of below) width (number_of (below ++ Bits width value ∷ above)) ≡ value
unfolding number_of bits
bits-number_of [] width value above fit small =
    let whole : (number_of above * 2 ^ width + value) / 1 ≡ number_of above * 2 ^ width + value = omega arith in
    rw whole (mod_low (number_of above) width value small)
bits-number_of (Bits w v ∷ below) width value above fit small =
    let rest : ℕ = number_of (below ++ Bits width value ∷ above) in
    let step : (rest * 2 ^ w + v) / 2 ^ (w + width_of below) ≡ rest / 2 ^ width_of below
    = sym (shr-shr (rest * 2 ^ w + v) w (width_of below)) ∙ ap (λ n. n / 2 ^ width_of below) (shr_high rest w v fit.0) in
    ap (λ n. n % 2 ^ width) step ∙ bits-number_of below width value above fit.1 small

-- what so many bits say fits them
pub bits-bound : (from width word : ℕ) → bits from width word < 2 ^ width
unfolding bits
bits-bound from width word = mod_below (word / 2 ^ from) (2 ^ width) (pow_pos width)

-- fields that fit make no larger number than their bits
pub number_of-bound : (fields : List Field) → Fit fields → number_of fields < 2 ^ width_of fields
unfolding number_of
number_of-bound [] fit = omega arith
number_of-bound (Bits w v ∷ above) fit =
    rw (pow-add 2 w (width_of above)) (mul-add-lt (number_of above) (2 ^ w) v (2 ^ width_of above) (number_of-bound above fit.1) fit.0)

-- two fields that fill a word make it up
pub number_of-both : (width above word : ℕ) → word < 2 ^ (above + width)
    → number_of (Bits width (bits 0 width word) ∷ Bits above (bits width above word) ∷ []) ≡ word
unfolding number_of bits
number_of-both width above word small =
    let low : word / 1 % 2 ^ width ≡ word % 2 ^ width = ap (λ n. n % 2 ^ width) (omega arith) in
    let high : word / 2 ^ width % 2 ^ above ≡ word / 2 ^ width = mod-eq_of_lt (shr_below word above width small) in
    let whole = shr_split word width in
    rw (low, high) (omega (arith, whole))
