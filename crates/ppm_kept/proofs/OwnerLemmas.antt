-- Whose pool an address is in.
use Rattle.std.proofs.Common.{◌≡◌, ◌≤◌, ◌<◌, ℕ, ◌+◌, ◌-◌, ◌*◌, ◌/◌, ◌^◌, ap, ◌∙◌, arith}
use Rattle.std.proofs.lemmas.Nat.{div-mul-add}
use Rattle.ppm_cells.specs.Cells.{place_size, place_at}
use Rattle.ppm_cells.proofs.CellLemmas.{place_end, few_words}
use Rattle.ppm_kept.specs.Kept.{Setting, start, end_of, owner}

pub owned : (i : Setting) (p x : ℕ) → start i p ≤ x → x < end_of i p → owner i x ≡ p
owned i p x low high =
    let off : ℕ = x - place_at i.shape p in
    let size : off < place_size i.shape = omega (arith, low, high) in
    let is : x - place_at i.shape 0 ≡ p * place_size i.shape + off = omega (arith, low) in
    ap (λ (z : ℕ). z / place_size i.shape) is ∙ div-mul-add p (place_size i.shape) off size

-- pools lie below 2^28
pub pool_low : (i : Setting) (p : ℕ) → p < i.shape.processors → end_of i p ≤ 2 ^ 28
pool_low i p there = let e = place_end i.shape p there in let few = few_words i.shape in omega (arith, e, few)
