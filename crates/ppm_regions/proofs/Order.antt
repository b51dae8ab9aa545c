-- The order in which faults are told.
use Rattle.std.proofs.Common.{◌≡◌, ◌<◌, ◌≤◌, inl, inr, ℕ, Bool, true, false, refl, arith}
use Rattle.std.specs.Prelude.{◌||◌, ◌&&◌, ◌==◌, nat_lt}
use Rattle.std.proofs.lemmas.Bool.{cases_lt}
use Rattle.ppm_regions.specs.declared.region_error.RegionError.{RegionError}
use Rattle.ppm_regions.specs.ErrorNumbers.{number_of, line_of}
use Rattle.ppm_regions.specs.Admission.{ComesFirst, ByNumber, ByLine}
use Rattle.ppm_regions.specs.Deciding.{comes_before}

-- two numbers, and then two lines
before_numbers : (M : Type 0) (m n k l : ℕ) → (nat_lt m n || (m == n && nat_lt k l)) ≡ true → (m < n → M) → (m ≡ n → k < l → M) → M
before_numbers M m n k l h less later =
    elim (cases_lt m n) [
      | inl lt ↦ less lt
      | inr le ↦ elim (cases_lt n m) [
        | inl gt ↦ absurd (grind (arith, h, gt))
        | inr ge ↦ elim (cases_lt k l) [
          | inl lt ↦ later (omega arith) lt
          | inr up ↦ absurd (grind (arith, h, le, up))
        ]
      ]
    ]

not_before_numbers : (M : Type 0) (m n k l : ℕ) → (nat_lt m n || (m == n && nat_lt k l)) ≡ false → (n < m → M) → (n ≡ m → l ≤ k → M) → M
not_before_numbers M m n k l h less later =
    elim (cases_lt n m) [
      | inl gt ↦ less gt
      | inr ge ↦ elim (cases_lt m n) [
        | inl lt ↦ absurd (grind (arith, h, lt))
        | inr le ↦ elim (cases_lt k l) [
          | inl lt ↦ (let e : m ≡ n = omega arith in absurd (grind (arith, h, lt, e)))
          | inr up ↦ later (omega arith) up
        ]
      ]
    ]

pub before : (d e : RegionError) → comes_before d e ≡ true → ComesFirst d e
before d e h =
    before_numbers (ComesFirst d e) (number_of d) (number_of e) (line_of d) (line_of e) h ByNumber (λ same lt. ByLine same (omega arith))

pub not_before : (d e : RegionError) → comes_before d e ≡ false → ComesFirst e d
not_before d e h =
    not_before_numbers (ComesFirst e d) (number_of d) (number_of e) (line_of d) (line_of e) h ByNumber ByLine

pub comes_first_same : (e : RegionError) → ComesFirst e e
comes_first_same e = ByLine refl (omega arith)

pub comes_first_trans : (d e f : RegionError) → ComesFirst d e → ComesFirst e f → ComesFirst d f
comes_first_trans d e f (ByNumber p) (ByNumber q) = ByNumber (omega (arith, p, q))
comes_first_trans d e f (ByNumber p) (ByLine q r) = ByNumber (omega (arith, p, q))
comes_first_trans d e f (ByLine p q) (ByNumber r) = ByNumber (omega (arith, p, r))
comes_first_trans d e f (ByLine p q) (ByLine r s) = ByLine (omega (arith, p, r)) (omega (arith, q, s))
