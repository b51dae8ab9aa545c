-- How many lines the capsules of a code have.
use Rattle.std.proofs.Common.{◌≡◌, ◌<◌, ◌≤◌, ℕ, zero, suc, ◌+◌, ◌*◌, ◌^◌, List, [], ◌∷◌, length, take, sym, ap, ◌∙◌, subst, arith, lit<}
use Rattle.std.specs.List.{All}
use Rattle.ppm_code.specs.declared.code.Capsule.{Capsule}
use Rattle.ppm_code.specs.declared.code.CodeParts.{CodeParts}
use Rattle.ppm_code.specs.declared.code.Procedure.{Procedure}
use Rattle.ppm_words.specs.Limits.{array_limit, procedure_limit}
use Rattle.ppm_code.specs.Code.{IsCode, IsCapsule}
use Rattle.ppm_loading.specs.Telling.{capsule_lines}

-- a capsule has its own line, and at most 160 more
few : (code : CodeParts) (cs : List Capsule) (n : ℕ) → All (IsCapsule code) cs → capsule_lines (take n cs) ≤ 161 * length cs
few code [] zero h = omega arith
few code [] (suc n) h = omega arith
few code (c ∷ cs) zero h = omega arith
few code (c ∷ cs) (suc n) h = omega (arith, (h 0 c (omega arith)).most, few code cs n (λ k d l. h (suc k) d (omega (arith, l))))

-- the first capsules of a code have fewer lines than 2^32
pub lines_few : (code : CodeParts) → IsCode code → (n : ℕ) → capsule_lines (take n code.capsules) ≤ 2 ^ 32
lines_few code is n =
    let big : 10551135 < 2 ^ 32 = lit< tt in
    omega (arith, few code code.capsules n is.capsules, is.capsules_most, big)

module _ (code parts : CodeParts) (same : parts ≡ code) (is : IsCode code) where
  -- those that were read have as few
  pub front_few : (all : List Capsule) (n : ℕ) → all ≡ parts.capsules → capsule_lines (take n all) ≤ 2 ^ 32
  front_few all n whole = subst (λ (cs : List Capsule). capsule_lines (take n cs) ≤ 2 ^ 32)
      (sym (whole ∙ ap (λ (p : CodeParts). p.capsules) same)) (lines_few code is n)

  -- and there are few procedures
  pub procedures_few : (all : List Procedure) → all ≡ parts.procedures → length all ≤ procedure_limit
  procedures_few all whole = subst (λ (ps : List Procedure). length ps ≤ procedure_limit)
      (sym (whole ∙ ap (λ (p : CodeParts). p.procedures) same)) is.procedures_most

  -- a line's number fits 64 bits
  pub line_fits : (arrays lines at n : ℕ) (capsules : List Capsule) (procedures : List Procedure) → arrays ≤ array_limit → procedures ≡ parts.procedures
      → capsules ≡ parts.capsules → lines ≡ capsule_lines (take n capsules) → at < 2 ^ 32
      → arrays + 2 + length procedures + lines + 1 + at + 1 < 2 ^ 64
  line_fits arrays lines at n capsules procedures few_arrays these those counted small =
      let big : 2 ^ 32 + 2 ^ 32 + 1100 < 2 ^ 64 = lit< tt in
      omega (arith, few_arrays, procedures_few procedures these, front_few capsules n those, counted, small, big)
