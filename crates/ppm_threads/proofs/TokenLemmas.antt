-- Each step keeps the balance of tokens.
use Rattle.std.proofs.Common.{◌≡◌, ℕ, zero, suc, ◌+◌, true, false, List, [], ◌∷◌, ◌++◌, set, sym, ap, refl, arith}
use Rattle.crossbeam_utils.specs.Register.{Admits, TurnsAt, Turns}
use mathlib.Core.Option.{some, some-injective, some-ne-none}
use lib.ListN.{get_elem?}
use Rattle.ppm_threads.specs.declared.parking.Credit.{Credit}
use Rattle.ppm_threads.specs.Tokens.{credit, given_in, taken_in, Balanced, gave, took}

given_set : (cs : List Credit) (i : ℕ) (v w : Credit) → get_elem? cs i ≡ some v → given_in (set cs i w) + v.given ≡ given_in cs + w.given
given_set [] i v w e = absurd (some-ne-none v (sym e))
given_set (c ∷ cs) zero v w e = let s : c.given ≡ v.given = ap (λ (x : Credit). x.given) (some-injective c v e) in omega (arith, s)
given_set (c ∷ cs) (suc i) v w e = let r = given_set cs i v w e in omega (arith, r)

taken_set : (cs : List Credit) (i : ℕ) (v w : Credit) → get_elem? cs i ≡ some v → taken_in (set cs i w) + v.taken ≡ taken_in cs + w.taken
taken_set [] i v w e = absurd (some-ne-none v (sym e))
taken_set (c ∷ cs) zero v w e = let s : c.taken ≡ v.taken = ap (λ (x : Credit). x.taken) (some-injective c v e) in omega (arith, s)
taken_set (c ∷ cs) (suc i) v w e = let r = taken_set cs i v w e in omega (arith, r)

given_more : (cs : List Credit) → given_in (cs ++ credit 0 0 ∷ []) ≡ given_in cs
given_more [] = refl
given_more (c ∷ cs) = let r = given_more cs in omega (arith, r)

taken_more : (cs : List Credit) → taken_in (cs ++ credit 0 0 ∷ []) ≡ taken_in cs
taken_more [] = refl
taken_more (c ∷ cs) = let r = taken_more cs in omega (arith, r)

pub admits : Admits Balanced (credit 0 0)
admits x views h = let g = given_more views in let t = taken_more views in omega (arith, h, g, t)

pub takes : (pass : ℕ) (v : Credit) → TurnsAt Balanced pass v true false took
takes pass v views h at =
    let w = credit v.given (v.taken + 1) in
    let g = given_set views pass v (credit v.given (v.taken + 1)) at in
    let t = taken_set views pass v (credit v.given (v.taken + 1)) at in
    (credit v.given (v.taken + 1), omega (arith, h, g, t), refl)

pub gives : (pass : ℕ) (v : Credit) → Turns Balanced pass v (λ _. true) gave
gives pass v x views h at =
    let g = given_set views pass v (credit (v.given + 1) v.taken) at in
    let t = taken_set views pass v (credit (v.given + 1) v.taken) at in
    (credit (v.given + 1) v.taken, omega (arith, h, g, t), refl)
