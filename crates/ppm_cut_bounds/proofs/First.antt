-- The first procedure that doesn't keep a bound.
use Rattle.std.proofs.Common.{◌≡◌, ◌<◌, ◌≤◌, ◌+◌, ℕ, suc, arith, List, [], ◌∷◌, map, drop, length, get_or, sym, ap, subst}
use Rattle.std.specs.List.{AllByRecursion, sum}
use Rattle.std.proofs.lemmas.List.Sums.{sum_by-cons}
use Rattle.ppm_tree.specs.declared.tree.Proc.{Proc}
use Rattle.ppm_tree.specs.Tree.{Procedure, procedure_of}
use Rattle.ppm_tree.specs.Limits.{procedures_in}
use Rattle.ppm_cut_bounds.specs.declared.bound.Bound.{Bound}
use Rattle.ppm_cut_bounds.specs.Bounds.{Keeps}
use Rattle.ppm_cut_bounds.specs.Refusals.{IsFirstPast, Here, Behind}
use Rattle.ppm_cut_bounds.proofs.Blocks.{ahead}

-- there are no more procedures than are counted with their hidden ones
pub few_procedures : (ps : List Proc) → length ps ≤ sum (map procedures_in (map procedure_of ps))
few_procedures [] = omega arith
few_procedures (p ∷ ps) =
    let h = few_procedures ps in
    let c = sum_by-cons (λ x. x) (procedures_in (procedure_of p)) (map procedures_in (map procedure_of ps)) in
    omega (arith, h, c)

module _ (b : Bound) (xs : List Proc) (k : ℕ) (p : Proc) (in' : k < length xs) (at : p ≡ get_or xs k p) (all : List Procedure) where
  procedures_ahead : map procedure_of (drop k xs) ≡ procedure_of p ∷ map procedure_of (drop (k + 1) xs)
  procedures_ahead = ap (map procedure_of) (ahead xs k p in' at)

  -- those so far keep the bound, and this one doesn't
  pub first_here : (Keeps b (procedure_of p) → ⊥) → ((n : ℕ) → IsFirstPast b (map procedure_of (drop k xs)) n → IsFirstPast b all (k + n)) → IsFirstPast b all k
  first_here no_more before =
      let same : k + 0 ≡ k = omega arith in
      subst (IsFirstPast b all) same (before 0 (subst (λ l. IsFirstPast b l 0) (sym procedures_ahead) (Here no_more)))

  -- one more keeps it
  pub first_later : Keeps b (procedure_of p) → ((n : ℕ) → IsFirstPast b (map procedure_of (drop k xs)) n → IsFirstPast b all (k + n))
      → (n : ℕ) → IsFirstPast b (map procedure_of (drop (k + 1) xs)) n → IsFirstPast b all (k + 1 + n)
  first_later kept before n first =
      let same : k + suc n ≡ k + 1 + n = omega arith in
      subst (IsFirstPast b all) same (before (suc n) (subst (λ l. IsFirstPast b l (suc n)) (sym procedures_ahead) (Behind kept first)))

  pub all_later : Keeps b (procedure_of p) → (AllByRecursion (Keeps b) (map procedure_of (drop k xs)) → AllByRecursion (Keeps b) all)
      → AllByRecursion (Keeps b) (map procedure_of (drop (k + 1) xs)) → AllByRecursion (Keeps b) all
  all_later kept before rest = before (subst (AllByRecursion (Keeps b)) (sym procedures_ahead) (kept, rest))
