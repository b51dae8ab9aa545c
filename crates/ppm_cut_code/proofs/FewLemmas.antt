-- Each procedure of the code has few capsules.
use Rattle.std.proofs.Common.{◌≡◌, ◌≢◌, ◌≤◌, ◌<◌, ◌+◌, ◌*◌, ℕ, zero, suc, List, [], ◌∷◌, ◌++◌, None, IfSome, slice_get, length, map}
use Rattle.std.specs.Prelude.{◌==◌}
use Rattle.std.specs.List.{filter}
use Rattle.std.proofs.Common.{refl, ap, ◌∙◌, subst, arith, length-append}
use Rattle.std.proofs.lemmas.Bool.{eq-eqb, ne_eqb}
use Rattle.std.proofs.lemmas.List.Elements.{filter-append}
use Rattle.ppm_code.specs.declared.code.Capsule.{Capsule}
use Rattle.ppm_tree.specs.Tree.{Statement, Block, Nil, Then, Procedure}
use Rattle.ppm_tree.specs.Tree as tree
use Rattle.ppm_cut_code.specs.Layout.{Layout, parameter_layout}
use Rattle.ppm_cut_code.specs.Numbers.{behind, end_of, hidden_behind, hidden_behind_block, element_block}
use Rattle.ppm_cut_code.specs.Slots.{named_slots, hidden_named_slots}
use Rattle.ppm_cut_code.specs.Statements.{Instrs, Last, OnTo, Gives, with_lets, with_parts, statement_code, block_code}
use Rattle.ppm_cut_code.specs.Routines.{Routine, OfText, Hidden, sweep_layout, routines_of, routine_behind, routine_code, capsules_from}
use Rattle.ppm_cut_code.specs.Counts.{own_statements, block_statements, most_capsules, capsules_among}
use Rattle.ppm_cut_code.specs.Correct.{FewCapsules}

-- capsules of one procedure
abbrev own : (q : ℕ) → List Instrs → List Capsule
own q capsules = map (λ is. record { procedure = q; instrs = is }) capsules

own_all : (q : ℕ) (capsules : List Instrs) → capsules_among q (own q capsules) ≡ length capsules
own_all q [] = refl
own_all q (is ∷ capsules) = rw (eq-eqb q q refl) (ap (λ n. suc n) (own_all q capsules))

own_none : (m q : ℕ) → q ≢ m → (capsules : List Instrs) → capsules_among m (own q capsules) ≡ 0
own_none m q apart [] = refl
own_none m q apart (is ∷ capsules) = rw (ne_eqb q m apart) (own_none m q apart capsules)

among-append : (m : ℕ) (xs ys : List Capsule) → capsules_among m (xs ++ ys) ≡ capsules_among m xs + capsules_among m ys
among-append m xs ys =
    ap length (filter-append (λ (c : Capsule). c.procedure == m) xs ys)
    ∙ length-append (filter (λ (c : Capsule). c.procedure == m) xs) (filter (λ (c : Capsule). c.procedure == m) ys)

module _ (procedures : List Procedure) where
  mutual
    statement_few : (spare : ℕ) (layout : Layout) (at h : ℕ) (s : Statement)
        → length (statement_code procedures spare layout at h s) ≤ 4 * own_statements s
    statement_few spare layout at h (tree.Let x e) = omega arith
    statement_few spare layout at h (tree.Assign x e) = omega arith
    statement_few spare layout at h (tree.Put x index e) = omega arith
    statement_few spare layout at h (tree.If e holds other) =
        let first = suc (end_of holds (suc at)) in
        let next = suc (end_of other first) in
        let xs = block_code procedures spare layout (suc at) h (OnTo next) holds in
        let ys = block_code procedures spare layout first (hidden_behind_block holds h) (OnTo next) other in
        let l = length-append xs ys in
        let a = block_few spare layout (suc at) h (OnTo next) holds in
        let b = block_few spare layout first (hidden_behind_block holds h) (OnTo next) other in
        omega (arith, l, a, b)
    statement_few spare layout at h (tree.While e block) = let a = block_few spare layout (suc at) h (OnTo at) block in omega (arith, a)
    statement_few spare layout at h (tree.Call s) = omega arith
    statement_few spare layout at h (tree.Fork s t) = omega arith
    statement_few spare layout at h (tree.Split line r e x y block) =
        let a = block_few spare (with_parts layout x y) (suc at) h (OnTo (suc (end_of block (suc at)))) block in omega (arith, a)
    statement_few spare layout at h (tree.Each i x r block) = omega arith

    -- a block has one capsule more, with which it ends
    block_few : (spare : ℕ) (layout : Layout) (at h : ℕ) (last : Last) (b : Block)
        → length (block_code procedures spare layout at h last b) ≤ 4 * block_statements b + 1
    block_few spare layout at h last Nil = omega arith
    block_few spare layout at h last (Then s rest) =
        let front = statement_code procedures spare layout at h s in
        let l = length-append front (block_code procedures spare (with_lets layout s) (behind s at) (hidden_behind s h) last rest) in
        let a = statement_few spare layout at h s in
        let b = block_few spare (with_lets layout s) (behind s at) (hidden_behind s h) last rest in
        omega (arith, l, a, b)

  routine_few : (at : ℕ) (r : Routine) → length (routine_code procedures at r) ≤ most_capsules r
  routine_few at (OfText p h) = let a = block_few (named_slots p) (parameter_layout p.parameters) at h (Gives p.give) p.body in omega (arith, a)
  routine_few at (Hidden s) =
      let spare = hidden_named_slots (length s.names) s.block in
      let a = block_few spare (sweep_layout s) (element_block at) (suc s.number) (Gives None) s.block in
      omega (arith, a)

  -- no capsule of a procedure stands among those of the procedures after it
  later_none : (m q at : ℕ) → m < q → (rs : List Routine) → capsules_among m (capsules_from procedures q at rs) ≡ 0
  later_none m q at h [] = refl
  later_none m q at h (r ∷ rs) =
      let a = among-append m (own q (routine_code procedures at r)) (capsules_from procedures (suc q) (routine_behind r at) rs) in
      let b = own_none m q (λ e. omega (arith, h, e)) (routine_code procedures at r) in
      let c = later_none m (suc q) (routine_behind r at) (omega (arith, h)) rs in
      omega (arith, a, b, c)

  few_from : (rs : List Routine) (q at n : ℕ)
      → IfSome (slice_get rs n) (λ r. capsules_among (n + q) (capsules_from procedures q at rs) ≤ most_capsules r)
  few_from [] q at n = tt
  few_from (r ∷ rs) q at zero =
      let code = routine_code procedures at r in
      let more = capsules_from procedures (suc q) (routine_behind r at) rs in
      let e : q ≡ 0 + q = omega arith in
      let a = among-append q (own q code) more in
      let b = own_all q code in
      let c = later_none q (suc q) (routine_behind r at) (omega arith) rs in
      let d = routine_few at r in
      subst (λ (k : ℕ). capsules_among k (capsules_from procedures q at (r ∷ rs)) ≤ most_capsules r) e (omega (arith, a, b, c, d))
  few_from (r ∷ rs) q at (suc n) =
      let code = routine_code procedures at r in
      let more = capsules_from procedures (suc q) (routine_behind r at) rs in
      let e : n + suc q ≡ suc n + q = omega arith in
      let a = among-append (n + suc q) (own q code) more in
      let b = own_none (n + suc q) q (λ e. omega (arith, e)) code in
      let same : capsules_among (n + suc q) more ≡ capsules_among (n + suc q) (capsules_from procedures q at (r ∷ rs)) = omega (arith, a, b) in
      subst (λ (k : ℕ). IfSome (slice_get rs n) (λ s. capsules_among k (capsules_from procedures q at (r ∷ rs)) ≤ most_capsules s)) e
      (subst (λ (k : ℕ). IfSome (slice_get rs n) (λ s. k ≤ most_capsules s)) same (few_from rs (suc q) (routine_behind r at) n))

pub few_capsules : FewCapsules
few_capsules t q =
    let e : q + 0 ≡ q = omega arith in
    subst (λ (k : ℕ). IfSome (slice_get (routines_of t.procedures) q)
    (λ r. capsules_among k (capsules_from t.procedures 0 0 (routines_of t.procedures)) ≤ most_capsules r)) e
    (few_from t.procedures (routines_of t.procedures) 0 0 q)
