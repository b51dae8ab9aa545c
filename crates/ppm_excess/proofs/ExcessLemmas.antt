-- A procedure keeps a bound just where nothing of it passes the bound.
use Rattle.std.proofs.Common.{◌≡◌, ◌↔◌, ◌≤◌, ℕ, arith, refl, Bool, true, false, Option, Some, None}
use Rattle.std.specs.Prelude.{nat_lt, if◌then◌else◌}
use Rattle.ppm_tree.specs.Tree.{Statement, Block, Nil, Then, Procedure}
use Rattle.ppm_tree.specs.Tree as tree
use Rattle.ppm_tree.specs.Parts.{statement_and_inner, statements_in}
use Rattle.ppm_cut_bounds.specs.declared.bound.Bound.{Bound}
use Rattle.ppm_cut_bounds.specs.Names.{caught_count}
use Rattle.ppm_cut_bounds.specs.Bounds.{Keeps, KeepsAt, limit_of, count_of, own_count, hidden_count}
use Rattle.ppm_cut_bounds.proofs.Keeping.{all-append, all-first, all-second}
use Rattle.ppm_excess.specs.declared.passing.Excess.{Excess}
use Rattle.ppm_excess.specs.declared.passing.Excess.TheVariants as excess
use Rattle.ppm_excess.specs.Excess.{excess_of, first_in, first_of, first_within, past_at, whole_past}

some_none : {e : Excess} → Some e ≡ None → ⊥
some_none h = cc

-- of two none is first just where both are missing
none_first : (a b : Option Excess) → first_of a b ≡ None → (a ≡ None) × (b ≡ None)
none_first None b h = (refl, h)
none_first (Some x) b h = absurd (some_none h)

both_none : (a b : Option Excess) → a ≡ None → b ≡ None → first_of a b ≡ None
both_none None b p q = q
both_none (Some x) b p q = absurd (some_none p)

-- nothing passes just where the count is within the limit
module _ (limit n : ℕ) (e : Excess) where
  nothing_past : n ≤ limit → (if nat_lt limit n then Some e else None) ≡ None
  nothing_past h = by (nat_lt limit n) refl
    where
      by : (t : Bool) → nat_lt limit n ≡ t → (if t then Some e else None) ≡ None
      by false k = refl
      by true k = absurd (grind (arith, h, k))

  within_limit : (if nat_lt limit n then Some e else None) ≡ None → n ≤ limit
  within_limit h = by (nat_lt limit n) refl h
    where
      by : (t : Bool) → nat_lt limit n ≡ t → (if t then Some e else None) ≡ None → n ≤ limit
      by false k j = grind (arith, k)
      by true k j = absurd (some_none j)

-- what each statement of a list is to keep
abbrev AtMost : Bound → Statement → Type 0
AtMost b s = count_of b s ≤ limit_of b

mutual
  to_within : (b : Bound) (s : Statement) → KeepsAt b (statement_and_inner s) → first_within b s ≡ None
  to_within b (tree.Let x e) h = refl
  to_within b (tree.Assign x e) h = refl
  to_within b (tree.Put x index e) h = refl
  to_within b (tree.Call s) h = refl
  to_within b (tree.Fork s t) h = refl
  to_within b (tree.If e block other) h =
      both_none (first_in b block) (first_in b other) (to_in b block (all-first (AtMost b) (statements_in block) (statements_in other) h.1))
      (to_in b other (all-second (AtMost b) (statements_in block) (statements_in other) h.1))
  to_within b (tree.While e block) h = to_in b block h.1
  to_within b (tree.Split line r e x y block) h = to_in b block h.1
  to_within b (tree.Each i x r block) h =
      both_none (past_at b i x block) (first_in b block)
      (nothing_past (limit_of b) (hidden_count b (caught_count i x block) block) (excess.Each i.line (hidden_count b (caught_count i x block) block)) h.0)
      (to_in b block h.1)

  -- where all statements of a block keep the bound, none passes it
  to_in : (b : Bound) (block : Block) → KeepsAt b (statements_in block) → first_in b block ≡ None
  to_in b Nil h = refl
  to_in b (Then s rest) h =
      both_none (first_within b s) (first_in b rest) (to_within b s (all-first (AtMost b) (statement_and_inner s) (statements_in rest) h))
      (to_in b rest (all-second (AtMost b) (statement_and_inner s) (statements_in rest) h))

mutual
  from_within : (b : Bound) (s : Statement) → first_within b s ≡ None → KeepsAt b (statement_and_inner s)
  from_within b (tree.Let x e) h = (omega arith, tt)
  from_within b (tree.Assign x e) h = (omega arith, tt)
  from_within b (tree.Put x index e) h = (omega arith, tt)
  from_within b (tree.Call s) h = (omega arith, tt)
  from_within b (tree.Fork s t) h = (omega arith, tt)
  from_within b (tree.If e block other) h =
      let n = none_first (first_in b block) (first_in b other) h in
      (omega arith, all-append (AtMost b) (statements_in block) (statements_in other) (from_in b block n.0) (from_in b other n.1))
  from_within b (tree.While e block) h = (omega arith, from_in b block h)
  from_within b (tree.Split line r e x y block) h = (omega arith, from_in b block h)
  from_within b (tree.Each i x r block) h =
      let n = none_first (past_at b i x block) (first_in b block) h in (
        within_limit (limit_of b) (hidden_count b (caught_count i x block) block) (excess.Each i.line (hidden_count b (caught_count i x block) block)) n.0,
        from_in b block n.1,
      )

  -- where none of a block passes the bound, all its statements keep it
  from_in : (b : Bound) (block : Block) → first_in b block ≡ None → KeepsAt b (statements_in block)
  from_in b Nil h = tt
  from_in b (Then s rest) h =
      let n = none_first (first_within b s) (first_in b rest) h in
      all-append (AtMost b) (statement_and_inner s) (statements_in rest) (from_within b s n.0) (from_in b rest n.1)

-- a procedure keeps a bound just where nothing of it passes
pub keeps_none : (b : Bound) (p : Procedure) → (excess_of b p ≡ None) ↔ Keeps b p
keeps_none b p = (
  λ h. let n = none_first (whole_past b (own_count b p)) (first_in b p.body) h in
      record { own = within_limit (limit_of b) (own_count b p) (excess.Whole (own_count b p)) n.0; hidden = from_in b p.body n.1 },
  λ k. both_none (whole_past b (own_count b p)) (first_in b p.body)
      (nothing_past (limit_of b) (own_count b p) (excess.Whole (own_count b p)) k.own) (to_in b p.body k.hidden),
)
