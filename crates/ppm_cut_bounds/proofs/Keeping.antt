-- What all statements of several lists keep, and what a walk tells of it.
use Rattle.std.proofs.Common.{◌≡◌, ◌↔◌, ◌<◌, ◌≤◌, ◌+◌, ℕ, arith, List, [], ◌∷◌, ◌++◌, Result, Ok, Err, drop, length, get_or, sym, ap, subst}
use Rattle.std.specs.List.{AllByRecursion}
use Rattle.std.specs.Result.{IsErrAnd}
use Rattle.std.proofs.lemmas.Result.{err_from_is_err_and}
use Rattle.ppm_tree.specs.declared.named.Named.{Named}
use Rattle.ppm_tree.specs.declared.tree.Stmt.{Stmt}
use Rattle.ppm_tree.specs.Tree.{Expression, Statement, Block, If, While, Split, Each, statement_of, block_of}
use Rattle.ppm_tree.specs.Parts.{statement_and_inner, statements_in}
use Rattle.ppm_cut_bounds.specs.declared.bound.Bound.{Bound}
use Rattle.ppm_cut_bounds.specs.declared.stop.Stop.{Stop}
use Rattle.ppm_cut_bounds.specs.declared.stop.Stop.TheVariants as stop
use Rattle.ppm_cut_bounds.specs.Names.{caught_count}
use Rattle.ppm_cut_bounds.specs.Bounds.{KeepsAt, limit_of, count_of, hidden_count}
use Rattle.ppm_cut_bounds.specs.Catching.{Stops, Tells}
use Rattle.ppm_cut_bounds.proofs.Blocks.{block_ahead}

module _ {A : Type 0} (P : A → Type 0) where
  pub all-append : (xs ys : List A) → AllByRecursion P xs → AllByRecursion P ys → AllByRecursion P (xs ++ ys)
  all-append [] ys f g = g
  all-append (x ∷ xs) ys f g = (f.0, all-append xs ys f.1 g)

  pub all-first : (xs ys : List A) → AllByRecursion P (xs ++ ys) → AllByRecursion P xs
  all-first [] ys h = tt
  all-first (x ∷ xs) ys h = (h.0, all-first xs ys h.1)

  pub all-second : (xs ys : List A) → AllByRecursion P (xs ++ ys) → AllByRecursion P ys
  all-second [] ys h = h
  all-second (x ∷ xs) ys h = all-second xs ys h.1

-- what is told of one thing is told of another that is so exactly where it is
pub tells_same : {A : Type 0} {P Q : Type 0} (r : Result A Stop) → (P → Q) → (Q → P) → Tells r P → Tells r Q
tells_same (Ok x) f g h = f h
tells_same (Err stop.Past) f g h = λ q. h (g q)
tells_same (Err stop.NoMemory) f g h = h

-- where a part stops the walk, the whole does
pub tells_stop : {P Q : Type 0} (e : Stop) → (Q → P) → Stops e P → Stops e Q
tells_stop stop.Past g h = λ q. h (g q)
tells_stop stop.NoMemory g h = h

-- a `?` goes out with the stop of the call before it
pub exit_by : {A : Type 0} (P : Type 0) (e : Stop) (r : Result A Stop) → IsErrAnd r (λ y. y ≡ e) → Stops e P → Tells r P
exit_by P e r is h = let p = err_from_is_err_and r is in rw (p.1, p.2) h

module _ (b : Bound) where
  abbrev Kept : List Statement → Type 0
  Kept = KeepsAt b

  abbrev AtMost : Statement → Type 0
  AtMost s = count_of b s ≤ limit_of b

  -- a statement whose one block is that of no hidden procedure
  pub kept_while : (s : Statement) (e : Expression) (block : Block) → s ≡ While e block → {A : Type 0} (r : Result A Stop)
      → Tells r (Kept (statements_in block)) → Tells r (Kept (statement_and_inner s))
  kept_while s e block is r h = rw is (tells_same r (λ k. (omega arith, k)) (λ k. k.1) h)

  pub kept_split : (s : Statement) (line : ℕ) (w : Named) (e : Expression) (x y : Named) (block : Block) → s ≡ Split line w e x y block → {A : Type 0} (r : Result A Stop)
      → Tells r (Kept (statements_in block)) → Tells r (Kept (statement_and_inner s))
  kept_split s line w e x y block is r h = rw is (tells_same r (λ k. (omega arith, k)) (λ k. k.1) h)

  -- the first of two blocks passes a bound
  pub kept_if_first : (s : Statement) (e : Expression) (block other : Block) → s ≡ If e block other → (why : Stop)
      → Stops why (Kept (statements_in block)) → Stops why (Kept (statement_and_inner s))
  kept_if_first s e block other is why h =
      rw is (tells_stop why (λ k. all-first AtMost (statements_in block) (statements_in other) k.1) h)

  -- the first of two blocks keeps it, and the second decides
  pub kept_if : (s : Statement) (e : Expression) (block other : Block) → s ≡ If e block other → Kept (statements_in block) → {A : Type 0} (r : Result A Stop)
      → Tells r (Kept (statements_in other)) → Tells r (Kept (statement_and_inner s))
  kept_if s e block other is first r h =
      rw is (tells_same r (λ k. (omega arith, all-append AtMost (statements_in block) (statements_in other) first k))
      (λ k. all-second AtMost (statements_in block) (statements_in other) k.1) h)

  -- an `each` and those in its block
  pub kept_each : (s : Statement) (i x w : Named) (block : Block) → s ≡ Each i x w block
      → (Kept (statements_in block) × hidden_count b (caught_count i x block) block ≤ limit_of b) ↔ Kept (statement_and_inner s)
  kept_each s i x w block is = rw is (λ k. (k.1, k.0), λ k. (k.1, k.0))

  module _ (xs : List Stmt) (k : ℕ) (s : Stmt) (in' : k < length xs) (at : s ≡ get_or xs k s) where
    kept_ahead : statements_in (block_of (drop k xs)) ≡ statement_and_inner (statement_of s) ++ statements_in (block_of (drop (k + 1) xs))
    kept_ahead = ap statements_in (block_ahead xs k s in' at)

    -- a bound is kept where it is kept after a statement that keeps it
    pub kept_step : {P : Type 0} → Kept (statement_and_inner (statement_of s)) → (P ↔ Kept (statements_in (block_of (drop k xs))))
        → (P ↔ Kept (statements_in (block_of (drop (k + 1) xs))))
    kept_step own h = (
      λ p. all-second AtMost (statement_and_inner (statement_of s)) _ (subst Kept kept_ahead (h.0 p)),
      λ r. h.1 (subst Kept (sym kept_ahead) (all-append AtMost (statement_and_inner (statement_of s)) _ own r)),
    )

    -- it isn't kept where a statement doesn't keep it
    pub kept_stop : {P : Type 0} (why : Stop) → (P ↔ Kept (statements_in (block_of (drop k xs))))
        → Stops why (Kept (statement_and_inner (statement_of s))) → Stops why P
    kept_stop why h t = tells_stop why (λ p. all-first AtMost (statement_and_inner (statement_of s)) _ (subst Kept kept_ahead (h.0 p))) t
