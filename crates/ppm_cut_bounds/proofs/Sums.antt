-- How many capsules statements need, one after the other.
use Rattle.std.proofs.Common.{◌≡◌, ◌<◌, ◌+◌, ◌*◌, ℕ, arith, List, [], ◌∷◌, ◌++◌, map, drop, length, get_or, Option, Some, None, MatchOption, ap, ◌∙◌}
use Rattle.std.specs.List.{sum}
use Rattle.std.proofs.lemmas.List.Sums.{sum_by-append, sum_by-cons}
use Rattle.std.proofs.lemmas.List.{map-append}
use Rattle.ppm_tree.specs.declared.tree.Stmt.{Stmt}
use Rattle.ppm_tree.specs.declared.named.Named.{Named}
use Rattle.ppm_tree.specs.Tree.{Expression, Statement, Block, If, While, Split, Each, Procedure, statement_of, block_of}
use Rattle.ppm_tree.specs.Parts.{statement_and_inner, statements_in, eaches_of, gives_of}
use Rattle.ppm_cut_bounds.specs.Capsules.{weight, capsules_at, capsules_of}
use Rattle.ppm_cut_bounds.proofs.Blocks.{block_ahead}

-- the capsules of statements
abbrev pub need : List Statement → ℕ
need ss = sum (map capsules_at ss)

pub need-append : (xs ys : List Statement) → need (xs ++ ys) ≡ need xs + need ys
need-append xs ys = ap sum (map-append capsules_at xs ys) ∙ sum_by-append (λ x. x) (map capsules_at xs) (map capsules_at ys)

-- those of a block from a statement on
pub need_ahead : (xs : List Stmt) (k : ℕ) (s : Stmt) → k < length xs → s ≡ get_or xs k s
    → need (statements_in (block_of (drop k xs))) ≡ need (statement_and_inner (statement_of s)) + need (statements_in (block_of (drop (k + 1) xs)))
need_ahead xs k s in' at =
    ap (λ b. need (statements_in b)) (block_ahead xs k s in' at) ∙ need-append (statement_and_inner (statement_of s)) (statements_in (block_of (drop (k + 1) xs)))

-- four for each statement's weight, and two for each hidden procedure
need_by_weight : (ss : List Statement) → need ss ≡ 4 * sum (map weight ss) + 2 * sum (map eaches_of ss)
need_by_weight [] = omega arith
need_by_weight (s ∷ ss) =
    let h = need_by_weight ss in
    let a = sum_by-cons (λ x. x) (capsules_at s) (map capsules_at ss) in
    let b = sum_by-cons (λ x. x) (weight s) (map weight ss) in
    let c = sum_by-cons (λ x. x) (eaches_of s) (map eaches_of ss) in
    omega (arith, h, a, b, c)

-- a procedure's capsules are those of its body, four where it gives, and two
pub need_of_procedure : (p : Procedure) → capsules_of p ≡ need (statements_in p.body) + (2 + 4 * length (gives_of p.give))
need_of_procedure p = let h = need_by_weight (statements_in p.body) in omega (arith, h)

module _ (s : Statement) where
  pub need_while : (e : Expression) (block : Block) → s ≡ While e block → need (statement_and_inner s) ≡ 4 + need (statements_in block)
  need_while e block is = rw is (sum_by-cons (λ x. x) 4 (map capsules_at (statements_in block)))

  pub need_split : (line : ℕ) (r : Named) (e : Expression) (x y : Named) (block : Block) → s ≡ Split line r e x y block
      → need (statement_and_inner s) ≡ 4 + need (statements_in block)
  need_split line r e x y block is = rw is (sum_by-cons (λ x. x) 4 (map capsules_at (statements_in block)))

  pub need_each : (i x r : Named) (block : Block) → s ≡ Each i x r block → need (statement_and_inner s) ≡ 22 + need (statements_in block)
  need_each i x r block is = rw is (sum_by-cons (λ x. x) 22 (map capsules_at (statements_in block)))

  pub need_if : (e : Expression) (block other : Block) → s ≡ If e block other
      → need (statement_and_inner s) ≡ 4 + (need (statements_in block) + need (statements_in other))
  need_if e block other is =
      rw is (sum_by-cons (λ x. x) 4 (map capsules_at (statements_in block ++ statements_in other)) ∙ ap (λ n. 4 + n) (need-append (statements_in block) (statements_in other)))

-- what is left after some capsules, and after more
pub left_more : (r : Option ℕ) (own left n d m : ℕ) → own + d ≡ left → m ≡ d + n → MatchOption r (own < n) (λ rest. rest + n ≡ own)
    → MatchOption r (left < m) (λ rest. rest + m ≡ left)
left_more None own left n d m e f h = omega (arith, e, f, h)
left_more (Some rest) own left n d m e f h = omega (arith, e, f, h)
