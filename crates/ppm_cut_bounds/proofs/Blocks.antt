-- What is left of a block after some of its statements.
use Rattle.std.proofs.Common.{◌≡◌, ◌<◌, ◌+◌, ℕ, suc, arith, List, ◌∷◌, drop, length, get_or, drop-cons, sym, ap, ◌∙◌}
use Rattle.ppm_tree.specs.declared.tree.Stmt.{Stmt}
use Rattle.ppm_tree.specs.Tree.{Then, statement_of, block_of}

-- what a loop has still to come to, from an element on
pub ahead : {A : Type 0} (xs : List A) (k : ℕ) (x : A) → k < length xs → x ≡ get_or xs k x → drop k xs ≡ x ∷ drop (k + 1) xs
ahead xs k x in' at =
    let next : suc k ≡ k + 1 = omega arith in
    drop-cons xs k x in' ∙ ap (λ y. y ∷ drop (suc k) xs) (sym at) ∙ ap (λ n. x ∷ drop n xs) next

-- the block that a loop has still to come to, from a statement on
pub block_ahead : (xs : List Stmt) (k : ℕ) (s : Stmt) → k < length xs → s ≡ get_or xs k s
    → block_of (drop k xs) ≡ Then (statement_of s) (block_of (drop (k + 1) xs))
block_ahead xs k s in' at = ap block_of (ahead xs k s in' at)
