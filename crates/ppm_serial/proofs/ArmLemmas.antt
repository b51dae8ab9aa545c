-- Statements that hold vectors of statements, as trees.
use Rattle.std.proofs.Common.{◌≡◌, ◌<◌, ◌≤◌, ◌+◌, ℕ, zero, suc, Vec, Global, rules, refl, sym, ap, subst, arith, ◌∙◌, List, [], ◌∷◌, ◌++◌, Result, Ok, Err, length, drop, get_or, IfOk}
use Rattle.std.specs.Prelude.{OnOk}
use Rattle.ppm_words.specs.declared.no_memory.NoMemory.{NoMemory}
use Rattle.ppm_tree.specs.declared.named.Named.{Named}
use Rattle.ppm_tree.specs.declared.tree.Expr.{Expr}
use Rattle.ppm_tree.specs.declared.tree.Stmt.{Stmt}
use Rattle.ppm_tree.specs.declared.tree.Stmt as declared
use Rattle.ppm_tree.specs.declared.tree.Stmt.TheViews.{the_lemmas}
use Rattle.ppm_tree.specs.Tree.{expression_of, statement_of, block_of, Procedure, Statement, Block, Nil, Then, If, While, Split}
use Rattle.ppm_tree.specs.Tree as tree
use Rattle.ppm_serial.specs.declared.code.Step.{Step}
use Rattle.ppm_serial.specs.Names.{Slotted}
use Rattle.ppm_serial.specs.Laying.{LaysStep, LaysBlock, LaysSome, Sets}
use Rattle.ppm_serial.proofs.ProgramLemmas.{lays_let, lays_assign, lays_all}
use Rattle.ppm_serial.proofs.TreeLemmas.{row_is}

pub if_is : (e : Expr) (v w : Vec Stmt Global) → statement_of (declared.If e v w) ≡ If (expression_of e) (block_of v.items) (block_of w.items)
if_is e v w = search (rules, the_lemmas, row_is)

pub while_is : (e : Expr) (v : Vec Stmt Global) → statement_of (declared.While e v) ≡ While (expression_of e) (block_of v.items)
while_is e v = search (rules, the_lemmas, row_is)

pub split_is : (line : ℕ) (r : Named) (e : Expr) (x y : Named) (v : Vec Stmt Global) → statement_of (declared.Split line r e x y v) ≡ Split line r (expression_of e) x y (block_of v.items)
split_is line r e x y v = search (rules, the_lemmas, row_is)

pub each_is : (i x r : Named) (v : Vec Stmt Global) → statement_of (declared.Each i x r v) ≡ tree.Each i x r (block_of v.items)
each_is i x r v = search (rules, the_lemmas, row_is)

-- a declared statement is laid out as its tree is
pub as_declared : {procedures : List Procedure} {n : Slotted} {s d : Stmt} {t : Statement} {old new : List (List Step)} {st : Step} → s ≡ d → statement_of d ≡ t
    → LaysStep procedures n t old new st → LaysStep procedures n (statement_of s) old new st
as_declared {procedures = procedures} {n = n} {old = old} {new = new} {st = st} e f l =
    subst (λ (t : Statement). LaysStep procedures n t old new st) (sym (ap statement_of e ∙ f)) l

pub let_all : (procedures : List Procedure) (n : Slotted) (s : Stmt) (x : Named) (e : Expr) (old : List (List Step)) (r : Result Step NoMemory) → s ≡ declared.Let x e
    → IfOk r (λ st. Sets n x.name (expression_of e) st) → IfOk r (λ st. LaysStep procedures n (statement_of s) old old st)
let_all procedures n s x e old (Ok st) i h = as_declared i refl (lays_let procedures n x (expression_of e) old st h)
let_all procedures n s x e old (Err y) i h = tt

pub assign_all : (procedures : List Procedure) (n : Slotted) (s : Stmt) (x : Named) (e : Expr) (old : List (List Step)) (r : Result Step NoMemory) → s ≡ declared.Assign x e
    → IfOk r (λ st. Sets n x.name (expression_of e) st) → IfOk r (λ st. LaysStep procedures n (statement_of s) old old st)
assign_all procedures n s x e old (Ok st) i h = as_declared i refl (lays_assign procedures n x (expression_of e) old st h)
assign_all procedures n s x e old (Err y) i h = tt

-- the statements from a place on
pub next_is : (xs : List Stmt) (i : ℕ) (x : Stmt) → i < length xs → x ≡ get_or xs i x → block_of (drop i xs) ≡ Then (statement_of x) (block_of (drop (i + 1) xs))
next_is xs i x l e = subst (λ (j : ℕ). block_of (drop i xs) ≡ Then (statement_of x) (block_of (drop j xs))) (let j : suc i ≡ i + 1 = omega arith in j) (go xs i l e)
  where
    go : (xs : List Stmt) (i : ℕ) → i < length xs → x ≡ get_or xs i x → block_of (drop i xs) ≡ Then (statement_of x) (block_of (drop (suc i) xs))
    go [] i l e = absurd (omega (arith, l))
    go (y ∷ xs) zero l e = ap (λ (y : Stmt). Then (statement_of y) (block_of xs)) (sym e)
    go (y ∷ xs) (suc i) l e = go xs i (omega (arith, l)) e

pub none_left : (xs : List Stmt) (i : ℕ) → length xs ≤ i → block_of (drop i xs) ≡ Nil
none_left [] zero l = refl
none_left [] (suc i) l = refl
none_left (y ∷ xs) zero l = absurd (omega (arith, l))
none_left (y ∷ xs) (suc i) l = none_left xs i (omega (arith, l))

pub block_all : (procedures : List Procedure) (n : Slotted) (b left : Block) (old mid new : List (List Step)) (steps : List Step) (r : Result ℕ NoMemory) → left ≡ Nil
    → LaysSome procedures n b left old mid steps → OnOk r (new ≡ mid ++ steps ∷ []) → IfOk r (λ place. place ≡ length mid) → IfOk r (λ place. LaysBlock procedures n b old new place)
block_all procedures n b left old mid new steps (Ok place) e some is at =
    lays_all procedures n b old mid new steps place (subst (λ (left : Block). LaysSome procedures n b left old mid steps) e some) is at
block_all procedures n b left old mid new steps (Err y) e some is at = tt
