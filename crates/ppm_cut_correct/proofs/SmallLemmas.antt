-- The nodes of a statement's expressions are small.
use Rattle.std.proofs.Common.{◌≡◌, ℕ, List, [], ◌++◌, map, ap, ap₂, ◌∙◌, subst, append-nil}
use Rattle.std.proofs.lemmas.List.Folds.{flat_map-map}
use Rattle.std.proofs.lemmas.Grind.{flat_map-append}
use Rattle.ppm_tree.specs.declared.named.Named.{Named}
use Rattle.ppm_tree.specs.Tree.{Expression, Argument, Side, Statement, Block, Let, Assign, Put, If, While, Split}
use Rattle.ppm_tree.specs.Tree as tree
use Rattle.ppm_tree.specs.Limits.{IsSmallStatement}
use Rattle.ppm_tree.specs.Parts.{nodes, nodes_of}
use Rattle.ppm_cut_correct.proofs.Doing.{AreSmall, argument_nodes}

small_nodes : (s : Statement) → IsSmallStatement s → AreSmall (nodes_of s)
small_nodes s h = record { count = h.count; each = h.nodes }

one : (e : Expression) → nodes e ++ [] ≡ nodes e
one e = append-nil (nodes e)

pub small_let : (x : Named) (e : Expression) → IsSmallStatement (Let x e) → AreSmall (nodes e)
small_let x e h = subst AreSmall (one e) (small_nodes (Let x e) h)

pub small_assign : (x : Named) (e : Expression) → IsSmallStatement (Assign x e) → AreSmall (nodes e)
small_assign x e h = subst AreSmall (one e) (small_nodes (Assign x e) h)

pub small_put : (x : Named) (i e : Expression) → IsSmallStatement (Put x i e) → AreSmall (nodes i ++ nodes e)
small_put x i e h = subst AreSmall (ap (λ (es : List Expression). nodes i ++ es) (one e)) (small_nodes (Put x i e) h)

pub small_if : (e : Expression) (s t : Block) → IsSmallStatement (If e s t) → AreSmall (nodes e)
small_if e s t h = subst AreSmall (one e) (small_nodes (If e s t) h)

pub small_while : (e : Expression) (s : Block) → IsSmallStatement (While e s) → AreSmall (nodes e)
small_while e s h = subst AreSmall (one e) (small_nodes (While e s) h)

pub small_split : (line : ℕ) (r : Named) (e : Expression) (x y : Named) (s : Block) → IsSmallStatement (Split line r e x y s) → AreSmall (nodes e)
small_split line r e x y s h = subst AreSmall (one e) (small_nodes (Split line r e x y s) h)

pub small_call : (s : Side) → IsSmallStatement (tree.Call s) → AreSmall (argument_nodes s.arguments)
small_call s h = subst AreSmall (flat_map-map nodes (λ (a : Argument). a.value) s.arguments) (small_nodes (tree.Call s) h)

pub small_fork : (s u : Side) → IsSmallStatement (tree.Fork s u) → AreSmall (argument_nodes s.arguments ++ argument_nodes u.arguments)
small_fork s u h = subst AreSmall
    (flat_map-append nodes (map (λ (a : Argument). a.value) s.arguments) (map (λ (a : Argument). a.value) u.arguments)
    ∙ ap₂ (λ (xs ys : List Expression). xs ++ ys) (flat_map-map nodes (λ (a : Argument). a.value) s.arguments)
    (flat_map-map nodes (λ (a : Argument). a.value) u.arguments))
    (small_nodes (tree.Fork s u) h)
