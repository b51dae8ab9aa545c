-- Within the limits and the bounds each procedure is short and small, and what is counted along the tree is bounded.
use Rattle.std.proofs.Common.{◌≤◌, ◌+◌, List, [], ◌∷◌, ◌++◌, map, length, Option, Some, None, sym, subst, arith, length-append}
use Rattle.std.specs.List.{All, AllByRecursion, sum, flat_map}
use Rattle.std.proofs.lemmas.List.{append-nil}
use Rattle.std.proofs.lemmas.List.Elements.{All-head, All-tail, recursion_from_All}
use Rattle.std.proofs.lemmas.List.Sums.{sum_by-cons}
use Rattle.ppm_tree.specs.declared.tree.Proc.{Proc}
use Rattle.ppm_tree.specs.declared.tree.Tree.{Tree}
use Rattle.ppm_tree.specs.Tree.{Expression, Argument, Side, Statement, Block, Nil, Then, Give, Procedure, ProgramTree, procedure_of, tree_of}
use Rattle.ppm_tree.specs.Tree as tree
use Rattle.ppm_tree.specs.Parts.{nodes, statement_and_inner, statements_in, gives_of}
use Rattle.ppm_tree.specs.Limits.{IsSmallSide, IsSmallStatement, IsSmallGive, IsSmall, IsWithin, procedures_in, node_limit}
use Rattle.ppm_cut_bounds.specs.Capsules.{capsules_at, capsules_of}
use Rattle.ppm_cut_bounds.specs.Bounds.{IsWithinBounds}
use Rattle.ppm_cut_bounds.proofs.Keeping.{all-first, all-second}
use Rattle.ppm_cut_bounds.proofs.Sums.{need, need-append, need_of_procedure}
use Rattle.ppm_cut_code.specs.Expressions.{size_of}
use Rattle.ppm_cut_code.proofs.SizeLemmas.{size_at_most}
use Rattle.ppm_cut.specs.Counts.{size_limit, own_count, own_count_in, hidden_count, hidden_count_in, own_counts, hidden_counts}
use Rattle.ppm_cut.specs.Counts.{IsShortSide, IsShort, IsShortBlock, IsShortGive, IsShortProcedure, IsSmallProcedure}

-- an expression of few nodes is short
short_expression : (e : Expression) → length (nodes e) ≤ node_limit → size_of e ≤ size_limit
short_expression e h = let s = size_at_most e in omega (arith, h, s)

-- one that stands first among those of a statement, and one after it
short_first : (e : Expression) (es : List Expression) → length (flat_map nodes (e ∷ es)) ≤ node_limit → size_of e ≤ size_limit
short_first e es h = let n = length-append (nodes e) (flat_map nodes es) in let s = size_at_most e in omega (arith, h, n, s)

fewer : (e : Expression) (es : List Expression) → length (flat_map nodes (e ∷ es)) ≤ node_limit → length (flat_map nodes es) ≤ node_limit
fewer e es h = let n = length-append (nodes e) (flat_map nodes es) in omega (arith, h, n)

-- the arguments of a side, and of two
short_arguments : (xs : List Argument) (es : List Expression) → length (flat_map nodes (map (λ a. a.value) xs ++ es)) ≤ node_limit
    → AllByRecursion (λ a. size_of a.value ≤ size_limit) xs
short_arguments [] es h = tt
short_arguments (a ∷ xs) es h =
    let rest = map (λ a. a.value) xs ++ es in
    (short_first a.value rest h, short_arguments xs es (fewer a.value rest h))

later_fewer : (xs : List Argument) (es : List Expression) → length (flat_map nodes (map (λ a. a.value) xs ++ es)) ≤ node_limit
    → length (flat_map nodes es) ≤ node_limit
later_fewer [] es h = h
later_fewer (a ∷ xs) es h = later_fewer xs es (fewer a.value (map (λ a. a.value) xs ++ es) h)

short_side : (s : Side) (es : List Expression) → IsSmallSide s → length (flat_map nodes (map (λ a. a.value) s.arguments ++ es)) ≤ node_limit
    → IsShortSide s
short_side s es small h = record { few = small.arguments; each = short_arguments s.arguments es h }

side_last : (s : Side) → IsSmallSide s → length (flat_map nodes (map (λ a. a.value) s.arguments)) ≤ node_limit → IsShortSide s
side_last s small h =
    short_side s [] small (subst (λ es. length (flat_map nodes es) ≤ node_limit) (sym (append-nil (map (λ a. a.value) s.arguments))) h)

short_call : (s : Side) → IsSmallStatement (tree.Call s) → IsShortSide s
short_call s h = side_last s (All-head IsSmallSide s [] h.sides) h.count

short_fork : (s t : Side) → IsSmallStatement (tree.Fork s t) → IsShortSide s × IsShortSide t
short_fork s t h =
    let second = map (λ a. a.value) t.arguments in
    let left = All-head IsSmallSide s (t ∷ []) h.sides in
    let right = All-head IsSmallSide t [] (All-tail IsSmallSide s (t ∷ []) h.sides) in
    (short_side s second left h.count, side_last t right (later_fewer s.arguments second h.count))

-- the statements of a block are short where each of all those in it is small
mutual
  short_statement : (s : Statement) → AllByRecursion IsSmallStatement (statement_and_inner s) → IsShort s
  short_statement (tree.Let x e) h = short_first e [] h.0.count
  short_statement (tree.Assign x e) h = short_first e [] h.0.count
  short_statement (tree.Put x index e) h = (short_first index (e ∷ []) h.0.count, short_first e [] (fewer index (e ∷ []) h.0.count))
  short_statement (tree.If e holds other) h =
      let first = all-first IsSmallStatement (statements_in holds) (statements_in other) h.1 in
      let second = all-second IsSmallStatement (statements_in holds) (statements_in other) h.1 in
      (short_first e [] h.0.count, short_block holds first, short_block other second)
  short_statement (tree.While e block) h = (short_first e [] h.0.count, short_block block h.1)
  short_statement (tree.Call s) h = short_call s h.0
  short_statement (tree.Fork s t) h = short_fork s t h.0
  short_statement (tree.Split line r e x y block) h = (short_first e [] h.0.count, short_block block h.1)
  short_statement (tree.Each i x r block) h = short_block block h.1

  short_block : (b : Block) → AllByRecursion IsSmallStatement (statements_in b) → IsShortBlock b
  short_block Nil h = tt
  short_block (Then s rest) h =
      let first = all-first IsSmallStatement (statement_and_inner s) (statements_in rest) h in
      let second = all-second IsSmallStatement (statement_and_inner s) (statements_in rest) h in
      (short_statement s first, short_block rest second)

short_give : (g : Option Give) → All IsSmallGive (gives_of g) → IsShortGive g
short_give None h = tt
short_give (Some g) h = let small = All-head IsSmallGive g [] h in short_expression g.value small.count

short_procedure : (p : Procedure) → IsSmall p → IsShortProcedure p
short_procedure p h = record {
  parameters = h.count;
  body = short_block p.body (recursion_from_All IsSmallStatement (statements_in p.body) h.statements);
  give = short_give p.give h.give;
}

-- what holds of each of some procedures, declared ones after them
of_declared : (P Q : Procedure → Type 0) → ((p : Procedure) → P p → Q p) → (ps : List Proc) → AllByRecursion P (map procedure_of ps)
    → AllByRecursion (λ p. Q (procedure_of p)) ps
of_declared P Q f [] h = tt
of_declared P Q f (p ∷ ps) h = (f (procedure_of p) h.0, of_declared P Q f ps h.1)

pub short_procedures : (t : Tree) → IsWithin (tree_of t) → AllByRecursion (λ p. IsShortProcedure (procedure_of p)) t.procedures
short_procedures t within =
    let small = recursion_from_All IsSmall (map procedure_of t.procedures) within.procedures in
    of_declared IsSmall IsShortProcedure short_procedure t.procedures small

-- what is counted along a statement is no more than the capsules that it needs
mutual
  counts_at_most : (s : Statement) → own_count s + hidden_count s ≤ need (statement_and_inner s)
  counts_at_most (tree.Let x e) = omega arith
  counts_at_most (tree.Assign x e) = omega arith
  counts_at_most (tree.Put x index e) = omega arith
  counts_at_most (tree.If e holds other) =
      let a = counts_in_at_most holds in
      let b = counts_in_at_most other in
      let c = sum_by-cons (λ x. x) 4 (map capsules_at (statements_in holds ++ statements_in other)) in
      let d = need-append (statements_in holds) (statements_in other) in
      omega (arith, a, b, c, d)
  counts_at_most (tree.While e block) =
      let a = counts_in_at_most block in
      let c = sum_by-cons (λ x. x) 4 (map capsules_at (statements_in block)) in
      omega (arith, a, c)
  counts_at_most (tree.Call s) = omega arith
  counts_at_most (tree.Fork s t) = omega arith
  counts_at_most (tree.Split line r e x y block) =
      let a = counts_in_at_most block in
      let c = sum_by-cons (λ x. x) 4 (map capsules_at (statements_in block)) in
      omega (arith, a, c)
  counts_at_most (tree.Each i x r block) =
      let a = counts_in_at_most block in
      let c = sum_by-cons (λ x. x) 22 (map capsules_at (statements_in block)) in
      omega (arith, a, c)

  counts_in_at_most : (b : Block) → own_count_in b + hidden_count_in b ≤ need (statements_in b)
  counts_in_at_most Nil = omega arith
  counts_in_at_most (Then s rest) =
      let a = counts_at_most s in
      let b = counts_in_at_most rest in
      let d = need-append (statement_and_inner s) (statements_in rest) in
      omega (arith, a, b, d)

counts_of_procedures : (ps : List Procedure) → own_counts ps + hidden_counts ps ≤ sum (map capsules_of ps)
counts_of_procedures [] = omega arith
counts_of_procedures (p ∷ ps) =
    let h = counts_of_procedures ps in
    let a = counts_in_at_most p.body in
    let n = need_of_procedure p in
    let c = sum_by-cons (λ x. x) (capsules_of p) (map capsules_of ps) in
    omega (arith, h, a, n, c)

pub few_counts : (t : ProgramTree) → IsWithinBounds t → own_counts t.procedures + hidden_counts t.procedures ≤ 65535
few_counts t bounds = let h = counts_of_procedures t.procedures in let c = bounds.capsules in omega (arith, h, c)

-- no procedure counts more than all of them
small_each : (ps : List Procedure) → AllByRecursion IsSmall ps → own_counts ps ≤ 65535 → AllByRecursion IsSmallProcedure ps
small_each [] small h = tt
small_each (p ∷ ps) small h =
    let own : own_count_in p.body ≤ 65535 = omega (arith, h) in
    let rest : own_counts ps ≤ 65535 = omega (arith, h) in
    (record { parameters = small.0.count; counts = own }, small_each ps small.1 rest)

pub small_procedures : (t : Tree) → IsWithin (tree_of t) → IsWithinBounds (tree_of t)
    → AllByRecursion (λ p. IsSmallProcedure (procedure_of p)) t.procedures
small_procedures t within bounds =
    let ps = map procedure_of t.procedures in
    let few = few_counts (tree_of t) bounds in
    let own : own_counts ps ≤ 65535 = omega (arith, few) in
    let all = small_each ps (recursion_from_All IsSmall ps within.procedures) own in
    of_declared IsSmallProcedure IsSmallProcedure (λ p h. h) t.procedures all

pub few_arrays : (t : ProgramTree) → IsWithin t → length t.arrays ≤ 64
few_arrays t within = within.array_count

-- each procedure counts as one at least
procedures_at_least : (ps : List Procedure) → length ps ≤ sum (map procedures_in ps)
procedures_at_least [] = omega arith
procedures_at_least (p ∷ ps) =
    let h = procedures_at_least ps in
    let c = sum_by-cons (λ x. x) (procedures_in p) (map procedures_in ps) in
    omega (arith, h, c)

pub few_procedures : (t : ProgramTree) → IsWithin t → length t.procedures ≤ 1024
few_procedures t within = let h = procedures_at_least t.procedures in let c = within.procedure_count in omega (arith, h, c)
