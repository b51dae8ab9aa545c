-- In a tree within the limits all names, literals and inputs are such.
use Rattle.std.proofs.Common.{◌≤◌, List, [], ◌∷◌, ◌++◌, map, subst, arith}
use Rattle.std.specs.Prelude.{Option, Some, None}
use Rattle.std.specs.List.{AllByRecursion, flat_map, sum}
use Rattle.std.proofs.lemmas.Grind.{flat_map-append}
use Rattle.std.proofs.lemmas.List.Elements.{recursion_from_All}
use Rattle.std.proofs.lemmas.List.Sums.{sum_by-cons}
use Rattle.ppm_tree.specs.declared.named.Named.{Named}
use Rattle.ppm_tree.specs.declared.tree.Array.{Array}
use Rattle.ppm_tree.specs.declared.tree.ArrayInput.{ArrayInput}
use Rattle.ppm_tree.specs.Tree.{Expression, Argument, Side, Statement, Block, Nil, Then, Give, Procedure, ProgramTree}
use Rattle.ppm_tree.specs.Tree as tree
use Rattle.ppm_tree.specs.Parts.{nodes, nodes_of, target_names, side_names, names_of, statement_and_inner, statements_in, gives_of}
use Rattle.ppm_tree.specs.Limits.{IsNamed, IsNode, IsSmallStatement, IsSmallGive, IsSmall, IsParameter, IsArray, IsArrayInput, IsInputValue, IsWithin}
use Rattle.ppm_tree.specs.Limits.{word_limit}
use Rattle.ppm_printer.proofs.Fine.{FineExpression, FineArguments, FineTarget, FineSide, FineStatement, FineBlock, FineGive, FineProcedure}
use Rattle.ppm_printer.proofs.Fine.{FineArray, FineInput, FineProgram}

-- what holds of all holds of each part
apart : {A : Type 0} (P : A → Type 0) (xs ys : List A) → AllByRecursion P (xs ++ ys) → AllByRecursion P xs × AllByRecursion P ys
apart P [] ys h = (tt, h)
apart P (x ∷ xs) ys h = let r = apart P xs ys h.1 in ((h.0, r.0), r.1)

-- an expression
fine_expression : (e : Expression) → AllByRecursion IsNode (nodes e) → FineExpression e
fine_expression (tree.Number z) h = h.0.numbers 0 z (omega arith)
fine_expression (tree.Name x) h = h.0.names 0 x (omega arith)
fine_expression (tree.Element x index) h = (h.0.names 0 x (omega arith), fine_expression index h.1)
fine_expression (tree.Len x) h = h.0.names 0 x (omega arith)
fine_expression (tree.Minus line e) h = fine_expression e h.1
fine_expression (tree.Binary o line left right) h =
    let r = apart IsNode (nodes left) (nodes right) h.1 in (fine_expression left r.0, fine_expression right r.1)

-- arguments and calls
fine_arguments : (xs : List Argument) → AllByRecursion IsNode (flat_map nodes (map (λ a. a.value) xs)) → FineArguments xs
fine_arguments [] h = tt
fine_arguments (x ∷ xs) h =
    let r = apart IsNode (nodes x.value) (flat_map nodes (map (λ a. a.value) xs)) h in (fine_expression x.value r.0, fine_arguments xs r.1)

fine_target : (target : Option Named) → AllByRecursion IsNamed (target_names target) → FineTarget target
fine_target None h = tt
fine_target (Some x) h = h.0

fine_side : (side : Side) → AllByRecursion IsNamed (side_names side)
    → AllByRecursion IsNode (flat_map nodes (map (λ a. a.value) side.arguments)) → FineSide side
fine_side side names inner =
    let r = apart IsNamed (target_names side.target) (side.callee ∷ []) names in
    record { target = fine_target side.target r.0; callee = r.1.0; arguments = fine_arguments side.arguments inner }

-- the first of the expressions of a statement
first_of : (e : Expression) (es : List Expression) → AllByRecursion IsNode (flat_map nodes (e ∷ es))
    → FineExpression e × AllByRecursion IsNode (flat_map nodes es)
first_of e es h = let r = apart IsNode (nodes e) (flat_map nodes es) h in (fine_expression e r.0, r.1)

-- the nodes and the names of a statement
nodes_fine : (x : Statement) → IsSmallStatement x → AllByRecursion IsNode (nodes_of x)
nodes_fine x h = recursion_from_All IsNode (nodes_of x) h.nodes

names_fine : (x : Statement) → IsSmallStatement x → AllByRecursion IsNamed (names_of x)
names_fine x h = recursion_from_All IsNamed (names_of x) h.names

fine_fork : (left right : Side) → IsSmallStatement (tree.Fork left right) → FineSide left × FineSide right
fine_fork left right h =
    let n = apart IsNamed (side_names left) (side_names right) (names_fine (tree.Fork left right) h) in
    let values = λ (s : Side). map (λ a. a.value) s.arguments in
    let e = apart IsNode (flat_map nodes (values left)) (flat_map nodes (values right))
    (subst (AllByRecursion IsNode) (flat_map-append nodes (values left) (values right)) (nodes_fine (tree.Fork left right) h)) in
    (fine_side left n.0 e.0, fine_side right n.1 e.1)

mutual
  -- a statement
  fine_statement : (x : Statement) → AllByRecursion IsSmallStatement (statement_and_inner x) → FineStatement x
  fine_statement (tree.Let x e) h = ((names_fine (tree.Let x e) h.0).0, (first_of e [] (nodes_fine (tree.Let x e) h.0)).0)
  fine_statement (tree.Assign x e) h = ((names_fine (tree.Assign x e) h.0).0, (first_of e [] (nodes_fine (tree.Assign x e) h.0)).0)
  fine_statement (tree.Put x index e) h =
      let r = first_of index (e ∷ []) (nodes_fine (tree.Put x index e) h.0) in
      ((names_fine (tree.Put x index e) h.0).0, r.0, (first_of e [] r.1).0)
  fine_statement (tree.If e block other) h =
      let r = apart IsSmallStatement (statements_in block) (statements_in other) h.1 in
      ((first_of e [] (nodes_fine (tree.If e block other) h.0)).0, fine_block block r.0, fine_block other r.1)
  fine_statement (tree.While e block) h = ((first_of e [] (nodes_fine (tree.While e block) h.0)).0, fine_block block h.1)
  fine_statement (tree.Call side) h = fine_side side (names_fine (tree.Call side) h.0) (nodes_fine (tree.Call side) h.0)
  fine_statement (tree.Fork left right) h = fine_fork left right h.0
  fine_statement (tree.Split line r e x y block) h =
      let n = names_fine (tree.Split line r e x y block) h.0 in
      (n.0, (first_of e [] (nodes_fine (tree.Split line r e x y block) h.0)).0, n.1.0, n.1.1.0, fine_block block h.1)
  fine_statement (tree.Each i x r block) h =
      let n = names_fine (tree.Each i x r block) h.0 in (n.0, n.1.0, n.1.1.0, fine_block block h.1)

  -- a block
  fine_block : (b : Block) → AllByRecursion IsSmallStatement (statements_in b) → FineBlock b
  fine_block Nil h = tt
  fine_block (Then x others) h =
      let r = apart IsSmallStatement (statement_and_inner x) (statements_in others) h in (fine_statement x r.0, fine_block others r.1)

-- declarations
fine_give : (gives : Option Give) → AllByRecursion IsSmallGive (gives_of gives) → FineGive gives
fine_give None h = tt
fine_give (Some x) h = fine_expression x.value (recursion_from_All IsNode (nodes x.value) h.0.nodes)

fine_procedures : (ps : List Procedure) → AllByRecursion IsSmall ps → AllByRecursion FineProcedure ps
fine_procedures [] h = tt
fine_procedures (x ∷ ps) h = (
  record {
    name = h.0.name;
    parameters = recursion_from_All IsParameter x.parameters h.0.parameters;
    body = fine_block x.body (recursion_from_All IsSmallStatement (statements_in x.body) h.0.statements);
    give = fine_give x.give (recursion_from_All IsSmallGive (gives_of x.give) h.0.give);
  },
  fine_procedures ps h.1,
)

fine_inputs : (is : List ArrayInput) → AllByRecursion IsArrayInput is → AllByRecursion FineInput is
fine_inputs [] h = tt
fine_inputs (x ∷ is) h =
    (record { name = h.0.name; count = h.0.count; values = recursion_from_All IsInputValue x.values h.0.values }, fine_inputs is h.1)

fine_arrays : (xs : List Array) → AllByRecursion IsArray xs → sum (map (λ a. a.words) xs) ≤ word_limit → AllByRecursion FineArray xs
fine_arrays [] h most = tt
fine_arrays (x ∷ xs) h most =
    let split = sum_by-cons (λ n. n) x.words (map (λ a. a.words) xs) in
    (record { name = h.0.name; words = omega (arith, most, split) }, fine_arrays xs h.1 (omega (arith, most, split)))

-- a program
pub fine_program : (t : ProgramTree) → IsWithin t → FineProgram t
fine_program t h = record {
  arrays = fine_arrays t.arrays (recursion_from_All IsArray t.arrays h.arrays) h.words;
  procedures = fine_procedures t.procedures (recursion_from_All IsSmall t.procedures h.procedures);
  inputs = fine_inputs t.inputs (recursion_from_All IsArrayInput t.inputs h.inputs);
}
