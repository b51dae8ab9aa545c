-- The tokens of a tree whose names and numbers are such have the form of tokens.
use Rattle.std.proofs.Common.{◌≡◌, ◌≢◌, ℕ, Bool, true, false, List, [], ◌∷◌, ◌++◌, refl, arith}
use Rattle.std.specs.Prelude.{ℤ, pos, negsuc, cond, map, Option, Some, None}
use Rattle.std.specs.List.{AllByRecursion, flat_map}
use Rattle.std.specs.Bool.{Decides}
use Rattle.std.specs.Str.{bytes_eq}
use Rattle.std.proofs.lemmas.List.Elements.{recursion_from_All}
use Rattle.std.proofs.lemmas.Slice.Eq.{bytes_eq-Decides}
use Rattle.ppm_text.specs.declared.token.Kind.{Kind}
use Rattle.ppm_text.specs.Spelling.{spelled, keyword_of, keywords as spellings}
use Rattle.ppm_text.specs.Tokens.{HasForm}
use Rattle.ppm_tree.specs.declared.named.Named.{Named}
use Rattle.ppm_tree.specs.declared.tree.Parameter.{Parameter}
use Rattle.ppm_tree.specs.declared.tree.Array.{Array}
use Rattle.ppm_tree.specs.declared.tree.ArrayInput.{ArrayInput}
use Rattle.ppm_tree.specs.Tree.{Expression, Argument, Side, Statement, Block, Nil, Then, Give, Procedure, ProgramTree}
use Rattle.ppm_tree.specs.Tree as tree
use Rattle.ppm_tree.specs.Limits.{IsNamed, IsLiteral, IsInputValue, IsParameter, keywords}
use Rattle.ppm_printer.specs.Canonical.{name, more_tokens, list_tokens, integer_tokens, expression_tokens, argument_tokens}
use Rattle.ppm_printer.specs.Canonical.{call_tokens, target_tokens, side_tokens}
use Rattle.ppm_printer.specs.Canonical.{statement_tokens, block_tokens, else_tokens, give_tokens, parameter_tokens, array_tokens, procedure_tokens}
use Rattle.ppm_printer.specs.Canonical.{input_tokens, program_tokens, braced, assigned_tokens}
use Rattle.ppm_printer.proofs.Fine.{FineExpression, FineArguments, FineTarget, FineSide, FineStatement, FineBlock, FineGive, FineProcedure}
use Rattle.ppm_printer.proofs.Fine.{FineArray, FineInput, FineProgram}

-- all tokens have their form
abbrev Formed : List Kind → Type 0
Formed ks = AllByRecursion HasForm ks

-- bytes that are none of the spellings of rows are spelled by none
not_spelled : {K : Type 0} (bytes : List ℕ) (rows : List (List ℕ × K)) → AllByRecursion (λ w. w ≢ bytes) (map (λ r. r.0) rows) → spelled rows bytes ≡ None
not_spelled bytes [] h = refl
not_spelled {K} bytes (row ∷ rows) h = go (bytes_eq row.0 bytes) (bytes_eq-Decides row.0 bytes) (not_spelled bytes rows h.1)
  where
    go : (same : Bool) → Decides same (row.0 ≡ bytes) → spelled rows bytes ≡ None → cond same (Some row.1) (spelled rows bytes) ≡ None
    go true d next = absurd (h.0 (d.0 refl))
    go false d next = next

-- a name is no keyword
name_formed : (x : Named) → IsNamed x → HasForm (name x)
unfolding keyword_of
name_formed x h = (h.form, not_spelled x.name spellings (recursion_from_All (λ w. w ≢ x.name) keywords h.no_keyword))

-- tokens after others
both : (xs ys : List Kind) → Formed xs → Formed ys → Formed (xs ++ ys)
both [] ys h g = g
both (x ∷ xs) ys h g = (h.0, both xs ys h.1 g)

-- numbers
literal_formed : (z : ℤ) → IsLiteral z → Formed (integer_tokens z)
literal_formed (pos n) h = (h, tt)
literal_formed (negsuc n) h = absurd h

value_formed : (z : ℤ) → IsInputValue z → Formed (integer_tokens z)
value_formed (pos n) h = (h, tt)
value_formed (negsuc n) h = (tt, (omega (arith, h), tt))

-- expressions
expression_formed : (e : Expression) → FineExpression e → Formed (expression_tokens e)
expression_formed (tree.Number z) h = literal_formed z h
expression_formed (tree.Name x) h = (name_formed x h, tt)
expression_formed (tree.Element x index) h =
    (name_formed x h.0, (tt, both (expression_tokens index) _ (expression_formed index h.1) (tt, tt)))
expression_formed (tree.Len x) h = (tt, (name_formed x h, tt))
expression_formed (tree.Minus line e) h = (tt, expression_formed e h)
expression_formed (tree.Binary o line left right) h =
    (tt, both _ _ (both (expression_tokens left) _ (expression_formed left h.0) (tt, expression_formed right h.1)) (tt, tt))

-- lists
arguments_formed : (xs : List Argument) → FineArguments xs → Formed (more_tokens argument_tokens xs)
arguments_formed [] h = tt
arguments_formed (x ∷ xs) h = (tt, both (argument_tokens x) _ (expression_formed x.value h.0) (arguments_formed xs h.1))

list_formed : (xs : List Argument) → FineArguments xs → Formed (list_tokens argument_tokens xs)
list_formed [] h = tt
list_formed (x ∷ xs) h = both (argument_tokens x) _ (expression_formed x.value h.0) (arguments_formed xs h.1)

parameter_formed : (x : Parameter) → IsParameter x → Formed (parameter_tokens x)
parameter_formed x h = (tt, (name_formed x.name h.name, tt))

parameters_formed : (xs : List Parameter) → AllByRecursion IsParameter xs → Formed (more_tokens parameter_tokens xs)
parameters_formed [] h = tt
parameters_formed (x ∷ xs) h = (tt, both (parameter_tokens x) _ (parameter_formed x h.0) (parameters_formed xs h.1))

parameter_list_formed : (xs : List Parameter) → AllByRecursion IsParameter xs → Formed (list_tokens parameter_tokens xs)
parameter_list_formed [] h = tt
parameter_list_formed (x ∷ xs) h = both (parameter_tokens x) _ (parameter_formed x h.0) (parameters_formed xs h.1)

values_formed : (zs : List ℤ) → AllByRecursion IsInputValue zs → Formed (more_tokens integer_tokens zs)
values_formed [] h = tt
values_formed (z ∷ zs) h = (tt, both (integer_tokens z) _ (value_formed z h.0) (values_formed zs h.1))

value_list_formed : (zs : List ℤ) → AllByRecursion IsInputValue zs → Formed (list_tokens integer_tokens zs)
value_list_formed [] h = tt
value_list_formed (z ∷ zs) h = both (integer_tokens z) _ (value_formed z h.0) (values_formed zs h.1)

-- calls
call_formed : (side : Side) → FineSide side → Formed (call_tokens side)
call_formed side h =
    (name_formed side.callee h.callee, (tt, both (list_tokens argument_tokens side.arguments) _ (list_formed side.arguments h.arguments) (tt, tt)))

target_formed : (target : Option Named) → FineTarget target → Formed (target_tokens target)
target_formed None h = tt
target_formed (Some x) h = (name_formed x h, (tt, tt))

side_formed : (side : Side) → FineSide side → Formed (side_tokens side)
side_formed side h = both (target_tokens side.target) _ (target_formed side.target h.target) (call_formed side h)

-- statements
assigned_formed : (e : Expression) → FineExpression e → Formed (assigned_tokens e)
assigned_formed e h = (tt, both (expression_tokens e) _ (expression_formed e h) (tt, tt))

braced_formed : (ks : List Kind) → Formed ks → Formed (braced ks)
braced_formed ks h = (tt, both ks _ h (tt, tt))

else_formed : (b : Block) → Formed (block_tokens b) → Formed (else_tokens b)
else_formed Nil h = tt
else_formed (Then x others) h = (tt, braced_formed (block_tokens (Then x others)) h)

mutual
  statement_formed : (x : Statement) → FineStatement x → Formed (statement_tokens x)
  statement_formed (tree.Let x e) h = (tt, (name_formed x h.0, assigned_formed e h.1))
  statement_formed (tree.Assign x e) h = (name_formed x h.0, assigned_formed e h.1)
  statement_formed (tree.Put x index e) h =
      (name_formed x h.0, (tt, both (expression_tokens index) _ (expression_formed index h.1) (tt, assigned_formed e h.2)))
  statement_formed (tree.If e block other) h = (
    tt,
    both _ _ (both (expression_tokens e) _ (expression_formed e h.0) (braced_formed (block_tokens block) (block_formed block h.1)))
        (else_formed other (block_formed other h.2)),
  )
  statement_formed (tree.While e block) h =
      (tt, both (expression_tokens e) _ (expression_formed e h.0) (braced_formed (block_tokens block) (block_formed block h.1)))
  statement_formed (tree.Call side) h =
      both _ _ (both (target_tokens side.target) _ (target_formed side.target h.target) (tt, call_formed side h)) (tt, tt)
  statement_formed (tree.Fork left right) h = (tt, both _ _ (both (side_tokens left) _ (side_formed left h.0) (tt, side_formed right h.1)) (tt, tt))
  statement_formed (tree.Split line r e x y block) h = (
    tt,
    (
      name_formed r h.0,
      (
        tt,
        both (expression_tokens e) _ (expression_formed e h.1)
            (tt, (name_formed x h.2, (tt, (name_formed y h.3, braced_formed (block_tokens block) (block_formed block h.4))))),
      ),
    ),
  )
  statement_formed (tree.Each i x r block) h =
      (tt, (name_formed i h.0, (tt, (name_formed x h.1, (tt, (name_formed r h.2, braced_formed (block_tokens block) (block_formed block h.3)))))))

  block_formed : (b : Block) → FineBlock b → Formed (block_tokens b)
  block_formed Nil h = tt
  block_formed (Then x others) h = both (statement_tokens x) _ (statement_formed x h.0) (block_formed others h.1)

-- declarations
give_formed : (gives : Option Give) → FineGive gives → Formed (give_tokens gives)
give_formed None h = tt
give_formed (Some x) h = (tt, both (expression_tokens x.value) _ (expression_formed x.value h) (tt, tt))

procedure_formed : (x : Procedure) → FineProcedure x → Formed (procedure_tokens x)
procedure_formed x h = (
  tt,
  (
    name_formed x.name h.name,
    (
      tt,
      both (list_tokens parameter_tokens x.parameters) _ (parameter_list_formed x.parameters h.parameters) (
        tt,
        braced_formed (block_tokens x.body ++ give_tokens x.give)
            (both (block_tokens x.body) _ (block_formed x.body h.body) (give_formed x.give h.give)),
      ),
    ),
  ),
)

array_formed : (x : Array) → FineArray x → Formed (array_tokens x)
array_formed x h = (tt, (name_formed x.name h.name, (tt, (h.words, (tt, (tt, tt))))))

input_formed : (x : ArrayInput) → FineInput x → Formed (input_tokens x)
input_formed x h =
    (tt, (name_formed x.name h.name, (tt, both (list_tokens integer_tokens x.values) _ (value_list_formed x.values h.values) (tt, tt))))

-- many of them
all_formed : {A : Type 0} (tokens : A → List Kind) (Fine : A → Type 0) → ((x : A) → Fine x → Formed (tokens x)) → (xs : List A) → AllByRecursion Fine xs →
    Formed (flat_map tokens xs)
all_formed tokens Fine each [] h = tt
all_formed tokens Fine each (x ∷ xs) h = both (tokens x) _ (each x h.0) (all_formed tokens Fine each xs h.1)

-- a program
pub program_formed : (t : ProgramTree) → FineProgram t → AllByRecursion HasForm (program_tokens t)
program_formed t h =
    both _ _ (both _ _ (all_formed array_tokens FineArray array_formed t.arrays h.arrays)
    (all_formed procedure_tokens FineProcedure procedure_formed t.procedures h.procedures))
    (all_formed input_tokens FineInput input_formed t.inputs h.inputs)
