-- The tokens of a tree do not tell its lines.
use Rattle.std.proofs.Common.{◌≡◌, List, [], ◌∷◌, ◌++◌, map, refl, ap}
use Rattle.std.specs.Prelude.{Option, Some, None}
use Rattle.std.specs.List.{flat_map}
use Rattle.ppm_text.specs.declared.token.Sign.TheVariants as s
use Rattle.ppm_text.specs.declared.token.Keyword.TheVariants as k
use Rattle.ppm_text.specs.declared.token.Kind.{Kind}
use Rattle.ppm_tree.specs.declared.named.Named.{Named}
use Rattle.ppm_tree.specs.Tree.{Expression, Side, Statement, Block, Nil, Then, Give, Procedure, ProgramTree}
use Rattle.ppm_tree.specs.Tree as tree
use Rattle.ppm_printer.specs.Canonical.{name, word, sign, operator_sign, more_tokens, list_tokens, expression_tokens, argument_tokens, call_tokens}
use Rattle.ppm_printer.specs.Canonical.{target_tokens, side_tokens, braced, assigned_tokens, statement_tokens, block_tokens, else_tokens, give_tokens}
use Rattle.ppm_printer.specs.Canonical.{parameter_tokens, array_tokens, procedure_tokens, input_tokens, program_tokens}
use Rattle.ppm_tree.specs.Lines.{bare_expression, bare_argument, bare_target, bare_side, bare_statement, bare_block, bare_give, bare_parameter}
use Rattle.ppm_tree.specs.Lines.{bare_array, bare_procedure, bare_input, without_lines}

-- expressions
expression_bare : (e : Expression) → expression_tokens (bare_expression e) ≡ expression_tokens e
expression_bare (tree.Number z) = refl
expression_bare (tree.Name x) = refl
expression_bare (tree.Element x index) = ap (λ ks. name x ∷ sign s.OpenBracket ∷ ks ++ sign s.CloseBracket ∷ []) (expression_bare index)
expression_bare (tree.Len x) = refl
expression_bare (tree.Minus line e) = ap (λ ks. sign s.Minus ∷ ks) (expression_bare e)
expression_bare (tree.Binary o line left right) =
    let a = expression_bare left in
    let b = expression_bare right in
    λ i. sign s.OpenParen ∷ a i ++ sign (operator_sign o) ∷ b i ++ sign s.CloseParen ∷ []

module _ {A : Type 0} (tokens : A → List Kind) (bare : A → A) (each : (x : A) → tokens (bare x) ≡ tokens x) where
  -- many things, with a comma in front of each, and with commas between them
  all_bare : (xs : List A) → flat_map tokens (map bare xs) ≡ flat_map tokens xs
  all_bare [] = refl
  all_bare (x ∷ xs) = let rest = all_bare xs in λ i. each x i ++ rest i

  more_bare : (xs : List A) → more_tokens tokens (map bare xs) ≡ more_tokens tokens xs
  more_bare [] = refl
  more_bare (x ∷ xs) = let rest = more_bare xs in λ i. sign s.Comma ∷ each x i ++ rest i

  list_bare : (xs : List A) → list_tokens tokens (map bare xs) ≡ list_tokens tokens xs
  list_bare [] = refl
  list_bare (x ∷ xs) = let rest = more_bare xs in λ i. each x i ++ rest i

-- calls
call_bare : (side : Side) → call_tokens (bare_side side) ≡ call_tokens side
call_bare side =
    ap (λ ks. name side.callee ∷ sign s.OpenParen ∷ ks ++ sign s.CloseParen ∷ [])
    (list_bare argument_tokens bare_argument (λ a. expression_bare a.value) side.arguments)

target_bare : (target : Option Named) → target_tokens (bare_target target) ≡ target_tokens target
target_bare None = refl
target_bare (Some x) = refl

side_bare : (side : Side) → side_tokens (bare_side side) ≡ side_tokens side
side_bare side = let t = target_bare side.target in let c = call_bare side in λ i. t i ++ c i

-- statements
assigned_bare : (e : Expression) → assigned_tokens (bare_expression e) ≡ assigned_tokens e
assigned_bare e = ap (λ ks. sign s.Assign ∷ ks ++ sign s.Semicolon ∷ []) (expression_bare e)

else_bare : (b : Block) → block_tokens (bare_block b) ≡ block_tokens b → else_tokens (bare_block b) ≡ else_tokens b
else_bare Nil h = refl
else_bare (Then x others) h = ap (λ ks. word k.Else ∷ braced ks) h

mutual
  statement_bare : (x : Statement) → statement_tokens (bare_statement x) ≡ statement_tokens x
  statement_bare (tree.Let x e) = ap (λ ks. word k.Let ∷ name x ∷ ks) (assigned_bare e)
  statement_bare (tree.Assign x e) = ap (λ ks. name x ∷ ks) (assigned_bare e)
  statement_bare (tree.Put x index e) =
      let a = expression_bare index in
      let b = assigned_bare e in
      λ i. name x ∷ sign s.OpenBracket ∷ a i ++ sign s.CloseBracket ∷ b i
  statement_bare (tree.If e block other) =
      let a = expression_bare e in
      let b = block_bare block in
      let c = else_bare other (block_bare other) in
      λ i. word k.If ∷ a i ++ braced (b i) ++ c i
  statement_bare (tree.While e block) =
      let a = expression_bare e in
      let b = block_bare block in
      λ i. word k.While ∷ a i ++ braced (b i)
  statement_bare (tree.Call side) =
      let t = target_bare side.target in
      let c = call_bare side in
      λ i. t i ++ word k.Call ∷ c i ++ sign s.Semicolon ∷ []
  statement_bare (tree.Fork left right) =
      let a = side_bare left in
      let b = side_bare right in
      λ i. word k.Fork ∷ a i ++ word k.And ∷ b i ++ sign s.Semicolon ∷ []
  statement_bare (tree.Split line r e x y block) =
      let a = expression_bare e in
      let b = block_bare block in
      λ i. word k.Split ∷ name r ∷ word k.At ∷ a i ++ word k.Into ∷ name x ∷ sign s.Comma ∷ name y ∷ braced (b i)
  statement_bare (tree.Each i x r block) =
      ap (λ ks. word k.Each ∷ name i ∷ sign s.Comma ∷ name x ∷ word k.In ∷ name r ∷ braced ks) (block_bare block)

  block_bare : (b : Block) → block_tokens (bare_block b) ≡ block_tokens b
  block_bare Nil = refl
  block_bare (Then x others) = let a = statement_bare x in let b = block_bare others in λ i. a i ++ b i

-- declarations
give_bare : (gives : Option Give) → give_tokens (bare_give gives) ≡ give_tokens gives
give_bare None = refl
give_bare (Some x) = ap (λ ks. word k.Give ∷ ks ++ sign s.Semicolon ∷ []) (expression_bare x.value)

procedure_bare : (x : Procedure) → procedure_tokens (bare_procedure x) ≡ procedure_tokens x
procedure_bare x =
    let a = list_bare parameter_tokens bare_parameter (λ y. refl) x.parameters in
    let b = block_bare x.body in
    let c = give_bare x.give in
    λ i. word k.Proc ∷ name x.name ∷ sign s.OpenParen ∷ a i ++ sign s.CloseParen ∷ braced (b i ++ c i)

-- a program
pub program_bare : (t : ProgramTree) → program_tokens (without_lines t) ≡ program_tokens t
program_bare t =
    let a = all_bare array_tokens bare_array (λ x. refl) t.arrays in
    let b = all_bare procedure_tokens bare_procedure procedure_bare t.procedures in
    let c = all_bare input_tokens bare_input (λ x. refl) t.inputs in
    λ i. a i ++ b i ++ c i
