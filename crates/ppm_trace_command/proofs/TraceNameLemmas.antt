-- The names of procedures, as the text is gone through.
use Rattle.std.proofs.Common.{◌≡◌, ◌+◌, ℕ, suc, List, [], ◌∷◌, ◌++◌, length, map, refl, sym, ap, ap₂, ◌∙◌, arith}
use Rattle.std.specs.List.{range_with_len}
use Rattle.std.proofs.lemmas.List.{map-append}
use Rattle.std.proofs.lemmas.List.FromFn.{map-range_with_len_more}
use Rattle.ppm_words.specs.declared.named_array.NamedArray.{NamedArray}
use Rattle.ppm_code.specs.declared.code.CodeParts.{CodeParts}
use Rattle.ppm_tree.specs.Tree.{Statement, Block, Nil, Then, Procedure, ProgramTree}
use Rattle.ppm_tree.specs.Tree as tree
use Rattle.ppm_tree.specs.Program.{initial_arrays}
use Rattle.ppm_cut_code.specs.Layout.{Layout, parameter_layout, caught}
use Rattle.ppm_cut_code.specs.Numbers.{hidden_behind, hidden_behind_block}
use Rattle.ppm_cut_code.specs.Statements.{with_lets, with_parts}
use Rattle.ppm_cut_code.specs.Routines.{Routine, hidden_of, hidden_of_block, texts_from, hidden_from, routines_of}
use Rattle.ppm_naming.specs.declared.names.ProcedureName.{ProcedureName}
use Rattle.ppm_naming.specs.declared.names.ProcedureName.TheVariants as name
use Rattle.ppm_trace_command.specs.TraceNames.{routine_name, hidden_names, hidden_names_in, text_names, all_hidden_names}
use Rattle.ppm_trace_command.specs.TraceNames.{names_with, program_names, case_names}

abbrev named : List Routine → List ProcedureName
named routines = map routine_name routines

named-append : (xs ys : List Routine) → named (xs ++ ys) ≡ named xs ++ named ys
named-append xs ys = map-append routine_name xs ys

mutual
  -- the names of hidden procedures are those of the statement's, whatever their numbers and the names in force are
  statement_named : (layout : Layout) (h : ℕ) (s : Statement) → named (hidden_of layout h s) ≡ hidden_names s
  statement_named layout h (tree.If e holds other) =
      named-append (hidden_of_block layout h holds) (hidden_of_block layout (hidden_behind_block holds h) other)
      ∙ ap₂ ◌++◌ (block_named layout h holds) (block_named layout (hidden_behind_block holds h) other)
  statement_named layout h (tree.While e block) = block_named layout h block
  statement_named layout h (tree.Split line r e x y block) = block_named (with_parts layout x y) h block
  statement_named layout h (tree.Each i x r block) =
      ap (λ xs. name.EachOf r.line ∷ xs) (block_named (x.name ∷ i.name ∷ caught layout block) (suc h) block)
  statement_named layout h (tree.Let x e) = refl
  statement_named layout h (tree.Assign x e) = refl
  statement_named layout h (tree.Put x index e) = refl
  statement_named layout h (tree.Call s) = refl
  statement_named layout h (tree.Fork s t) = refl

  block_named : (layout : Layout) (h : ℕ) (block : Block) → named (hidden_of_block layout h block) ≡ hidden_names_in block
  block_named layout h Nil = refl
  block_named layout h (Then s rest) =
      named-append (hidden_of layout h s) (hidden_of_block (with_lets layout s) (hidden_behind s h) rest)
      ∙ ap₂ ◌++◌ (statement_named layout h s) (block_named (with_lets layout s) (hidden_behind s h) rest)

texts_named : (h : ℕ) (procedures : List Procedure) → named (texts_from h procedures) ≡ text_names procedures
texts_named h [] = refl
texts_named h (p ∷ procedures) = ap (λ xs. name.Named p.name.name ∷ xs) (texts_named (hidden_behind_block p.body h) procedures)

hidden_named : (h : ℕ) (procedures : List Procedure) → named (hidden_from h procedures) ≡ all_hidden_names procedures
hidden_named h [] = refl
hidden_named h (p ∷ procedures) =
    named-append (hidden_of_block (parameter_layout p.parameters) h p.body) (hidden_from (hidden_behind_block p.body h) procedures)
    ∙ ap₂ ◌++◌ (block_named (parameter_layout p.parameters) h p.body) (hidden_named (hidden_behind_block p.body h) procedures)

-- the names of all procedures: those of the text, then the hidden ones in the order of the text
pub routines_named : (procedures : List Procedure) → map routine_name (routines_of procedures) ≡ text_names procedures ++ all_hidden_names procedures
routines_named procedures =
    named-append (texts_from (length procedures) procedures) (hidden_from (length procedures) procedures)
    ∙ ap₂ ◌++◌ (texts_named (length procedures) procedures) (hidden_named (length procedures) procedures)

-- the names of a program, from those of its procedures and of what it starts with
pub program_named : (t : ProgramTree) (procedures : List Procedure) (none texts all : List ProcedureName) (arrays : List NamedArray) → none ≡ []
    → procedures ≡ t.procedures → texts ≡ none ++ text_names procedures → all ≡ texts ++ all_hidden_names procedures → arrays ≡ initial_arrays t
    → names_with all arrays ≡ program_names t
program_named t procedures none texts all arrays empty is first second input =
    let here : all ≡ map routine_name (routines_of t.procedures) = second
    ∙ ap (λ xs. xs ++ all_hidden_names procedures) (first ∙ ap (λ xs. xs ++ text_names procedures) empty)
    ∙ sym (routines_named procedures) ∙ ap (λ ps. map routine_name (routines_of ps)) is in
    λ i. names_with (here i) (input i)

-- the names of so many procedures of a case, and one more
pub numbers_more : (n : ℕ) (before now : List ProcedureName) → before ≡ map (λ number. name.Numbered number) (range_with_len 0 n)
    → now ≡ before ++ name.Numbered n ∷ [] → now ≡ map (λ number. name.Numbered number) (range_with_len 0 (n + 1))
numbers_more n before now here push =
    let is : 0 + n ≡ n = omega arith in
    push ∙ ap (λ xs. xs ++ name.Numbered n ∷ []) here ∙ sym (map-range_with_len_more (λ number. name.Numbered number) 0 n n is)

-- and with all of them the names of the case
pub case_named : (code : CodeParts) (input arrays : List NamedArray) (count : ℕ) (procedures : List ProcedureName) → count ≡ length code.procedures
    → procedures ≡ map (λ number. name.Numbered number) (range_with_len 0 count) → arrays ≡ input → names_with procedures arrays ≡ case_names code input
case_named code input arrays count procedures all are is =
    let here = are ∙ ap (λ n. map (λ number. name.Numbered number) (range_with_len 0 n)) all in
    λ i. names_with (here i) (is i)
