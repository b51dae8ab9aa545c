-- How many instructions capsules have, and how many capsules and procedures a code.
use Rattle.std.proofs.Common.{◌≡◌, ◌≤◌, ◌+◌, ◌*◌, ℕ, zero, suc, List, [], ◌∷◌, ◌++◌, None, length, map, refl, ap, ◌∙◌, arith, length-append}
use Rattle.std.specs.List.{sum, flat_map}
use Rattle.std.proofs.lemmas.List.{length-map, map-append}
use Rattle.std.proofs.lemmas.List.Sums.{sum_by-append, sum_by-cons}
use Rattle.ppm_tree.specs.declared.operator.Operator.{Operator}
use Rattle.ppm_tree.specs.declared.operator.Operator.TheVariants as operator
use Rattle.ppm_tree.specs.declared.mode.Mode.{Mode}
use Rattle.ppm_tree.specs.declared.mode.Mode.TheVariants as mode
use Rattle.ppm_tree.specs.declared.tree.Parameter.{Parameter}
use Rattle.ppm_tree.specs.Tree.{Expression, Argument, Statement, Block, Nil, Then, Procedure}
use Rattle.ppm_tree.specs.Tree as tree
use Rattle.ppm_tree.specs.Parts.{nodes, statement_and_inner, statements_in, eaches_of}
use Rattle.ppm_tree.specs.Limits.{procedures_in}
use Rattle.ppm_cut_bounds.specs.Capsules.{capsules_at, capsules_of}
use Rattle.ppm_cut_bounds.proofs.Sums.{need, need-append, need_of_procedure}
use Rattle.ppm_code.specs.declared.code.Capsule.{Capsule}
use Rattle.ppm_code.specs.declared.instr.Instr.{Instr}
use Rattle.ppm_code.specs.declared.instr.Instr.TheVariants as instr
use Rattle.ppm_cut_code.specs.Layout.{Layout, slot_of, register, parameter_layout}
use Rattle.ppm_cut_code.specs.Expressions.{size_of, branch_size, last_size, operator_code, right_register, branch_code, expression_code}
use Rattle.ppm_cut_code.specs.Numbers.{behind, end_of, hidden_behind, hidden_behind_block, element_block}
use Rattle.ppm_cut_code.specs.Slots.{named_slots, hidden_named_slots}
use Rattle.ppm_cut_code.specs.Statements.{Last, OnTo, Gives, argument_size, argument_code, arguments_size, arguments_code, paired, stores_code}
use Rattle.ppm_cut_code.specs.Statements.{loads_code, names_code, with_lets, with_parts, hidden_layout, statement_code, block_code}
use Rattle.ppm_cut_code.specs.Routines.{Routine, OfText, Hidden, hidden_of, hidden_of_block, texts_from, hidden_from}
use Rattle.ppm_cut_code.specs.Routines.{routines_of, procedures_from, routine_code, capsules_from, routine_behind}

-- an operator has at least one instruction after its operands, and three at most beside them
pub last_at_least : (o : Operator) → 1 ≤ last_size o
last_at_least operator.Add = omega arith
last_at_least operator.Sub = omega arith
last_at_least operator.Mul = omega arith
last_at_least operator.Div = omega arith
last_at_least operator.Rem = omega arith
last_at_least operator.Eq = omega arith
last_at_least operator.Ne = omega arith
last_at_least operator.Lt = omega arith
last_at_least operator.Le = omega arith
last_at_least operator.Gt = omega arith
last_at_least operator.Ge = omega arith
last_at_least operator.And = omega arith
last_at_least operator.Or = omega arith

beside_at_most : (o : Operator) → branch_size o + last_size o ≤ 3
beside_at_most operator.Add = omega arith
beside_at_most operator.Sub = omega arith
beside_at_most operator.Mul = omega arith
beside_at_most operator.Div = omega arith
beside_at_most operator.Rem = omega arith
beside_at_most operator.Eq = omega arith
beside_at_most operator.Ne = omega arith
beside_at_most operator.Lt = omega arith
beside_at_most operator.Le = omega arith
beside_at_most operator.Gt = omega arith
beside_at_most operator.Ge = omega arith
beside_at_most operator.And = omega arith
beside_at_most operator.Or = omega arith

-- an expression and a store of its value have at most three instructions a node
pub size_at_most : (e : Expression) → suc (size_of e) ≤ 3 * length (nodes e)
size_at_most (tree.Number z) = omega arith
size_at_most (tree.Name x) = omega arith
size_at_most (tree.Element x index) = let h = size_at_most index in omega (arith, h)
size_at_most (tree.Len x) = omega arith
size_at_most (tree.Minus line e) = let h = size_at_most e in omega (arith, h)
size_at_most (tree.Binary o line left right) =
    let l = size_at_most left in
    let r = size_at_most right in
    let b = beside_at_most o in
    let n = length-append (nodes left) (nodes right) in
    omega (arith, l, r, b, n)

-- the lengths of codes
operator_length : (o : Operator) (line d : ℕ) (rest : List Instr) → length (operator_code o line d rest) ≡ last_size o + length rest
operator_length operator.Add line d rest = omega arith
operator_length operator.Sub line d rest = omega arith
operator_length operator.Mul line d rest = omega arith
operator_length operator.Div line d rest = omega arith
operator_length operator.Rem line d rest = omega arith
operator_length operator.Eq line d rest = omega arith
operator_length operator.Ne line d rest = omega arith
operator_length operator.Lt line d rest = omega arith
operator_length operator.Le line d rest = omega arith
operator_length operator.Gt line d rest = omega arith
operator_length operator.Ge line d rest = omega arith
operator_length operator.And line d rest = omega arith
operator_length operator.Or line d rest = omega arith

branch_length : (o : Operator) (d target : ℕ) (rest : List Instr) → length (branch_code o d target rest) ≡ branch_size o + length rest
branch_length operator.Add d target rest = omega arith
branch_length operator.Sub d target rest = omega arith
branch_length operator.Mul d target rest = omega arith
branch_length operator.Div d target rest = omega arith
branch_length operator.Rem d target rest = omega arith
branch_length operator.Eq d target rest = omega arith
branch_length operator.Ne d target rest = omega arith
branch_length operator.Lt d target rest = omega arith
branch_length operator.Le d target rest = omega arith
branch_length operator.Gt d target rest = omega arith
branch_length operator.Ge d target rest = omega arith
branch_length operator.And d target rest = omega arith
branch_length operator.Or d target rest = omega arith

pub expression_length : (layout : Layout) (e : Expression) (d at : ℕ) (rest : List Instr)
    → length (expression_code layout e d at rest) ≡ size_of e + length rest
expression_length layout (tree.Number z) d at rest = omega arith
expression_length layout (tree.Name x) d at rest = omega arith
expression_length layout (tree.Element x index) d at rest =
    let h = expression_length layout index d at
    (instr.LoadSlot (register (suc d)) (slot_of layout x.name) ∷ instr.Get (register d) (register (suc d)) (register d) x.line ∷ rest) in
    omega (arith, h)
expression_length layout (tree.Len x) d at rest = omega arith
expression_length layout (tree.Minus line e) d at rest =
    let h = expression_length layout e (suc d) (suc at) (instr.Sub (register d) (register d) (register (suc d)) line ∷ rest) in omega (arith, h)
expression_length layout (tree.Binary o line left right) d at rest =
    let from = at + size_of left + branch_size o in
    let last = operator_code o line d rest in
    let second = expression_code layout right (right_register o d) from last in
    let l = expression_length layout left d at (branch_code o d (from + size_of right) second) in
    let b = branch_length o d (from + size_of right) second in
    let r = expression_length layout right (right_register o d) from last in
    let o' = operator_length o line d rest in
    omega (arith, l, b, r, o')

argument_length : (layout : Layout) (m : Mode) (e : Expression) (d at : ℕ) (rest : List Instr)
    → length (argument_code layout m e d at rest) ≡ argument_size m e + length rest
argument_length layout mode.Int e d at rest = expression_length layout e d at rest
argument_length layout mode.Mut e d at rest = omega arith
argument_length layout mode.Ref e d at rest = omega arith

pub arguments_length : (layout : Layout) (ps : List Parameter) (arguments : List Argument) (d at : ℕ) (rest : List Instr)
    → length (arguments_code layout ps arguments d at rest) ≡ arguments_size ps arguments + length rest
arguments_length layout [] arguments d at rest = omega arith
arguments_length layout (p ∷ ps) [] d at rest = omega arith
arguments_length layout (p ∷ ps) (a ∷ arguments) d at rest =
    let size = argument_size p.mode a.value in
    let h = argument_length layout p.mode a.value d at (arguments_code layout ps arguments (suc d) (at + size) rest) in
    let k = arguments_length layout ps arguments (suc d) (at + size) rest in
    omega (arith, h, k)

pub stores_length : (offset d count : ℕ) (rest : List Instr) → length (stores_code offset d count rest) ≡ count + length rest
stores_length offset d zero rest = omega arith
stores_length offset d (suc count) rest = let h = stores_length (suc offset) (suc d) count rest in omega (arith, h)

pub loads_length : (layout names : Layout) (d : ℕ) (rest : List Instr) → length (loads_code layout names d rest) ≡ length names + length rest
loads_length layout [] d rest = omega arith
loads_length layout (x ∷ names) d rest = let h = loads_length layout names (suc d) rest in omega (arith, h)

pub names_length : (slot d count : ℕ) (rest : List Instr) → length (names_code slot d count rest) ≡ count + length rest
names_length slot d zero rest = omega arith
names_length slot d (suc count) rest = let h = names_length (suc slot) (suc d) count rest in omega (arith, h)

size_positive : (e : Expression) → 1 ≤ size_of e
size_positive (tree.Number z) = omega arith
size_positive (tree.Name x) = omega arith
size_positive (tree.Element x index) = omega arith
size_positive (tree.Len x) = omega arith
size_positive (tree.Minus line e) = omega arith
size_positive (tree.Binary o line left right) = let h = last_at_least o in omega (arith, h)

-- arguments and a store of each have at most three instructions a node
argument_at_most : (m : Mode) (e : Expression) → suc (argument_size m e) ≤ 3 * length (nodes e)
argument_at_most mode.Int e = size_at_most e
argument_at_most mode.Mut e = let h = size_at_most e in let s = size_positive e in omega (arith, h, s)
argument_at_most mode.Ref e = let h = size_at_most e in let s = size_positive e in omega (arith, h, s)

pub arguments_at_most : (ps : List Parameter) (arguments : List Argument)
    → arguments_size ps arguments + paired ps arguments ≤ 3 * length (flat_map nodes (map (λ a. a.value) arguments))
arguments_at_most [] arguments = omega arith
arguments_at_most (p ∷ ps) [] = omega arith
arguments_at_most (p ∷ ps) (a ∷ arguments) =
    let h = argument_at_most p.mode a.value in
    let k = arguments_at_most ps arguments in
    let n = length-append (nodes a.value) (flat_map nodes (map (λ a. a.value) arguments)) in
    omega (arith, h, k, n)

pub paired_at_most : (ps : List Parameter) (arguments : List Argument) → paired ps arguments ≤ length ps
paired_at_most [] arguments = omega arith
paired_at_most (p ∷ ps) [] = omega arith
paired_at_most (p ∷ ps) (a ∷ arguments) = let h = paired_at_most ps arguments in omega (arith, h)

-- how many procedures the `each`es of statements are
abbrev pub eaches : List Statement → ℕ
eaches ss = sum (map eaches_of ss)

eaches-append : (xs ys : List Statement) → eaches (xs ++ ys) ≡ eaches xs + eaches ys
eaches-append xs ys = ap sum (map-append eaches_of xs ys) ∙ sum_by-append (λ x. x) (map eaches_of xs) (map eaches_of ys)

mutual
  hidden_count : (layout : Layout) (h : ℕ) (s : Statement) → length (hidden_of layout h s) ≡ eaches (statement_and_inner s)
  hidden_count layout h (tree.Let x e) = refl
  hidden_count layout h (tree.Assign x e) = refl
  hidden_count layout h (tree.Put x index e) = refl
  hidden_count layout h (tree.If e holds other) =
      let between = hidden_behind_block holds h in
      let l = length-append (hidden_of_block layout h holds) (hidden_of_block layout between other) in
      let a = hidden_count_block layout h holds in
      let b = hidden_count_block layout between other in
      let c = sum_by-cons (λ x. x) 0 (map eaches_of (statements_in holds ++ statements_in other)) in
      let d = eaches-append (statements_in holds) (statements_in other) in
      omega (arith, l, a, b, c, d)
  hidden_count layout h (tree.While e block) =
      let a = hidden_count_block layout h block in
      let c = sum_by-cons (λ x. x) 0 (map eaches_of (statements_in block)) in
      omega (arith, a, c)
  hidden_count layout h (tree.Call s) = refl
  hidden_count layout h (tree.Fork s t) = refl
  hidden_count layout h (tree.Split line r e x y block) =
      let a = hidden_count_block (with_parts layout x y) h block in
      let c = sum_by-cons (λ x. x) 0 (map eaches_of (statements_in block)) in
      omega (arith, a, c)
  hidden_count layout h (tree.Each i x r block) =
      let a = hidden_count_block (hidden_layout layout i x block) (suc h) block in
      let c = sum_by-cons (λ x. x) 1 (map eaches_of (statements_in block)) in
      omega (arith, a, c)

  hidden_count_block : (layout : Layout) (h : ℕ) (b : Block) → length (hidden_of_block layout h b) ≡ eaches (statements_in b)
  hidden_count_block layout h Nil = refl
  hidden_count_block layout h (Then s rest) =
      let l = length-append (hidden_of layout h s) (hidden_of_block (with_lets layout s) (hidden_behind s h) rest) in
      let a = hidden_count layout h s in
      let b = hidden_count_block (with_lets layout s) (hidden_behind s h) rest in
      let d = eaches-append (statement_and_inner s) (statements_in rest) in
      omega (arith, l, a, b, d)

texts_length : (h : ℕ) (ps : List Procedure) → length (texts_from h ps) ≡ length ps
texts_length h [] = refl
texts_length h (p ∷ ps) = ap (λ n. suc n) (texts_length (hidden_behind_block p.body h) ps)

routines_count : (h : ℕ) (ps : List Procedure) → length (texts_from h ps) + length (hidden_from h ps) ≡ sum (map procedures_in ps)
routines_count h [] = refl
routines_count h (p ∷ ps) =
    let next = hidden_behind_block p.body h in
    let layout = parameter_layout p.parameters in
    let k = routines_count next ps in
    let l = length-append (hidden_of_block layout h p.body) (hidden_from next ps) in
    let a = hidden_count_block layout h p.body in
    let c = sum_by-cons (λ x. x) (procedures_in p) (map procedures_in ps) in
    omega (arith, k, l, a, c)

procedures_length : (at : ℕ) (rs : List Routine) → length (procedures_from at rs) ≡ length rs
procedures_length at [] = refl
procedures_length at (r ∷ rs) = ap (λ n. suc n) (procedures_length (routine_behind r at) rs)

-- the procedures of a code are as many as the program counts
pub procedures_count : (ps : List Procedure) → length (procedures_from 0 (routines_of ps)) ≡ sum (map procedures_in ps)
procedures_count ps =
    let n = length ps in
    procedures_length 0 (routines_of ps) ∙ length-append (texts_from n ps) (hidden_from n ps) ∙ routines_count n ps

-- those of the text are among them
pub procedures_at_least : (ps : List Procedure) → length ps ≤ length (procedures_from 0 (routines_of ps))
procedures_at_least ps =
    let n = length ps in
    let a = procedures_length 0 (routines_of ps) in
    let b = length-append (texts_from n ps) (hidden_from n ps) in
    let c = texts_length n ps in
    omega (arith, a, b, c)

-- how many capsules a procedure of the code has
abbrev mutual
  own_capsules : Statement → ℕ
  own_capsules (tree.Let x e) = 1
  own_capsules (tree.Assign x e) = 2
  own_capsules (tree.Put x index e) = 2
  own_capsules (tree.If e holds other) = 1 + block_capsules holds + block_capsules other
  own_capsules (tree.While e block) = 1 + block_capsules block
  own_capsules (tree.Call s) = 1
  own_capsules (tree.Fork s t) = 1
  own_capsules (tree.Split line r e x y block) = 1 + block_capsules block
  own_capsules (tree.Each i x r block) = 1

  block_capsules : Block → ℕ
  block_capsules Nil = 1
  block_capsules (Then s rest) = own_capsules s + block_capsules rest

abbrev routine_capsules : Routine → ℕ
routine_capsules (OfText p h) = block_capsules p.body
routine_capsules (Hidden s) = 3 + block_capsules s.block

abbrev all_capsules : List Routine → ℕ
all_capsules rs = sum (map routine_capsules rs)

all_capsules-append : (xs ys : List Routine) → all_capsules (xs ++ ys) ≡ all_capsules xs + all_capsules ys
all_capsules-append xs ys = ap sum (map-append routine_capsules xs ys) ∙ sum_by-append (λ x. x) (map routine_capsules xs) (map routine_capsules ys)

module _ (procedures : List Procedure) where
  mutual
    statement_length : (spare : ℕ) (layout : Layout) (at h : ℕ) (s : Statement)
        → length (statement_code procedures spare layout at h s) ≡ own_capsules s
    statement_length spare layout at h (tree.Let x e) = refl
    statement_length spare layout at h (tree.Assign x e) = refl
    statement_length spare layout at h (tree.Put x index e) = refl
    statement_length spare layout at h (tree.If e holds other) =
        let first = suc (end_of holds (suc at)) in
        let next = suc (end_of other first) in
        let xs = block_code procedures spare layout (suc at) h (OnTo next) holds in
        let ys = block_code procedures spare layout first (hidden_behind_block holds h) (OnTo next) other in
        let l = length-append xs ys in
        let a = block_length spare layout (suc at) h (OnTo next) holds in
        let b = block_length spare layout first (hidden_behind_block holds h) (OnTo next) other in
        omega (arith, l, a, b)
    statement_length spare layout at h (tree.While e block) = let a = block_length spare layout (suc at) h (OnTo at) block in omega (arith, a)
    statement_length spare layout at h (tree.Call s) = refl
    statement_length spare layout at h (tree.Fork s t) = refl
    statement_length spare layout at h (tree.Split line r e x y block) =
        let a = block_length spare (with_parts layout x y) (suc at) h (OnTo (suc (end_of block (suc at)))) block in omega (arith, a)
    statement_length spare layout at h (tree.Each i x r block) = refl

    block_length : (spare : ℕ) (layout : Layout) (at h : ℕ) (last : Last) (b : Block)
        → length (block_code procedures spare layout at h last b) ≡ block_capsules b
    block_length spare layout at h last Nil = refl
    block_length spare layout at h last (Then s rest) =
        let front = statement_code procedures spare layout at h s in
        let l = length-append front (block_code procedures spare (with_lets layout s) (behind s at) (hidden_behind s h) last rest) in
        let a = statement_length spare layout at h s in
        let b = block_length spare (with_lets layout s) (behind s at) (hidden_behind s h) last rest in
        omega (arith, l, a, b)

  routine_length : (at : ℕ) (r : Routine) → length (routine_code procedures at r) ≡ routine_capsules r
  routine_length at (OfText p h) = block_length (named_slots p) (parameter_layout p.parameters) at h (Gives p.give) p.body
  routine_length at (Hidden s) =
      let spare = hidden_named_slots (length s.names) s.block in
      let a = block_length spare (s.part ∷ s.index ∷ s.names) (element_block at) (suc s.number) (Gives None) s.block in
      omega (arith, a)

  capsules_length : (q at : ℕ) (rs : List Routine) → length (capsules_from procedures q at rs) ≡ all_capsules rs
  capsules_length q at [] = refl
  capsules_length q at (r ∷ rs) =
      let own = map (λ is. record { procedure = q; instrs = is }) (routine_code procedures at r) in
      let l = length-append own (capsules_from procedures (suc q) (routine_behind r at) rs) in
      let a = length-map {B = Capsule} (routine_code procedures at r) (λ is. record { procedure = q; instrs = is }) in
      let b = routine_length at r in
      let c = capsules_length (suc q) (routine_behind r at) rs in
      let d = sum_by-cons (λ x. x) (routine_capsules r) (map routine_capsules rs) in
      omega (arith, l, a, b, c, d)

-- with those of the hidden procedures, the capsules of statements are as many as are counted at most
mutual
  statement_need : (layout : Layout) (h : ℕ) (s : Statement) → own_capsules s + all_capsules (hidden_of layout h s) ≤ need (statement_and_inner s)
  statement_need layout h (tree.Let x e) = omega arith
  statement_need layout h (tree.Assign x e) = omega arith
  statement_need layout h (tree.Put x index e) = omega arith
  statement_need layout h (tree.If e holds other) =
      let between = hidden_behind_block holds h in
      let l = all_capsules-append (hidden_of_block layout h holds) (hidden_of_block layout between other) in
      let a = block_need layout h holds in
      let b = block_need layout between other in
      let c = sum_by-cons (λ x. x) 4 (map capsules_at (statements_in holds ++ statements_in other)) in
      let d = need-append (statements_in holds) (statements_in other) in
      omega (arith, l, a, b, c, d)
  statement_need layout h (tree.While e block) =
      let a = block_need layout h block in
      let c = sum_by-cons (λ x. x) 4 (map capsules_at (statements_in block)) in
      omega (arith, a, c)
  statement_need layout h (tree.Call s) = omega arith
  statement_need layout h (tree.Fork s t) = omega arith
  statement_need layout h (tree.Split line r e x y block) =
      let a = block_need (with_parts layout x y) h block in
      let c = sum_by-cons (λ x. x) 4 (map capsules_at (statements_in block)) in
      omega (arith, a, c)
  statement_need layout h (tree.Each i x r block) =
      let a = block_need (hidden_layout layout i x block) (suc h) block in
      let c = sum_by-cons (λ x. x) 22 (map capsules_at (statements_in block)) in
      let d = sum_by-cons (λ x. x) (3 + block_capsules block)
      (map routine_capsules (hidden_of_block (hidden_layout layout i x block) (suc h) block)) in
      omega (arith, a, c, d)

  -- a block has one capsule more, with which it ends
  block_need : (layout : Layout) (h : ℕ) (b : Block) → block_capsules b + all_capsules (hidden_of_block layout h b) ≤ need (statements_in b) + 1
  block_need layout h Nil = omega arith
  block_need layout h (Then s rest) =
      let l = all_capsules-append (hidden_of layout h s) (hidden_of_block (with_lets layout s) (hidden_behind s h) rest) in
      let a = statement_need layout h s in
      let b = block_need (with_lets layout s) (hidden_behind s h) rest in
      let d = need-append (statement_and_inner s) (statements_in rest) in
      omega (arith, l, a, b, d)

routines_need : (h : ℕ) (ps : List Procedure) → all_capsules (texts_from h ps) + all_capsules (hidden_from h ps) ≤ sum (map capsules_of ps)
routines_need h [] = omega arith
routines_need h (p ∷ ps) =
    let next = hidden_behind_block p.body h in
    let layout = parameter_layout p.parameters in
    let k = routines_need next ps in
    let l = all_capsules-append (hidden_of_block layout h p.body) (hidden_from next ps) in
    let a = block_need layout h p.body in
    let c = sum_by-cons (λ x. x) (capsules_of p) (map capsules_of ps) in
    let d = sum_by-cons (λ x. x) (block_capsules p.body) (map routine_capsules (texts_from next ps)) in
    let n = need_of_procedure p in
    omega (arith, k, l, a, c, d, n)

-- the capsules of a code
pub capsules_count : (ps : List Procedure) → length (capsules_from ps 0 0 (routines_of ps)) ≤ sum (map capsules_of ps)
capsules_count ps =
    let n = length ps in
    let a = capsules_length ps 0 0 (routines_of ps) in
    let b = all_capsules-append (texts_from n ps) (hidden_from n ps) in
    let c = routines_need n ps in
    omega (arith, a, b, c)
