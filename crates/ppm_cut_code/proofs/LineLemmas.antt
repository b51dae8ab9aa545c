-- Trees that differ in lines alone have codes that differ in lines alone: a code without its lines is that of the tree without its lines.
use Rattle.std.proofs.Common.{◌≡◌, ◌+◌, ℕ, zero, suc, pos, List, [], ◌∷◌, length, map, refl, ap, sym, ◌∙◌}
use Rattle.std.specs.Prelude.{Some, None}
use Rattle.ppm_code.specs.declared.act.End.TheVariants as ends
use Rattle.ppm_code.specs.declared.instr.Instr.TheVariants as instr
use Rattle.ppm_tree.specs.declared.operator.Operator.{Operator}
use Rattle.ppm_tree.specs.declared.operator.Operator.TheVariants as operator
use Rattle.ppm_tree.specs.declared.mode.Mode.{Mode}
use Rattle.ppm_tree.specs.declared.mode.Mode.TheVariants as mode
use Rattle.ppm_tree.specs.declared.named.Named.{Named}
use Rattle.ppm_tree.specs.declared.tree.Parameter.{Parameter}
use Rattle.ppm_tree.specs.Tree.{Expression, Argument, Side, Statement, Block, Nil, Then, Give, Procedure, ProgramTree}
use Rattle.ppm_tree.specs.Tree as tree
use Rattle.ppm_tree.specs.State.{procedure_named}
use Rattle.ppm_cut_code.specs.Layout.{Layout, slot_of, target_of, register, caught}
use Rattle.ppm_cut_code.specs.Expressions.{size_of, branch_size, operator_code, right_register, branch_code, expression_code}
use Rattle.ppm_cut_code.specs.Numbers.{halved}
use Rattle.ppm_cut_code.specs.Slots.{procedure_slots, hidden_slots, frame_words, fork_words}
use Rattle.ppm_cut_code.specs.Statements.{Instrs, Last, OnTo, Gives, onward, element_code, test_code, split_code, lent_code}
use Rattle.ppm_cut_code.specs.Statements.{argument_size, argument_code, arguments_size, arguments_code, paired, stores_code, last_code}
use Rattle.ppm_cut_code.specs.Statements.{loads_code, each_code, names_code, halving_code}
use Rattle.ppm_cut_code.specs.Statements.{callee_parameters, callee_number, callee_slots, call_code, fork_code}
use Rattle.ppm_tree.specs.Lines.{bare_name, bare_expression, bare_argument, bare_target, bare_side, bare_block, bare_give}
use Rattle.ppm_tree.specs.Lines.{bare_parameter, bare_procedure}
use Rattle.ppm_cut_code.specs.Lines.{bare_instr}
use Rattle.ppm_cut_code.proofs.BareLemmas.{size_bare, argument_size_bare, arguments_size_bare, paired_bare, target_bare}
use Rattle.ppm_cut_code.proofs.BareLemmas.{caught_bare}
use Rattle.ppm_cut_code.proofs.BareLemmas.{procedure_slots_bare, hidden_slots_bare, named_bare, number_bare}

-- instructions in no line
abbrev pub bare : Instrs → Instrs
bare is = map bare_instr is

-- an operator's code, and an expression's
operator_bare : (o : Operator) (line d : ℕ) (rest : Instrs) → bare (operator_code o line d rest) ≡ operator_code o 0 d (bare rest)
operator_bare operator.Add line d rest = refl
operator_bare operator.Sub line d rest = refl
operator_bare operator.Mul line d rest = refl
operator_bare operator.Div line d rest = refl
operator_bare operator.Rem line d rest = refl
operator_bare operator.Eq line d rest = refl
operator_bare operator.Ne line d rest = refl
operator_bare operator.Lt line d rest = refl
operator_bare operator.Le line d rest = refl
operator_bare operator.Gt line d rest = refl
operator_bare operator.Ge line d rest = refl
operator_bare operator.And line d rest = refl
operator_bare operator.Or line d rest = refl

branch_bare : (o : Operator) (d target : ℕ) (rest : Instrs) → bare (branch_code o d target rest) ≡ branch_code o d target (bare rest)
branch_bare operator.Add d target rest = refl
branch_bare operator.Sub d target rest = refl
branch_bare operator.Mul d target rest = refl
branch_bare operator.Div d target rest = refl
branch_bare operator.Rem d target rest = refl
branch_bare operator.Eq d target rest = refl
branch_bare operator.Ne d target rest = refl
branch_bare operator.Lt d target rest = refl
branch_bare operator.Le d target rest = refl
branch_bare operator.Gt d target rest = refl
branch_bare operator.Ge d target rest = refl
branch_bare operator.And d target rest = refl
branch_bare operator.Or d target rest = refl

pub expression_bare : (layout : Layout) (e : Expression) (d at : ℕ) (rest : Instrs)
    → bare (expression_code layout e d at rest) ≡ expression_code layout (bare_expression e) d at (bare rest)
expression_bare layout (tree.Number z) d at rest = refl
expression_bare layout (tree.Name x) d at rest = refl
expression_bare layout (tree.Element x index) d at rest =
    expression_bare layout index d at
    (instr.LoadSlot (register (suc d)) (slot_of layout x.name) ∷ instr.Get (register d) (register (suc d)) (register d) x.line ∷ rest)
expression_bare layout (tree.Len x) d at rest = refl
expression_bare layout (tree.Minus line e) d at rest =
    ap (λ is. instr.Const (register d) (pos 0) ∷ is)
    (expression_bare layout e (suc d) (suc at) (instr.Sub (register d) (register d) (register (suc d)) line ∷ rest))
expression_bare layout (tree.Binary o line left right) d at rest =
    let from = at + size_of left + branch_size o in
    let last = operator_code o line d rest in
    let second = expression_code layout right (right_register o d) from last in
    let l = sym (size_bare left) in
    let r = sym (size_bare right) in
    expression_bare layout left d at (branch_code o d (from + size_of right) second)
    ∙ ap (expression_code layout (bare_expression left) d at)
    (branch_bare o d (from + size_of right) second
    ∙ ap (branch_code o d (from + size_of right))
    (expression_bare layout right (right_register o d) from last
    ∙ ap (expression_code layout (bare_expression right) (right_register o d) from) (operator_bare o line d rest)))
    ∙ (λ i. expression_code layout (bare_expression left) d at
    (branch_code o d (at + l i + branch_size o + r i)
    (expression_code layout (bare_expression right) (right_register o d) (at + l i + branch_size o) (operator_code o 0 d (bare rest)))))

-- the codes of single capsules
pub element_bare : (layout : Layout) (spare : ℕ) (index value : Expression) (next : ℕ)
    → bare (element_code layout spare index value next) ≡ element_code layout spare (bare_expression index) (bare_expression value) next
element_bare layout spare index value next =
    let stores = instr.StoreCur spare (register 0) ∷ instr.StoreCur (suc spare) (register 1) ∷ onward next in
    let n = sym (size_bare index) in
    expression_bare layout index 0 0 (expression_code layout value 1 (size_of index) stores)
    ∙ ap (expression_code layout (bare_expression index) 0 0) (expression_bare layout value 1 (size_of index) stores)
    ∙ (λ i. expression_code layout (bare_expression index) 0 0 (expression_code layout (bare_expression value) 1 (n i) stores))

pub test_bare : (layout : Layout) (e : Expression) (inside next : ℕ)
    → bare (test_code layout e inside next) ≡ test_code layout (bare_expression e) inside next
test_bare layout e inside next =
    let n = sym (size_bare e) in
    expression_bare layout e 0 0 (instr.BranchZero (register 0) (suc (suc (size_of e))) ∷ instr.Ends (ends.Next inside) ∷ onward next)
    ∙ (λ i. expression_code layout (bare_expression e) 0 0
    (instr.BranchZero (register 0) (suc (suc (n i))) ∷ instr.Ends (ends.Next inside) ∷ onward next))

pub split_bare : (layout : Layout) (line : ℕ) (r : Named) (e : Expression) (next : ℕ)
    → bare (split_code layout line r e next) ≡ split_code layout 0 (bare_name r) (bare_expression e) next
split_bare layout line r e next =
    expression_bare layout e 0 0 (instr.LoadSlot (register 1) (slot_of layout r.name)
    ∷ instr.CutLeft (register 2) (register 1) (register 0) line ∷ instr.CutRight (register 3) (register 1) (register 0) line
    ∷ instr.StoreCur (length layout) (register 2) ∷ instr.StoreCur (suc (length layout)) (register 3) ∷ onward next)

lent_bare : (layout : Layout) (e : Expression) (d : ℕ) → bare_instr (lent_code layout e d) ≡ lent_code layout (bare_expression e) d
lent_bare layout (tree.Number z) d = refl
lent_bare layout (tree.Name x) d = refl
lent_bare layout (tree.Element x index) d = refl
lent_bare layout (tree.Len x) d = refl
lent_bare layout (tree.Minus line e) d = refl
lent_bare layout (tree.Binary o line left right) d = refl

argument_bare : (layout : Layout) (m : Mode) (e : Expression) (d at : ℕ) (rest : Instrs)
    → bare (argument_code layout m e d at rest) ≡ argument_code layout m (bare_expression e) d at (bare rest)
argument_bare layout mode.Int e d at rest = expression_bare layout e d at rest
argument_bare layout mode.Mut e d at rest = ap (λ i. i ∷ bare rest) (lent_bare layout e d)
argument_bare layout mode.Ref e d at rest = ap (λ i. i ∷ bare rest) (lent_bare layout e d)

arguments_bare : (layout : Layout) (ps : List Parameter) (arguments : List Argument) (d at : ℕ) (rest : Instrs)
    → bare (arguments_code layout ps arguments d at rest)
    ≡ arguments_code layout (map bare_parameter ps) (map bare_argument arguments) d at (bare rest)
arguments_bare layout [] arguments d at rest = refl
arguments_bare layout (p ∷ ps) [] d at rest = refl
arguments_bare layout (p ∷ ps) (a ∷ arguments) d at rest =
    let size = argument_size p.mode a.value in
    let n = sym (argument_size_bare p.mode a.value) in
    argument_bare layout p.mode a.value d at (arguments_code layout ps arguments (suc d) (at + size) rest)
    ∙ ap (argument_code layout p.mode (bare_expression a.value) d at) (arguments_bare layout ps arguments (suc d) (at + size) rest)
    ∙ (λ i. argument_code layout p.mode (bare_expression a.value) d at
    (arguments_code layout (map bare_parameter ps) (map bare_argument arguments) (suc d) (at + n i) (bare rest)))

stores_bare : (offset d count : ℕ) (rest : Instrs) → bare (stores_code offset d count rest) ≡ stores_code offset d count (bare rest)
stores_bare offset d zero rest = refl
stores_bare offset d (suc count) rest = ap (λ is. instr.StoreNew offset (register d) ∷ is) (stores_bare (suc offset) (suc d) count rest)

loads_bare : (layout names : Layout) (d : ℕ) (rest : Instrs) → bare (loads_code layout names d rest) ≡ loads_code layout names d (bare rest)
loads_bare layout [] d rest = refl
loads_bare layout (x ∷ names) d rest = ap (λ is. instr.LoadSlot (register d) (slot_of layout x) ∷ is) (loads_bare layout names (suc d) rest)

names_bare : (slot d count : ℕ) (rest : Instrs) → bare (names_code slot d count rest) ≡ names_code slot d count (bare rest)
names_bare slot d zero rest = refl
names_bare slot d (suc count) rest = ap (λ is. instr.LoadSlot (register d) slot ∷ is) (names_bare (suc slot) (suc d) count rest)

-- how a block ends
abbrev pub bare_last : Last → Last
bare_last (OnTo next) = OnTo next
bare_last (Gives g) = Gives (bare_give g)

pub last_bare : (layout : Layout) (last : Last) → bare (last_code layout last) ≡ last_code layout (bare_last last)
last_bare layout (OnTo next) = refl
last_bare layout (Gives None) = refl
last_bare layout (Gives (Some g)) = expression_bare layout g.value 0 0 (instr.Give (register 0) ∷ instr.Ends ends.Finish ∷ [])

-- an `each` and its hidden procedure
abbrev each_with : Layout → Named → (names : Layout) → (slots hidden next : ℕ) → Instrs
each_with layout r names slots hidden next =
    instr.Room (frame_words slots) ∷ instr.LoadSlot (register 0) (slot_of layout r.name) ∷ instr.Const (register 1) (pos 0)
    ∷ loads_code layout names 2 (stores_code 6 0 (suc (suc (length names))) (instr.Ends (ends.Call hidden next None) ∷ []))

pub each_bare : (layout : Layout) (r : Named) (block : Block) (hidden next : ℕ)
    → bare (each_code layout r block hidden next) ≡ each_code layout (bare_name r) (bare_block block) hidden next
each_bare layout r block hidden next =
    let names = caught layout block in
    let call = instr.Ends (ends.Call hidden next None) ∷ [] in
    let front = λ (is : Instrs). instr.Room (frame_words (hidden_slots (length names) block)) ∷ instr.LoadSlot (register 0) (slot_of layout r.name)
    ∷ instr.Const (register 1) (pos 0) ∷ is in
    let same = sym (caught_bare layout block) in
    ap front (loads_bare layout names 2 (stores_code 6 0 (suc (suc (length names))) call)
    ∙ ap (loads_code layout names 2) (stores_bare 6 0 (suc (suc (length names))) call))
    ∙ ap (λ slots. each_with layout r names slots hidden next) (sym (hidden_slots_bare (length names) block))
    ∙ ap (λ (names : Layout). each_with layout r names (hidden_slots (length names) (bare_block block)) hidden next) same

pub halving_bare : (entry hidden slots names line : ℕ) → bare (halving_code entry hidden slots names line) ≡ halving_code entry hidden slots names 0
halving_bare entry hidden slots names line =
    let left_at : ℕ = 11 in
    let right_at : ℕ = 11 + frame_words slots in
    let fork = instr.Ends (ends.Fork hidden hidden (halved entry) None None) ∷ [] in
    let rights = instr.StoreNew right_at (register 3) ∷ instr.StoreNew (suc right_at) (register 5) ∷ stores_code (suc (suc right_at)) 6 names fork in
    let lefts = instr.StoreNew left_at (register 2) ∷ instr.StoreNew (suc left_at) (register 4) ∷ stores_code (suc (suc left_at)) 6 names rights in
    let front = λ (is : Instrs). instr.Room (fork_words slots slots)
    ∷ instr.LoadSlot (register 0) 0 ∷ instr.Len (register 1) (register 0) ∷ instr.Const (register 2) (pos 2)
    ∷ instr.Div (register 1) (register 1) (register 2) 0
    ∷ instr.CutLeft (register 2) (register 0) (register 1) 0 ∷ instr.CutRight (register 3) (register 0) (register 1) 0
    ∷ instr.LoadSlot (register 4) 1 ∷ instr.Add (register 5) (register 4) (register 1) 0 ∷ is in
    ap front (names_bare 2 6 names lefts
    ∙ ap (λ (is : Instrs). names_code 2 6 names (instr.StoreNew left_at (register 2) ∷ instr.StoreNew (suc left_at) (register 4) ∷ is))
    (stores_bare (suc (suc left_at)) 6 names rights
    ∙ ap (λ (is : Instrs). stores_code (suc (suc left_at)) 6 names
    (instr.StoreNew right_at (register 3) ∷ instr.StoreNew (suc right_at) (register 5) ∷ is))
    (stores_bare (suc (suc right_at)) 6 names fork)))

-- a fork, from its numbers
abbrev fork_with : Layout → (l r : List Parameter) → (xs ys : List Argument) → (left_slots right_slots lefts rights size : ℕ) → Instrs → Instrs
fork_with layout l r xs ys left_slots right_slots lefts rights size end =
    instr.Room (fork_words left_slots right_slots)
    ∷ arguments_code layout l xs 0 1 (arguments_code layout r ys lefts (suc size)
    (stores_code 11 0 lefts (stores_code (11 + frame_words left_slots) lefts rights end)))

fork_with_bare : (layout : Layout) (l r : List Parameter) (xs ys : List Argument) (left_slots right_slots lefts rights size : ℕ) (end : Instrs)
    → bare (fork_with layout l r xs ys left_slots right_slots lefts rights size end)
    ≡ fork_with layout (map bare_parameter l) (map bare_parameter r) (map bare_argument xs) (map bare_argument ys)
    left_slots right_slots lefts rights size (bare end)
fork_with_bare layout l r xs ys left_slots right_slots lefts rights size end =
    let right_stores = stores_code (11 + frame_words left_slots) lefts rights end in
    let left_stores = stores_code 11 0 lefts right_stores in
    ap (λ (is : Instrs). instr.Room (fork_words left_slots right_slots) ∷ is)
    (arguments_bare layout l xs 0 1 (arguments_code layout r ys lefts (suc size) left_stores)
    ∙ ap (arguments_code layout (map bare_parameter l) (map bare_argument xs) 0 1)
    (arguments_bare layout r ys lefts (suc size) left_stores
    ∙ ap (arguments_code layout (map bare_parameter r) (map bare_argument ys) lefts (suc size))
    (stores_bare 11 0 lefts right_stores
    ∙ ap (stores_code 11 0 lefts) (stores_bare (11 + frame_words left_slots) lefts rights end))))

module _ (procedures : List Procedure) where
  -- the procedures without their lines
  abbrev pub bares : List Procedure
  bares = map bare_procedure procedures

  callee_parameters_bare : (s : Side) → callee_parameters bares (bare_side s) ≡ map bare_parameter (callee_parameters procedures s)
  callee_parameters_bare s = ap (λ p. p.parameters) (named_bare procedures s.callee.name)

  callee_slots_bare : (s : Side) → callee_slots bares (bare_side s) ≡ callee_slots procedures s
  callee_slots_bare s =
      ap procedure_slots (named_bare procedures s.callee.name) ∙ procedure_slots_bare (procedure_named procedures s.callee.name)

  pub call_bare : (layout : Layout) (s : Side) (next : ℕ) → bare (call_code procedures layout s next) ≡ call_code bares layout (bare_side s) next
  call_bare layout s next =
      let ps = callee_parameters procedures s in
      let end = instr.Ends (ends.Call (callee_number procedures s) next (target_of layout s.target)) ∷ [] in
      let words = sym (callee_slots_bare s) in
      let q = sym (number_bare procedures s.callee.name) in
      let to = sym (target_bare layout s.target) in
      let n = sym (paired_bare ps s.arguments) in
      let parameters = sym (callee_parameters_bare s) in
      ap (λ (is : Instrs). instr.Room (frame_words (callee_slots procedures s)) ∷ is)
      (arguments_bare layout ps s.arguments 0 1 (stores_code 6 0 (paired ps s.arguments) end)
      ∙ ap (arguments_code layout (map bare_parameter ps) (map bare_argument s.arguments) 0 1) (stores_bare 6 0 (paired ps s.arguments) end))
      ∙ (λ i. instr.Room (frame_words (words i))
      ∷ arguments_code layout (map bare_parameter ps) (map bare_argument s.arguments) 0 1
      (stores_code 6 0 (n i) (instr.Ends (ends.Call (q i) next (to i)) ∷ [])))
      ∙ (λ i. instr.Room (frame_words (callee_slots bares (bare_side s)))
      ∷ arguments_code layout (parameters i) (map bare_argument s.arguments) 0 1
      (stores_code 6 0 (paired (parameters i) (map bare_argument s.arguments))
      (instr.Ends (ends.Call (callee_number bares (bare_side s)) next (target_of layout (bare_target s.target))) ∷ [])))

  pub fork_bare : (layout : Layout) (s t : Side) (next : ℕ)
      → bare (fork_code procedures layout s t next) ≡ fork_code bares layout (bare_side s) (bare_side t) next
  fork_bare layout s t next =
      let l = callee_parameters procedures s in
      let r = callee_parameters procedures t in
      let xs = map bare_argument s.arguments in
      let ys = map bare_argument t.arguments in
      let lefts = paired l s.arguments in
      let rights = paired r t.arguments in
      let size = arguments_size l s.arguments in
      let left_slots = sym (callee_slots_bare s) in
      let right_slots = sym (callee_slots_bare t) in
      let lefts_same = sym (paired_bare l s.arguments) in
      let rights_same = sym (paired_bare r t.arguments) in
      let size_same = sym (arguments_size_bare l s.arguments) in
      let p = sym (number_bare procedures s.callee.name) in
      let q = sym (number_bare procedures t.callee.name) in
      let left_to = sym (target_bare layout s.target) in
      let right_to = sym (target_bare layout t.target) in
      let l_same = sym (callee_parameters_bare s) in
      let r_same = sym (callee_parameters_bare t) in
      fork_with_bare layout l r s.arguments t.arguments (callee_slots procedures s) (callee_slots procedures t) lefts rights size
      (instr.Ends (ends.Fork (callee_number procedures s) (callee_number procedures t) next
      (target_of layout s.target) (target_of layout t.target)) ∷ [])
      ∙ (λ i. fork_with layout (map bare_parameter l) (map bare_parameter r) xs ys (left_slots i) (right_slots i)
      (lefts_same i) (rights_same i) (size_same i)
      (instr.Ends (ends.Fork (p i) (q i) next (left_to i) (right_to i)) ∷ []))
      ∙ (λ i. fork_with layout (l_same i) (r_same i) xs ys (callee_slots bares (bare_side s)) (callee_slots bares (bare_side t))
      (paired (l_same i) xs) (paired (r_same i) ys) (arguments_size (l_same i) xs)
      (instr.Ends (ends.Fork (callee_number bares (bare_side s)) (callee_number bares (bare_side t)) next
      (target_of layout (bare_target s.target)) (target_of layout (bare_target t.target))) ∷ []))
