-- The instructions of an expression: its value comes into one register, and those from that one on are used.
use Rattle.std.specs.Prelude.{ℕ, suc, ◌+◌, pos, List, ◌∷◌}
use Rattle.ppm_code.specs.declared.instr.Instr.{Instr}
use Rattle.ppm_code.specs.declared.instr.Instr.TheVariants as instr
use Rattle.ppm_tree.specs.declared.operator.Operator.{Operator}
use Rattle.ppm_tree.specs.declared.operator.Operator.TheVariants as operator
use Rattle.ppm_tree.specs.Tree.{Expression}
use Rattle.ppm_tree.specs.Tree as tree
use Rattle.ppm_cut_code.specs.Layout.{Layout, slot_of, register}

-- how many instructions an operator has after its right operand, and how many before that
abbrev pub last_size : Operator → ℕ
last_size operator.And = 2
last_size operator.Or = 2
last_size o = 1

abbrev pub branch_size : Operator → ℕ
branch_size operator.And = 1
branch_size operator.Or = 1
branch_size o = 0

-- how many instructions an expression has
abbrev pub size_of : Expression → ℕ
size_of (tree.Number z) = 1
size_of (tree.Name x) = 1
size_of (tree.Element x index) = size_of index + 2
size_of (tree.Len x) = 2
size_of (tree.Minus line e) = suc (size_of e) + 1
size_of (tree.Binary o line left right) = size_of left + branch_size o + size_of right + last_size o

-- 1 where the word in a register isn't 0, else 0
abbrev pub truth_code : (d : ℕ) → List Instr → List Instr
truth_code d rest = instr.Const (register (suc d)) (pos 0) ∷ instr.NotEqual (register d) (register d) (register (suc d)) ∷ rest

-- what an operator does with the operands in registers d and d + 1
abbrev pub operator_code : Operator → (line d : ℕ) → List Instr → List Instr
operator_code operator.Add line d rest = instr.Add (register d) (register d) (register (suc d)) line ∷ rest
operator_code operator.Sub line d rest = instr.Sub (register d) (register d) (register (suc d)) line ∷ rest
operator_code operator.Mul line d rest = instr.Mul (register d) (register d) (register (suc d)) line ∷ rest
operator_code operator.Div line d rest = instr.Div (register d) (register d) (register (suc d)) line ∷ rest
operator_code operator.Rem line d rest = instr.Rem (register d) (register d) (register (suc d)) line ∷ rest
operator_code operator.Eq line d rest = instr.Equal (register d) (register d) (register (suc d)) ∷ rest
operator_code operator.Ne line d rest = instr.NotEqual (register d) (register d) (register (suc d)) ∷ rest
operator_code operator.Lt line d rest = instr.Less (register d) (register d) (register (suc d)) ∷ rest
operator_code operator.Le line d rest = instr.AtMost (register d) (register d) (register (suc d)) ∷ rest
operator_code operator.Gt line d rest = instr.Less (register d) (register (suc d)) (register d) ∷ rest
operator_code operator.Ge line d rest = instr.AtMost (register d) (register (suc d)) (register d) ∷ rest
operator_code operator.And line d rest = truth_code d rest
operator_code operator.Or line d rest = truth_code d rest

-- the register of the right operand: `&&` and `||` leave the left one out where they go on with the right one
abbrev pub right_register : Operator → ℕ → ℕ
right_register operator.And d = d
right_register operator.Or d = d
right_register o d = suc d

-- a branch past the right operand, for an operator that the left one may decide
abbrev pub branch_code : Operator → (d target : ℕ) → List Instr → List Instr
branch_code operator.And d target rest = instr.BranchZero (register d) target ∷ rest
branch_code operator.Or d target rest = instr.BranchNonZero (register d) target ∷ rest
branch_code o d target rest = rest

-- the instructions of an expression, the first of which has the number `at` in its capsule, in front of others
abbrev pub expression_code : Layout → Expression → (d at : ℕ) → List Instr → List Instr
expression_code layout (tree.Number z) d at rest = instr.Const (register d) z ∷ rest
expression_code layout (tree.Name x) d at rest = instr.LoadSlot (register d) (slot_of layout x.name) ∷ rest
expression_code layout (tree.Element x index) d at rest =
    expression_code layout index d at
    (instr.LoadSlot (register (suc d)) (slot_of layout x.name) ∷ instr.Get (register d) (register (suc d)) (register d) x.line ∷ rest)
expression_code layout (tree.Len x) d at rest =
    instr.LoadSlot (register d) (slot_of layout x.name) ∷ instr.Len (register d) (register d) ∷ rest
expression_code layout (tree.Minus line e) d at rest =
    instr.Const (register d) (pos 0) ∷ expression_code layout e (suc d) (suc at) (instr.Sub (register d) (register d) (register (suc d)) line ∷ rest)
expression_code layout (tree.Binary o line left right) d at rest =
    let behind_left = at + size_of left in
    let from = behind_left + branch_size o in
    expression_code layout left d at (branch_code o d (from + size_of right)
    (expression_code layout right (right_register o d) from (operator_code o line d rest)))
