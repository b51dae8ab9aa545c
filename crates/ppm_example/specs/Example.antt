-- The program of the text that `self` makes: the sum of an array by halves.
use Rattle.std.specs.Prelude.{ℕ, zero, suc, ◌+◌, ℤ, pos, List, [], ◌∷◌, None, codes}
use Rattle.ppm_plan.specs.Sources.{value_at}
use Rattle.ppm_tree.specs.declared.mode.Mode.TheVariants as mode
use Rattle.ppm_tree.specs.declared.operator.Operator.TheVariants as operator
use Rattle.ppm_tree.specs.declared.named.Named.{Named}
use Rattle.ppm_tree.specs.Tree.{Expression, Number, Name, Element, Len, Binary, Side, Statement, Put, If, Call, Fork, Split}
use Rattle.ppm_tree.specs.Tree.{Block, Nil, Then, Procedure, ProgramTree}

-- so many values of the array from element i on
abbrev pub values_drawn : (x i count : ℕ) → List ℤ
values_drawn x i zero = []
values_drawn x i (suc count) = pos (value_at x i) ∷ values_drawn x (i + 1) count

-- and their sum
abbrev pub sum_drawn : (x i count : ℕ) → ℕ
sum_drawn x i zero = 0
sum_drawn x i (suc count) = value_at x i + sum_drawn x (i + 1) count

-- a name in a line
abbrev pub named : List ℕ → (line : ℕ) → Named
named name line = record { name = name; line = line }

-- the array, the parts of a region and the procedures
abbrev pub a : (line : ℕ) → Named
a line = named (codes "a") line

abbrev pub l : Named
l = named (codes "l") 3

abbrev pub r : Named
r = named (codes "r") 3

abbrev pub sum : (line : ℕ) → Named
sum line = named (codes "sum") line

-- `sum` of a region
abbrev pub sum_of : Named → Side
sum_of x = record { target = None; callee = sum x.line; arguments = record { line = x.line; value = Name x } ∷ [] }

-- the one statement of a block
abbrev pub alone : Statement → Block
alone s = Then s Nil

-- the first value of a region
abbrev pub first_of : Named → Expression
first_of x = Element x (Number (pos 0))

-- `fork sum(l) and sum(r);`, and then `l[0] = l[0] + r[0];`
abbrev pub both_halves : Block
both_halves = Then (Fork (sum_of l) (sum_of r)) (alone (Put l (Number (pos 0)) (Binary operator.Add 3 (first_of l) (first_of r))))

-- they are done for the halves of a region of more than one value
abbrev pub sum_body : Block
sum_body =
    alone (If (Binary operator.Gt 3 (Len (a 3)) (Number (pos 1)))
    (alone (Split 3 (a 3) (Binary operator.Div 3 (Len (a 3)) (Number (pos 2))) l r both_halves)) Nil)

-- a procedure with a region to write, named as the array
abbrev pub procedure : Named → Block → Procedure
procedure name body = record {
  name = name;
  parameters = record { mode = mode.Mut; name = a name.line } ∷ [];
  body = body;
  give = None;
}

-- `sum`, and `main`, which sums the whole array
abbrev pub procedures : List Procedure
procedures = procedure (sum 3) sum_body ∷ procedure (named (codes "main") 4) (alone (Call (sum_of (a 4)))) ∷ []

-- the array of so many values, drawn by a seed, and both procedures
abbrev pub example_tree : (size x : ℕ) → ProgramTree
example_tree size x = record {
  arrays = record { name = a 1; words = size } ∷ [];
  procedures = procedures;
  inputs = record { name = a 2; values = values_drawn x 0 size } ∷ [];
}
