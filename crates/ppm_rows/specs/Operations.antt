-- The operators with two operands, level by level.
use Rattle.std.specs.Prelude.{◌==◌, List, [], ◌∷◌, Option, Some, None, if◌then◌else◌}
use Rattle.ppm_text.specs.declared.token.Sign.{Sign}
use Rattle.ppm_text.specs.declared.token.Sign.TheVariants as s
use Rattle.ppm_tree.specs.declared.operator.Operator.{Operator}
use Rattle.ppm_tree.specs.declared.operator.Operator.TheVariants as o
use Rattle.ppm_rows.specs.declared.level.Level.{Level}
use Rattle.ppm_rows.specs.declared.level.Level.TheVariants.{Either, Both, Comparison, Sum, Product}
use Rattle.ppm_rows.specs.Kinds.{mark_number}

-- a sign, and the operator that it stands for
pub record Operation : Type 0 where
  pub sign : Sign
  pub operator : Operator

abbrev pub operation : Sign → Operator → Operation
operation sign operator = record { sign = sign; operator = operator }

-- the operators of a level
abbrev pub operations : Level → List Operation
operations Either = operation s.Either o.Or ∷ []
operations Both = operation s.Both o.And ∷ []
operations Comparison =
    operation s.Equal o.Eq ∷ operation s.NotEqual o.Ne ∷ operation s.Less o.Lt ∷ operation s.LessEqual o.Le ∷ operation s.Greater o.Gt
    ∷ operation s.GreaterEqual o.Ge ∷ []
operations Sum = operation s.Plus o.Add ∷ operation s.Minus o.Sub ∷ []
operations Product = operation s.Times o.Mul ∷ operation s.Divide o.Div ∷ operation s.Remainder o.Rem ∷ []

-- what the first operation with the sign has
abbrev pub operator_among : List Operation → Sign → Option Operator
operator_among [] sign = None
operator_among (x ∷ xs) sign = if mark_number x.sign == mark_number sign then Some x.operator else operator_among xs sign

-- the operator of the level that a sign stands for
abbrev pub operator_at : Level → Sign → Option Operator
operator_at level sign = operator_among (operations level) sign
