-- What operators do to values.
use Rattle.std.specs.Prelude.{ℤ, pos, negsuc, ◌+ℤ◌, ◌-ℤ◌, ◌*ℤ◌, neg_ℤ, int_div, int_rem, int_lt, int_le}
use Rattle.std.specs.Prelude.{Bool, true, false, ◌&&◌, ◌||◌, not, nat_lt, Option, Some, None, Result, Ok, Err, if◌then◌else◌}
use Rattle.std.specs.Ordering.{int_eq}
use Rattle.ppm_words.specs.Limits.{value_bound}
use Rattle.ppm_words.specs.declared.trap.Trap.{Trap}
use Rattle.ppm_words.specs.declared.trap.Trap.TheVariants as trap
use Rattle.ppm_tree.specs.declared.operator.Operator.{Operator}
use Rattle.ppm_tree.specs.declared.operator.Operator.TheVariants as operator

-- a value of the language: from -2^63 to 2^63 - 1
abbrev pub fits : ℤ → Bool
fits (pos n) = nat_lt n value_bound
fits (negsuc n) = nat_lt n value_bound

-- a result, which overflows where it is no value
abbrev pub in_range : ℤ → Result ℤ Trap
in_range z = if fits z then Ok z else Err trap.Overflow

-- whether a test holds: it does where its value isn't 0
abbrev pub holds : ℤ → Bool
holds z = not (int_eq z (pos 0))

-- 1 where it is so, else 0
abbrev pub truth : Bool → ℤ
truth true = pos 1
truth false = pos 0

-- a result of a division of x by y: none by 0, and an overflow where the quotient is no value
abbrev pub divided : ℤ → ℤ → ℤ → Result ℤ Trap
divided x y z = if int_eq y (pos 0) then Err trap.DivZero else if fits (int_div x y) then Ok z else Err trap.Overflow

-- the value of an operator at two values
abbrev pub applied : Operator → ℤ → ℤ → Result ℤ Trap
applied operator.Add x y = in_range (x +ℤ y)
applied operator.Sub x y = in_range (x -ℤ y)
applied operator.Mul x y = in_range (x *ℤ y)
applied operator.Div x y = divided x y (int_div x y)
applied operator.Rem x y = divided x y (int_rem x y)
applied operator.Eq x y = Ok (truth (int_eq x y))
applied operator.Ne x y = Ok (truth (not (int_eq x y)))
applied operator.Lt x y = Ok (truth (int_lt x y))
applied operator.Le x y = Ok (truth (int_le x y))
applied operator.Gt x y = Ok (truth (int_lt y x))
applied operator.Ge x y = Ok (truth (int_le y x))
applied operator.And x y = Ok (truth (holds x && holds y))
applied operator.Or x y = Ok (truth (holds x || holds y))

-- the value of an operator that its left operand decides alone
abbrev pub decided : Operator → ℤ → Option ℤ
decided operator.And x = if holds x then None else Some (pos 0)
decided operator.Or x = if holds x then Some (pos 1) else None
decided operator.Add x = None
decided operator.Sub x = None
decided operator.Mul x = None
decided operator.Div x = None
decided operator.Rem x = None
decided operator.Eq x = None
decided operator.Ne x = None
decided operator.Lt x = None
decided operator.Le x = None
decided operator.Gt x = None
decided operator.Ge x = None

-- the value with the other sign
abbrev pub negated : ℤ → Result ℤ Trap
negated x = in_range (neg_ℤ x)
