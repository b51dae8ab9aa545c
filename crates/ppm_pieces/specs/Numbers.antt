-- Numbers in decimal, each with its one spelling.
use Rattle.std.specs.Prelude.{ℕ, ◌+◌, ◌-◌, ◌*◌, ◌^◌, ◌==◌, min, Bool, true, false, ◌&&◌, nat_le, nat_lt, if◌then◌else◌, List, [], ◌∷◌, Option, Some, None}
use Rattle.std.specs.List.{list_all}

-- a decimal digit
abbrev pub is_digit : ℕ → Bool
is_digit b = nat_le 48 b && nat_le b 57

abbrev pub is_empty : {A : Type 0} → List A → Bool
is_empty [] = true
is_empty (x ∷ xs) = false

-- the one spelling of a number: digits, one at least, and no zero in front of others
abbrev pub is_numeral : List ℕ → Bool
is_numeral [] = false
is_numeral (d ∷ ds) = if d == 48 then is_empty ds else list_all is_digit (d ∷ ds)

-- the number that digits stand for, after one that came before
abbrev pub value_from : ℕ → List ℕ → ℕ
value_from before [] = before
value_from before (d ∷ ds) = value_from (before * 10 + (d - 48)) ds

-- a number past every range
abbrev pub value_limit : ℕ
value_limit = 2 ^ 64 - 1

-- the number of digits; one past the limit stands as that
abbrev pub value : List ℕ → ℕ
value ds = min (value_from 0 ds) value_limit

-- the number that is written so, if it is below 2^32
abbrev pub number_of : List ℕ → Option ℕ
number_of ds = if is_numeral ds then (if nat_lt (value ds) (2 ^ 32) then Some (value ds) else None) else None
