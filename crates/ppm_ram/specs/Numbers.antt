-- What the words of a line say. `None` is of a word that has not its form, and `Some None` of a number out of its range.
use Rattle.std.specs.Prelude.{◌≡◌, refl, ℕ, ◌-◌, ◌^◌, ◌==◌, min, ℤ, pos, negsuc, Bool, true, false, not, ◌&&◌, nat_lt, nat_le, if◌then◌else◌, List, [], ◌∷◌, ◌++◌}
use Rattle.std.specs.Prelude.{Option, Some, None}
use Rattle.std.proofs.lemmas.Bool.{ltb-true}
use Rattle.ppm_pieces.specs.Numbers.{is_numeral, value}
use Rattle.ppm_ram.specs.declared.register.Register.{Register}

-- two words: both have their forms, and both numbers are in range
abbrev pub in_range_both : {A B : Type 0} → Option A → Option B → Option (A × B)
in_range_both None b = None
in_range_both (Some x) None = None
in_range_both (Some x) (Some y) = Some (x, y)

abbrev pub pair_of : {A B : Type 0} → Option (Option A) → Option (Option B) → Option (Option (A × B))
pair_of None b = None
pair_of (Some a) None = None
pair_of (Some a) (Some b) = Some (in_range_both a b)

-- what is made of what a word says
abbrev pub made_of : {A B : Type 0} → (A → B) → Option (Option A) → Option (Option B)
made_of f None = None
made_of f (Some None) = Some None
made_of f (Some (Some x)) = Some (Some (f x))

-- the register with a number, if there is one
abbrev pub register_by : (n : ℕ) → (small : Bool) → nat_lt n 8 ≡ small → Option Register
register_by n true h = Some (record { index = n; in_range = ltb-true n 8 h })
register_by n false h = None

abbrev pub register_with : ℕ → Option Register
register_with n = register_by n (nat_lt n 8) refl

-- the register that a word names
abbrev pub register_in : List ℕ → Option (Option Register)
register_in word = if is_numeral word then Some (register_with (value word)) else None

-- the instruction that a word names; one past 2^32 - 1 stands as that
abbrev pub target_in : List ℕ → Option (Option ℕ)
target_in word = if is_numeral word then Some (Some (min (value word) (2 ^ 32 - 1))) else None

-- a number from 0 on, if it is a value
abbrev pub from_zero : ℕ → Option ℤ
from_zero n = if nat_lt n (2 ^ 63) then Some (pos n) else None

-- the negative of a number above 0, if it is a value
abbrev pub below_zero : ℕ → Option ℤ
below_zero n = if nat_le n (2 ^ 63) then Some (negsuc (n - 1)) else None

-- the number of digits after a minus: not 0
abbrev pub negative_in : List ℕ → Option (Option ℤ)
negative_in digits = if is_numeral digits && not (value digits == 0) then Some (below_zero (value digits)) else None

-- the number of digits
abbrev pub natural_in : List ℕ → Option (Option ℤ)
natural_in digits = if is_numeral digits then Some (from_zero (value digits)) else None

-- the value that a word spells
abbrev pub value_in : List ℕ → Option (Option ℤ)
value_in [] = None
value_in (b ∷ bs) = if b == 45 then negative_in bs else natural_in (b ∷ bs)

-- the values that words spell
abbrev pub values_in : List (List ℕ) → Option (Option (List ℤ))
values_in [] = Some (Some [])
values_in (w ∷ ws) = made_of (λ (p : ℤ × List ℤ). p.0 ∷ p.1) (pair_of (value_in w) (values_in ws))
