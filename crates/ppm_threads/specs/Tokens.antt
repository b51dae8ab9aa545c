-- Tokens that wake a processor which has parked.
use Rattle.std.specs.Prelude.{◌≡◌, ℕ, ◌+◌, ◌≤◌, Bool, true, false, List, [], ◌∷◌}
use Rattle.ppm_threads.specs.declared.parking.Credit.{Credit}

-- so many tokens given and taken
abbrev pub credit : (given taken : ℕ) → Credit
credit given taken = record { given = given; taken = taken }

abbrev pub token_count : Bool → ℕ
token_count true = 1
token_count false = 0

-- in all
abbrev pub given_in : List Credit → ℕ
given_in [] = 0
given_in (c ∷ cs) = c.given + given_in cs

abbrev pub taken_in : List Credit → ℕ
taken_in [] = 0
taken_in (c ∷ cs) = c.taken + taken_in cs

-- no more tokens were taken than given, and the one that is there was not taken
abbrev pub Balanced : (token : Bool) → List Credit → Type 0
Balanced token views = token_count token + taken_in views ≤ given_in views

-- a pass has given one more, or taken one
abbrev pub gave : Credit → Bool → Bool → Credit → Type 0
gave v before now w = w ≡ credit (v.given + 1) v.taken

abbrev pub took : Credit → Bool → Bool → Credit → Type 0
took v before now w = w ≡ credit v.given (v.taken + 1)
