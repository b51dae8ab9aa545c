-- The laws of numbers in decimal: each is spelled in one way.
use Rattle.std.specs.Prelude.{◌≡◌, ℕ, ◌<◌, ◌^◌, true, List, decimal}
use Rattle.ppm_pieces.specs.Numbers.{is_numeral, value, value_limit}

-- a number's decimal digits are its one spelling, and no other bytes are one
pub record NumeralsAreDecimals : Type 0 where
  pub numeral : (n : ℕ) → n < 2 ^ 64 → is_numeral (decimal n) ≡ true
  pub value_of : (n : ℕ) → n < 2 ^ 64 → value (decimal n) ≡ n
  pub spelled : (bytes : List ℕ) → is_numeral bytes ≡ true → value bytes < value_limit → decimal (value bytes) ≡ bytes
