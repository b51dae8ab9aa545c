-- Fields of bits, which fill a word from its lowest bit on.
use Rattle.std.specs.Prelude.{ℕ, ◌+◌, ◌*◌, ◌/◌, ◌%◌, ◌^◌, ◌<◌, List, [], ◌∷◌}

-- so many bits, and the number in them
pub data Field : Type 0 where
  Bits : (width value : ℕ) → Field

-- the number that the fields make, the first in the lowest bits
unfoldable pub number_of : List Field → ℕ
number_of [] = 0
number_of (Bits width value ∷ above) = number_of above * 2 ^ width + value

-- each number fits its bits
abbrev pub Fit : List Field → Type 0
Fit [] = Unit {0}
Fit (Bits width value ∷ above) = (value < 2 ^ width) × Fit above

-- the number in so many bits of a word, from bit `from` on
unfoldable pub bits : (from width word : ℕ) → ℕ
bits from width word = word / 2 ^ from % 2 ^ width
