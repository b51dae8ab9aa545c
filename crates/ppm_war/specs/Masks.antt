-- Sets of classes as bits of a word.
use Rattle.std.specs.Prelude.{◌≡◌, ℕ, min, List, get_or}
use Rattle.std.specs.Int.{bit_at}
use Rattle.ppm_code.specs.declared.class.Class.{Class}
use Rattle.ppm_code.specs.declared.class.Class.TheVariants.{Slot}

-- the bit of a class: slots below 31 have one each, all other classes share one
abbrev pub class_bit : Class → ℕ
class_bit (Slot slot) = min slot 31
class_bit _ = 31

-- a set has a class, or one with its bit
abbrev pub Has : ℕ → Class → Type 0
Has mask c = bit_at mask (class_bit c) ≡ 1

-- the set at a place has it
abbrev pub HasAt : List ℕ → ℕ → Class → Type 0
HasAt masks place c = Has (get_or masks place 0) c
