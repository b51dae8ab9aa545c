-- The bytes of a text, each in its class.
use Rattle.std.specs.Prelude.{◌≡◌, ℕ, ◌+◌, ◌*◌, ◌-◌, Bool, not, ◌&&◌, ◌||◌, ◌==◌, nat_le, if◌then◌else◌, List, [], ◌∷◌}
use Rattle.ppm_words.specs.Names.{is_letter, is_digit}
use Rattle.ppm_text.specs.declared.byte_class.ByteClass.{ByteClass}
use Rattle.ppm_text.specs.declared.byte_class.ByteClass.TheVariants.{Letter, Digit, LineFeed, Blank, Hash, Mark, High}

-- a space, a tab or a carriage return
abbrev pub is_blank : ℕ → Bool
is_blank b = b == 32 || b == 9 || b == 13

-- what a byte can begin
abbrev pub class_of : ℕ → ByteClass
class_of b =
    if is_letter b then Letter else
    (if is_digit b then Digit else
    (if b == 10 then LineFeed else
    (if is_blank b then Blank else
    (if b == 35 then Hash else
    (if nat_le b 127 then Mark else High)))))

-- a byte of a comment after its `#`: any of ASCII but the line feed
abbrev pub is_comment_byte : ℕ → Bool
is_comment_byte b = not (b == 10) && nat_le b 127

-- the number that digits stand for, after a number that came before
abbrev pub value_from : ℕ → List ℕ → ℕ
value_from before [] = before
value_from before (b ∷ bs) = value_from (before * 10 + (b - 48)) bs

-- the first byte has the class
abbrev pub BeginsWith : ByteClass → List ℕ → Type 0
BeginsWith class [] = ⊥
BeginsWith class (b ∷ bs) = class_of b ≡ class
