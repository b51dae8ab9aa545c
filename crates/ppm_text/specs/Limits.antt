-- The limits on a text.
use Rattle.std.specs.Prelude.{ℕ}

-- the bytes of a text
abbrev pub text_limit : ℕ
text_limit = 1048576
