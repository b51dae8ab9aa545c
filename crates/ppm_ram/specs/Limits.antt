-- How large a RAM may be.
use Rattle.std.specs.Prelude.{ℕ, ◌+◌}

-- registers
abbrev pub register_limit : ℕ
register_limit = 8

-- instructions
abbrev pub instruction_limit : ℕ
instruction_limit = 30000

-- bytes of a text
abbrev pub text_limit : ℕ
text_limit = 1048576

-- the line of the text in which an instruction stands: instructions count from 0, lines from 1, and three lines come first
abbrev pub line_of : (number : ℕ) → ℕ
line_of number = number + 4
