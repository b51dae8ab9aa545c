-- How large a code may be.
use Rattle.std.specs.Prelude.{ℕ}
-- procedures of a code, capsules of a code, block words that one capsule may ask for, lines of a source
pub use Rattle.ppm_words.specs.Limits.{procedure_limit, capsule_limit, room_limit, line_limit}

-- instructions of a capsule
abbrev pub instr_limit : ℕ
instr_limit = 160

-- slots of a procedure
abbrev pub slot_limit : ℕ
slot_limit = 25
