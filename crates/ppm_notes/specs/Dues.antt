-- The words of a line of a saved text, or of a line of a case above its listing: what may stand at each place, and what is said of the first that may not.
use Rattle.std.specs.Prelude.{ℕ, suc, ◌-◌, ◌==◌, if◌then◌else◌, Bool, true, false, not, ◌&&◌, ◌||◌, nat_le, nat_lt, is_some, List, [], ◌∷◌, ◌++◌, get_or, codes, decimal, Option, Some, None}
use Rattle.std.specs.Str.{bytes_eq}
use Rattle.ppm_pieces.specs.Numbers.{is_numeral, value}
use Rattle.ppm_pieces.specs.Pieces.{split}
use Rattle.ppm_case.specs.Spelling.{is_array_name, run_in}
use Rattle.ppm_case.specs.Rules.{said_fits}
use Rattle.ppm_saved_reader.specs.Lines.{run_in as run_of}
use Rattle.ppm_saved_reader.specs.Rules.{is_from_to}
use Rattle.ppm_explain.specs.Places.{line_bytes}
use Rattle.ppm_explain.specs.Words.{counted_text, quoted}
use Rattle.ppm_notes.specs.declared.due.Due.{Due}
use Rattle.ppm_notes.specs.declared.due.Due.TheVariants as due
use Rattle.ppm_notes.specs.declared.due.Literal.{Literal}
use Rattle.ppm_notes.specs.declared.due.Literal.TheVariants as literal
use Rattle.ppm_notes.specs.Words.{after_words}
use Rattle.ppm_notes.specs.Listings.{stop_text}

-- a word that is always the same
abbrev pub spelling : Literal → List ℕ
spelling literal.Saved = codes "saved"
spelling literal.One = codes "1"
spelling literal.Shape = codes "shape"
spelling literal.Array = codes "array"
spelling literal.Code = codes "code"
spelling literal.Words = codes "words"
spelling literal.Ppm = codes "ppm"
spelling literal.Root = codes "root"

-- whether a run of words has a word of 64 bits
abbrev pub has_word : Option (Option ℕ × ℕ) → Bool
has_word None = false
has_word (Some run) = is_some run.0

-- whether a word may stand where it is due; a range is kept only where it is looked at
abbrev pub may_be : Due → List ℕ → Bool
may_be (due.This l) w = bytes_eq w (spelling l)
may_be (due.Number least most ranged) w = is_numeral w && (not ranged || is_from_to least most (value w))
may_be (due.Length most bound) w = is_numeral w && nat_le (value w) bound
may_be due.Name w = is_array_name w
may_be (due.Value room ranged) w = is_some (run_in w) && (not ranged || said_fits room (run_in w))
may_be (due.Index count) w = is_numeral w && nat_lt (value w) count
may_be (due.Run left ranged) w = is_some (run_of w) && (not ranged || has_word (run_of w))
may_be due.OtherName w = false
may_be due.ArrayOrCode w = false
may_be (due.OtherRun left) w = false
may_be due.EndOfText w = false
may_be due.End w = false

-- a number from one to another
abbrev pub range_text : (least most : ℕ) → List ℕ
range_text least most =
    if least == most then quoted (decimal most) else (codes "a number from " ++ decimal least ++ codes " to " ++ decimal most)

-- a value of an array with room for so many, alone or so often; with room for none the line ends
abbrev pub value_text : (room : ℕ) → List ℕ
value_text room =
    if room == 0 then codes "the end of the line"
    else (counted_text (codes "a value, a value and `*N` with N from 1 to ") room ++ codes ", the end of the line")

-- the number of an array, of so many
abbrev pub index_text : (count : ℕ) → List ℕ
index_text count = if count == 0 then codes "the end of the line" else (range_text 0 (count - 1) ++ codes ", the end of the line")

-- how often a word of a machine may come in a row, where so many are left
abbrev pub often_text : (left : ℕ) → List ℕ
often_text left = if nat_lt 1 left then counted_text (codes ", such a number and `*N` with N from 2 to ") left else []

-- such a word, alone or so often
abbrev pub run_text : (left : ℕ) → List ℕ
run_text left = codes "a number up to 18446744073709551615 but that of the line above" ++ often_text left

-- what could stand there
abbrev pub due_text : Due → List ℕ
due_text (due.This l) = quoted (spelling l)
due_text (due.Number least most ranged) = range_text least most
due_text (due.Length most bound) = range_text 0 most
due_text due.Name = codes "a name that is no word of the language and of no array above"
due_text due.OtherName = codes "a name that is no word of the language and of no array above"
due_text (due.Value room ranged) = value_text room
due_text (due.Index count) = index_text count
due_text due.ArrayOrCode = codes "`array`, `code`"
due_text (due.Run left ranged) = run_text left
due_text (due.OtherRun left) = run_text left
due_text due.EndOfText = codes "the end of the text"
due_text due.End = codes "the end of the line"

-- how many words stand where they are due, in front of the first that may not
abbrev pub standing : List Due → List (List ℕ) → ℕ
standing [] ws = 0
standing (d ∷ ds) [] = 0
standing (d ∷ ds) (w ∷ ws) = if may_be d w then suc (standing ds ws) else 0

-- so many words of a line stand where they are due: the next one, with a mark under it, and what could stand there
abbrev pub stop_after : List ℕ → ℕ → List Due → ℕ → List ℕ
stop_after text line ds n = stop_text text line (after_words n (line_bytes text line)) (due_text (get_or ds n due.End))

-- the first word of a line that may not stand there, and what could; that is the end of the line where all stand where they are due
abbrev pub due_notes : List ℕ → ℕ → List Due → List ℕ
due_notes text line ds = stop_after text line ds (standing ds (split 32 (line_bytes text line)))
