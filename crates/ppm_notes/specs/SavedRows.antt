-- What is due in a line of a saved text, by where it stands, and by the rules of the refusal's number and of those below it.
use Rattle.std.specs.Prelude.{ℕ, zero, suc, ◌+◌, ◌-◌, ◌*◌, ◌/◌, ◌==◌, min, if◌then◌else◌, Bool, ◌&&◌, nat_le, nat_lt, List, [], ◌∷◌, length, take, drop, codes, Option, Some, None}
use Rattle.std.specs.Str.{bytes_eq}
use Rattle.ppm_words.specs.Limits.{array_limit, word_limit, processor_limit}
use Rattle.ppm_pieces.specs.Numbers.{value}
use Rattle.ppm_pieces.specs.Pieces.{split}
use Rattle.ppm_cells.specs.Limits.{most_saved_pool_words}
use Rattle.ppm_saved_reader.specs.Lines.{run_in}
use Rattle.ppm_saved_reader.specs.Rules.{is_from_to, line_feeds}
use Rattle.ppm_explain.specs.Places.{line_bytes}
use Rattle.ppm_notes.specs.declared.due.Due.{Due}
use Rattle.ppm_notes.specs.declared.due.Due.TheVariants as due
use Rattle.ppm_notes.specs.declared.due.Literal.TheVariants as literal
use Rattle.ppm_notes.specs.Words.{first_piece, first_word, text_after, word_at}
use Rattle.ppm_notes.specs.Rows.{any_number, arrays_in, is_array, is_named_in, left_by, name_due, room_in}

-- the number after the first word of a line
abbrev pub count_of : List ℕ → ℕ
count_of line = value (word_at 1 line)

-- how many lines of arrays stand below the first two
abbrev pub arrays_of : List ℕ → ℕ
arrays_of text = arrays_in (split 10 (text_after 2 text))

-- the line of the code, by its number
abbrev pub code_line : List ℕ → ℕ
code_line text = arrays_of text + 3

-- how many bytes the code has
abbrev pub code_bytes : List ℕ → ℕ
code_bytes text = count_of (line_bytes text (code_line text))

-- how many lines it has
abbrev pub code_lines : List ℕ → ℕ
code_lines text = line_feeds (take (code_bytes text) (text_after (code_line text) text))

-- the text below it: the count of words, and the words
abbrev pub below_code : List ℕ → List ℕ
below_code text = drop (code_bytes text) (text_after (code_line text) text)

-- the most words of room for each of so many processors
abbrev pub most_room : ℕ → ℕ
most_room processors =
    if is_from_to 1 processor_limit processors then most_saved_pool_words / processors else most_saved_pool_words

-- the sizes
abbrev pub sizes_row : (ranged : Bool) → (processors : ℕ) → List Due
sizes_row ranged processors =
    due.This literal.Shape ∷ due.Number 1 processor_limit ranged ∷ due.Number 64 (most_room processors) ranged
    ∷ due.Number 2 4096 ranged ∷ []

-- an array after so many others, where there is room for so many words
abbrev pub named_row : (number above room : ℕ) → (is_twice : Bool) → List Due
named_row number above room is_twice =
    if (number == 2) && nat_le array_limit above then due.This literal.Code ∷ []
    else due.This literal.Array ∷ name_due is_twice ∷ due.Length room (if number == 2 then room else any_number) ∷ []

-- the code, after which so many bytes follow
abbrev pub code_row : (follow : ℕ) → List Due
code_row follow = due.This literal.Code ∷ due.Length follow follow ∷ []

-- a line that is neither
abbrev pub other_row : (above : ℕ) → List Due
other_row above = if nat_le array_limit above then due.This literal.Code ∷ [] else due.ArrayOrCode ∷ []

-- a line that may be that of an array, or of the code, by its first word
abbrev pub head_row : (number : ℕ) → List ℕ → ℕ → List Due
head_row number text line =
    let bytes = line_bytes text line in
    let arrays = split 10 (text_after 2 text) in
    if is_array bytes
    then named_row number (line - 3) (room_in (line - 3) arrays) (is_named_in (line - 3) arrays (word_at 1 bytes))
    else if bytes_eq (first_word bytes) (codes "code") then code_row (length (text_after line text))
    else other_row (line - 3)

-- how many words a machine has, of so many processors, words of room, slots and words of arrays
abbrev pub words_for : (processors room slots words : ℕ) → ℕ
words_for processors room slots words = 1 + 2 * processors + processors * (5 + slots + room) + words

-- how many words the sizes and the arrays of a text say; a size past its range counts as the end of that
abbrev pub words_due : List ℕ → ℕ
words_due text =
    let sizes = line_bytes text 2 in
    words_for (min (value (word_at 1 sizes)) processor_limit) (min (value (word_at 2 sizes)) most_saved_pool_words) (min (value (word_at 3 sizes)) 4096)
    (word_limit - room_in (arrays_of text) (split 10 (text_after 2 text)))

-- the count of words
abbrev pub count_row : (number count : ℕ) → List Due
count_row number count = due.This literal.Words ∷ due.Number count count (number == 5) ∷ []

-- how many words a line stands for
abbrev pub times_of : Option (Option ℕ × ℕ) → ℕ
times_of None = 0
times_of (Some run) = run.1

abbrev pub times_in : List ℕ → ℕ
times_in line = times_of (run_in line)

-- how many words are left in front of a line
abbrev pub runs_left : List ℕ → ℕ → ℕ
runs_left text line =
    left_by times_in (count_of (line_bytes (below_code text) 1)) (line - code_line text - code_lines text - 2)
    (split 10 (text_after 1 (below_code text)))

-- the word of a line, as it is spelled
abbrev pub digits_in : List ℕ → List ℕ
digits_in line = first_piece 42 line

-- a word in front of which so many are left; the line above may have the same
abbrev pub run_due : (number left : ℕ) → (is_same : Bool) → Due
run_due number left is_same =
    if left == 0 then due.EndOfText else if is_same then due.OtherRun left else due.Run left (number == 2)

abbrev pub run_row : (number : ℕ) → List ℕ → ℕ → List Due
run_row number text line =
    run_due number (runs_left text line) (bytes_eq (digits_in (line_bytes text line)) (digits_in (line_bytes text (line - 1)))) ∷ []

-- the version
abbrev pub version_row : List Due
version_row = due.This literal.Saved ∷ due.This literal.One ∷ []

-- what is due in a line of a saved text that is refused by this number
abbrev pub saved_row : (number : ℕ) → List ℕ → ℕ → List Due
saved_row number text line =
    if line == 1 then version_row
    else if line == 2 then sizes_row (number == 2) (count_of (line_bytes text 2))
    else if nat_le line (code_line text) then head_row number text line
    else if line - code_line text == code_lines text + 1 then count_row number (words_due text)
    else run_row number text line
