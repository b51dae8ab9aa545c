-- What is said of a case or a saved text that is refused, after the line of the refusal.
use Rattle.std.specs.Prelude.{ℕ, ◌==◌, if◌then◌else◌, nat_lt, Bool, true, not, ◌&&◌, ◌||◌, List, [], ◌++◌, length, codes}
use Rattle.ppm_pieces.specs.Pieces.{split}
use Rattle.ppm_case.specs.Rules.{case_limit}
use Rattle.ppm_saved_reader.specs.Rules.{saved_limit}
use Rattle.ppm_answers.specs.declared.case.InputRefusal.{InputRefusal}
use Rattle.ppm_answers.specs.declared.case.UntidyStore.{UntidyStore}
use Rattle.ppm_answers.specs.declared.conflict.ListingRefusal.{ListingRefusal}
use Rattle.ppm_answers.specs.declared.saved.SavedRefusal.{SavedRefusal}
use Rattle.ppm_explain.specs.Meanings.{note_text}
use Rattle.ppm_explain.specs.Places.{line_bytes, line_text, shown_text}
use Rattle.ppm_notes.specs.Dues.{due_notes}
use Rattle.ppm_notes.specs.Listings.{fault_notes}
use Rattle.ppm_notes.specs.Rows.{arrays_in, case_row}
use Rattle.ppm_notes.specs.SavedRows.{count_of, saved_row, words_due}

-- a line, and what is said of it
abbrev pub line_notes : List ℕ → ℕ → List ℕ → List ℕ
line_notes text line words = line_text line ++ shown_text (line_bytes text line) ++ note_text words

-- that alone, of a text that is too long
abbrev pub short_notes : ℕ → List ℕ → (long words : List ℕ) → List ℕ
short_notes limit text long words = if nat_lt limit (length text) then note_text long else words

abbrev pub long_case : List ℕ
long_case = codes "a case has 536870912 bytes at most"

-- faults of a case's arrays and root, by their numbers
abbrev pub input_meaning : ℕ → List ℕ
input_meaning n =
    if n == 1 then codes "the line of an array is `array NAME LENGTH`, and its first values behind it, as `7` or `7*3`, with one blank between two words and numbers without zeros in front; the name has 32 bytes at most and is none of the language's words"
    else if n == 2 then codes "a length is 4194304 at most, a count 1 to 4194304, a value fits 64 bits, and there are no more values than the length says"
    else if n == 3 then codes "an array above has this name"
    else if n == 4 then codes "there are 64 arrays at most, with 4194304 words together"
    else if n == 5 then codes "the root names an array that is not there; arrays count from 0"
    else []

-- what is said of such a fault
abbrev pub input_notes : List ℕ → InputRefusal → List ℕ
input_notes text r =
    short_notes case_limit text long_case (due_notes text r.line (case_row r.number text r.line) ++ note_text (input_meaning r.number))

-- what is said of a fault of a case's listing
abbrev pub case_notes : List ℕ → ListingRefusal → List ℕ
case_notes text r = short_notes case_limit text long_case (fault_notes true (arrays_in (split 10 text)) text r)

abbrev pub untidy_meaning : List ℕ
untidy_meaning =
    codes "a `storenew` fills a slot of a frame that the end of its path builds, and no instruction after it on that path can trap"

-- what is said of a store that is not tidy
abbrev pub untidy_notes : List ℕ → UntidyStore → List ℕ
untidy_notes text u = line_notes text u.line untidy_meaning

abbrev pub long_saved : List ℕ
long_saved = codes "a saved text has 671088640 bytes at most"

-- faults of a saved text, by their numbers
abbrev pub saved_meaning : ℕ → List ℕ
saved_meaning n =
    if n == 1 then codes "a line has the form of its place, as `stop` writes it, with a line feed at its end; the name of an array comes once, a word that comes again is counted, and as many bytes as it says follow `code`"
    else if n == 2 then codes "a number of this line is out of its range: there are 1 to 64 processors, 64 words of room at least in each place and 4194304 at most in all together, 2 to 4096 slots, 64 arrays at most with 4194304 words together; a word has 64 bits"
    else if n == 3 then codes "the bytes after this line are no listing, or its root names an array that is not there; `explain --input case` says more, of the lines of arrays and these bytes"
    else if n == 4 then codes "the code after this line has a conflict, or is not tidy; `explain --input case` says more, of the lines of arrays and these bytes"
    else if n == 5 then codes "the words are not as many as the sizes of the text say"
    else []

-- whether a word of the line is at fault: it has no form, or is past its range, or is another count than the sizes say
abbrev pub is_of_word : List ℕ → SavedRefusal → Bool
is_of_word text r = r.number == 1 || r.number == 2 || (r.number == 5 && not (count_of (line_bytes text r.line) == words_due text))

-- the line of such a fault
abbrev pub saved_line : List ℕ → SavedRefusal → List ℕ
saved_line text r =
    if is_of_word text r then due_notes text r.line (saved_row r.number text r.line)
    else (line_text r.line ++ shown_text (line_bytes text r.line))

-- what is said of it
abbrev pub saved_notes : List ℕ → SavedRefusal → List ℕ
saved_notes text r = short_notes saved_limit text long_saved (saved_line text r ++ note_text (saved_meaning r.number))
