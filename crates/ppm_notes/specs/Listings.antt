-- What is said of the text of a listing that is refused, after the line of the refusal.
use Rattle.std.specs.Prelude.{ℕ, ◌+◌, ◌-◌, ◌==◌, if◌then◌else◌, ◌&&◌, nat_lt, Bool, true, false, List, [], ◌∷◌, ◌++◌, length, codes, decimal, Option, Some, None}
use Rattle.ppm_words.specs.Limits.{array_limit}
use Rattle.ppm_pieces.specs.Numbers.{value}
use Rattle.ppm_pieces.specs.Pieces.{split}
use Rattle.ppm_listing.specs.declared.keyword.Keyword.{Keyword}
use Rattle.ppm_listing.specs.declared.keyword.Keyword.TheVariants as keyword
use Rattle.ppm_listing.specs.Tokens.{keyword_text}
use Rattle.ppm_listing_reader.specs.declared.form.Sort.{Sort}
use Rattle.ppm_listing_reader.specs.Limits.{listing_limit}
use Rattle.ppm_listing_reader.specs.Forms.{sorts}
use Rattle.ppm_answers.specs.declared.conflict.ListingRefusal.{ListingRefusal}
use Rattle.ppm_explain.specs.Places.{line_text, line_bytes, shown_text, marked_text, is_last_line}
use Rattle.ppm_explain.specs.Meanings.{note_text}
use Rattle.ppm_explain.specs.Words.{quoted}
use Rattle.ppm_notes.specs.declared.above.Above.{Above}
use Rattle.ppm_notes.specs.Words.{after_words, capsules_in, column_in, keywords_text, sort_text, text_after, thing_text, tokens_in, word_at}
use Rattle.ppm_notes.specs.Operands.{below_all, fitting, lead_of, leads, operand_text, operands}
use Rattle.ppm_notes.specs.Meanings.{listing_meaning, long_listing, conflict_meaning}

-- a line of words
abbrev pub worded : List ℕ → List ℕ → List ℕ
worded words text = words ++ text ++ codes "\n"

-- what stands in a line after some words, with a mark under it
abbrev pub spot_of : List ℕ → ℕ → Option (List ℕ) → List ℕ
spot_of text line rest =
    marked_text line (line_bytes text line) (column_in (line_bytes text line) rest)
    ++ worded (codes "found: ") (thing_text (is_last_line text line) (line_bytes text line) rest)

-- the words that could stand there
abbrev pub stop_text : List ℕ → ℕ → Option (List ℕ) → List ℕ → List ℕ
stop_text text line rest expected = spot_of text line rest ++ worded (codes "expected: ") expected

-- how many words after its keyword stand where they may, in a line with this number in its listing
abbrev pub count_in : (at capsules : ℕ) → Keyword → List ℕ → ℕ
count_in at capsules k bytes = let ts = tokens_in (after_words 1 bytes) in fitting (operands at capsules k ts) ts

-- and what could stand after these
abbrev pub wanted_in : (at capsules : ℕ) → Keyword → List ℕ → List ℕ
wanted_in at capsules k bytes =
    operand_text k (operands at capsules k (tokens_in (after_words 1 bytes))) (count_in at capsules k bytes)

-- how many words of a line stand where they may: none, where it begins with no keyword that may
abbrev pub stop_count : (at capsules : ℕ) → Option Keyword → List ℕ → ℕ
stop_count at capsules None bytes = 0
stop_count at capsules (Some k) bytes = count_in at capsules k bytes + 1

-- in front of the first line of a case's listing one more array may stand, if it is not one too many
abbrev pub array_word : (case : Bool) → (above at : ℕ) → List ℕ
array_word true above at = if (at == 1) && nat_lt above array_limit then codes "`array`, " else []
array_word false above at = []

-- after an end the text may end
abbrev pub end_word : Bool → List ℕ
end_word true = codes ", the end of the text"
end_word false = []

-- and what could stand after these, in a case or in a listing alone, of which so many lines stand above it
abbrev pub stop_words : (case : Bool) → (above at capsules : ℕ) → Above → Option Keyword → List ℕ → List ℕ
stop_words case above at capsules a None bytes = array_word case above at ++ keywords_text (leads at capsules a) ++ end_word a.is_ended
stop_words case above at capsules a (Some k) bytes = wanted_in at capsules k bytes

-- how many capsules begin above a line
abbrev pub capsules_above : List ℕ → ℕ → ℕ
capsules_above text line = capsules_in (line - 1) (split 10 text)

-- the keyword of the form that a line has
abbrev pub lead_at : (above : ℕ) → List ℕ → ℕ → Option Keyword
lead_at above text line = lead_of (line - above) (capsules_above text line) (line_bytes text line)

-- what is known in front of the first line: the procedure of the root, which stands in the second line of the listing
abbrev pub root_only : (above : ℕ) → List ℕ → Above
root_only above text =
    record { root = value (word_at 1 (line_bytes (text_after above text) 2)); is_first = false; is_ended = false; has_room = false }

-- what the lines above a line say of it
abbrev pub above_of : (above : ℕ) → List ℕ → ℕ → Above
above_of above text line = below_all (root_only above text) (line - 1) (split 10 text)

-- by the keyword with which a line begins: the first word that may not stand there, and what could in its place
abbrev pub stop_by : (case : Bool) → (above : ℕ) → List ℕ → ℕ → (at capsules : ℕ) → Above → Option Keyword → List ℕ
stop_by case above text line at capsules a k =
    stop_text text line (after_words (stop_count at capsules k (line_bytes text line)) (line_bytes text line))
    (stop_words case above at capsules a k (line_bytes text line))

-- a line of no form that may stand there, where so many lines stand above the listing
abbrev pub stop_notes : (case : Bool) (above : ℕ) → List ℕ → ℕ → List ℕ
stop_notes case above text line =
    stop_by case above text line (line - above) (capsules_above text line) (above_of above text line) (lead_at above text line)

-- the sorts of the words after a keyword
abbrev pub sorts_text : List Sort → List ℕ
sorts_text [] = []
sorts_text (s ∷ ss) = codes ", " ++ sort_text s ++ sorts_text ss

-- what the form of the root's line has after its number
abbrev pub form_end : Keyword → List ℕ
form_end keyword.Root = codes ", then a number for each array"
form_end k = []

-- the form of a line by its keyword
abbrev pub form_text : Option Keyword → List ℕ
form_text None = []
form_text (Some k) = worded (codes "form: ") (quoted (keyword_text k) ++ sorts_text (sorts k) ++ form_end k)

-- a line that breaks another rule, and its form
abbrev pub rule_notes : (above : ℕ) → List ℕ → ℕ → List ℕ
rule_notes above text line = line_text line ++ shown_text (line_bytes text line) ++ form_text (lead_at above text line)

-- the line of a fault
abbrev pub fault_line : (case : Bool) (above : ℕ) → List ℕ → ListingRefusal → List ℕ
fault_line case above text r = if r.number == 1 then stop_notes case above text r.line else rule_notes above text r.line

-- what is said of a fault of a listing that stands below so many lines: its line, and what the refusal means
abbrev pub fault_notes : (case : Bool) (above : ℕ) → List ℕ → ListingRefusal → List ℕ
fault_notes case above text r = fault_line case above text r ++ note_text (listing_meaning r.number)

-- what is said of a text that is no listing; of one that is too long that alone
abbrev pub listing_notes : List ℕ → ListingRefusal → List ℕ
listing_notes text r = if nat_lt listing_limit (length text) then note_text long_listing else fault_notes false 0 text r

-- a line of a listing, after words
abbrev pub row_text : List ℕ → List ℕ → ℕ → List ℕ
row_text words text line = worded words (decimal line) ++ shown_text (line_bytes text line)

-- what is said of a conflict: the line that reads, the line that writes, and what it means
abbrev pub conflict_notes : List ℕ → (read write : ℕ) → List ℕ
conflict_notes text read write =
    row_text (codes "read in line ") text read ++ row_text (codes "written in line ") text write ++ note_text conflict_meaning
