-- The lines of a saved text by their forms, without their line feeds. Numbers may be of any size; one past 2^64 - 1 stands as that, but for a word.
use Rattle.std.specs.Prelude.{ℕ, ◌^◌, Bool, false, ◌&&◌, nat_le, nat_lt, is_none, if◌then◌else◌, List, [], ◌∷◌, length, codes, Option, Some, None}
use Rattle.std.specs.List.{list_all}
use Rattle.std.specs.Option.{option_map}
use Rattle.std.specs.Str.{bytes_eq}
use Rattle.ppm_words.specs.Limits.{name_limit}
use Rattle.ppm_words.specs.Names.{is_letter, is_name_byte}
use Rattle.ppm_pieces.specs.Numbers.{is_numeral, value_from, value}
use Rattle.ppm_pieces.specs.Pieces.{halves_of}
use Rattle.ppm_text.specs.Spelling.{keyword_of}
use Rattle.ppm_saved_reader.specs.declared.lines.Sizes.{Sizes}

-- what bytes say by a form, and the bytes after them
abbrev pub said_by : {A : Type 0} → (List ℕ → Option A) → Option (List ℕ × List ℕ) → Option (A × List ℕ)
said_by form None = None
said_by form (Some halves) = option_map (λ a. (a, halves.1)) (form halves.0)

-- what the first line of a text says by a form, and the text after it; a line ends with a line feed
abbrev pub first_line : {A : Type 0} → (List ℕ → Option A) → List ℕ → Option (A × List ℕ)
first_line form text = said_by form (halves_of 10 text)

-- what stands after a word and a space
abbrev pub behind_halves : (word : List ℕ) → Option (List ℕ × List ℕ) → Option (List ℕ)
behind_halves word None = None
behind_halves word (Some halves) = if bytes_eq halves.0 word then Some halves.1 else None

abbrev pub behind_word : (word line : List ℕ) → Option (List ℕ)
behind_word word line = behind_halves word (halves_of 32 line)

-- the number that bytes spell
abbrev pub number_in : List ℕ → Option ℕ
number_in bytes = if is_numeral bytes then Some (value bytes) else None

abbrev pub number_behind : Option (List ℕ) → Option ℕ
number_behind None = None
number_behind (Some bytes) = number_in bytes

-- `code L`, `words N`
abbrev pub count_in : (word line : List ℕ) → Option ℕ
count_in word line = number_behind (behind_word word line)

-- `saved 1`: the number of the version
abbrev pub version_in : (line : List ℕ) → Option (List ℕ)
version_in line = if bytes_eq line (codes "saved 1") then Some line else None

-- three numbers
abbrev pub three : Option ℕ → Option ℕ → Option ℕ → Option Sizes
three None room slots = None
three (Some p) None slots = None
three (Some p) (Some r) None = None
three (Some p) (Some r) (Some s) = Some (record { processors = p; room = r; slots = s })

abbrev pub last_two : (first : List ℕ) → Option (List ℕ × List ℕ) → Option Sizes
last_two first None = None
last_two first (Some halves) = three (number_in first) (number_in halves.0) (number_in halves.1)

abbrev pub three_between : Option (List ℕ × List ℕ) → Option Sizes
three_between None = None
three_between (Some halves) = last_two halves.0 (halves_of 32 halves.1)

abbrev pub sizes_behind : Option (List ℕ) → Option Sizes
sizes_behind None = None
sizes_behind (Some bytes) = three_between (halves_of 32 bytes)

-- `shape P R S`
abbrev pub sizes_in : (line : List ℕ) → Option Sizes
sizes_in line = sizes_behind (behind_word (codes "shape") line)

-- whether bytes are a name
abbrev pub is_name : List ℕ → Bool
is_name [] = false
is_name (b ∷ bs) = is_letter b && (list_all is_name_byte bs && nat_lt (length bs) name_limit)

-- whether they may be that of an array: they are no keyword
abbrev pub is_array_name : List ℕ → Bool
is_array_name bytes = is_name bytes && is_none (keyword_of bytes)

-- a name with how many words the array has
abbrev pub named : (name : List ℕ) → Option ℕ → Option (List ℕ × ℕ)
named name None = None
named name (Some len) = if is_array_name name then Some (name, len) else None

abbrev pub name_and_len : Option (List ℕ × List ℕ) → Option (List ℕ × ℕ)
name_and_len None = None
name_and_len (Some halves) = named halves.0 (number_in halves.1)

abbrev pub array_behind : Option (List ℕ) → Option (List ℕ × ℕ)
array_behind None = None
array_behind (Some bytes) = name_and_len (halves_of 32 bytes)

-- `array NAME LENGTH`
abbrev pub array_in : (line : List ℕ) → Option (List ℕ × ℕ)
array_in line = array_behind (behind_word (codes "array") line)

-- the word that digits spell; `None` where it has more than 64 bits
abbrev pub word_in : List ℕ → Option ℕ
word_in digits = if nat_lt (value_from 0 digits) (2 ^ 64) then Some (value_from 0 digits) else None

-- a word so many times, if that is twice or more
abbrev pub times_in : (digits : List ℕ) → Option ℕ → Option (Option ℕ × ℕ)
times_in digits None = None
times_in digits (Some times) = if nat_le 2 times then Some (word_in digits, times) else None

abbrev pub run_between : (line : List ℕ) → Option (List ℕ × List ℕ) → Option (Option ℕ × ℕ)
run_between line None = if is_numeral line then Some (word_in line, 1) else None
run_between line (Some halves) = if is_numeral halves.0 then times_in halves.0 (number_in halves.1) else None

-- `w`, `w*n`: the word, if it has 64 bits, and how often it stands there
abbrev pub run_in : (line : List ℕ) → Option (Option ℕ × ℕ)
run_in line = run_between line (halves_of 42 line)
