-- What is due in the lines of a case above its listing, by the rules of the refusal's number and of those below it.
use Rattle.std.specs.Prelude.{ℕ, zero, suc, ◌+◌, ◌-◌, ◌==◌, ◌^◌, if◌then◌else◌, Bool, true, false, ◌||◌, nat_le, List, [], ◌∷◌, codes, Option, Some, None}
use Rattle.std.specs.Str.{bytes_eq}
use Rattle.ppm_words.specs.Limits.{array_limit, word_limit}
use Rattle.ppm_pieces.specs.Numbers.{value}
use Rattle.ppm_pieces.specs.Pieces.{split}
use Rattle.ppm_case.specs.Spelling.{run_in}
use Rattle.ppm_case.specs.Rules.{times_of}
use Rattle.ppm_explain.specs.Places.{line_bytes}
use Rattle.ppm_notes.specs.declared.due.Due.{Due}
use Rattle.ppm_notes.specs.declared.due.Due.TheVariants as due
use Rattle.ppm_notes.specs.declared.due.Literal.TheVariants as literal
use Rattle.ppm_notes.specs.Words.{after_words, first_word, word_at}

-- whether a line is that of an array
abbrev pub is_array : List ℕ → Bool
is_array bytes = bytes_eq (first_word bytes) (codes "array")

-- how many lines of arrays stand in front
abbrev pub arrays_in : List (List ℕ) → ℕ
arrays_in [] = 0
arrays_in (l ∷ ls) = if is_array l then 1 + arrays_in ls else 0

-- whether one of the first so many lines, each that of an array, has this name
abbrev pub is_named_in : ℕ → List (List ℕ) → (name : List ℕ) → Bool
is_named_in zero ls name = false
is_named_in (suc n) [] name = false
is_named_in (suc n) (l ∷ ls) name = bytes_eq (word_at 1 l) name || is_named_in n ls name

-- what is left of a number once each of the first so many lines took something of it
abbrev pub left_by : (taken : List ℕ → ℕ) → ℕ → ℕ → List (List ℕ) → ℕ
left_by taken left zero ls = left
left_by taken left (suc n) [] = left
left_by taken left (suc n) (l ∷ ls) = left_by taken (left - taken l) n ls

-- the length in the line of an array
abbrev pub length_in : List ℕ → ℕ
length_in line = value (word_at 2 line)

-- how many words of arrays are left after so many lines of arrays
abbrev pub room_in : ℕ → List (List ℕ) → ℕ
room_in n ls = left_by length_in word_limit n ls

-- any number that is read
abbrev pub any_number : ℕ
any_number = 2 ^ 64 - 1

-- the name of an array, where another array may have it
abbrev pub name_due : Bool → Due
name_due true = due.OtherName
name_due false = due.Name

-- a value for each word, and one more, where there is room for so many
abbrev pub values : (ranged : Bool) → (room : ℕ) → List (List ℕ) → List Due
values ranged room [] = due.Value room ranged ∷ []
values ranged room (w ∷ ws) = due.Value room ranged ∷ values ranged (room - times_of (run_in w)) ws

abbrev pub values_behind : (ranged : Bool) → (room : ℕ) → Option (List ℕ) → List Due
values_behind ranged room None = due.Value room ranged ∷ []
values_behind ranged room (Some rest) = values ranged room (split 32 rest)

-- the line of an array: whether its numbers are to be in their ranges, and its name one of its own; and how long it may be
abbrev pub array_row : (ranged is_twice : Bool) → (most bound : ℕ) → List ℕ → List Due
array_row ranged is_twice most bound line =
    due.This literal.Array ∷ name_due is_twice ∷ due.Length most bound
    ∷ values_behind ranged (length_in line) (after_words 3 line)

-- the number of an array for each word, and one more, where there are so many arrays
abbrev pub indices : (count : ℕ) → List (List ℕ) → List Due
indices count [] = due.Index count ∷ []
indices count (w ∷ ws) = due.Index count ∷ indices count ws

abbrev pub indices_behind : (count : ℕ) → Option (List ℕ) → List Due
indices_behind count None = due.Index count ∷ []
indices_behind count (Some rest) = indices count (split 32 rest)

-- the line of the root below so many arrays
abbrev pub root_row : (count : ℕ) → List ℕ → List Due
root_row count line = due.This literal.Root ∷ due.Number 0 any_number false ∷ indices_behind count (after_words 2 line)

-- the line of an array that is one too many, or has too many words
abbrev pub full_row : (above room : ℕ) → List ℕ → List Due
full_row above room line =
    if nat_le array_limit above then due.This literal.Ppm ∷ [] else array_row false false room room line

-- what is due in a line of a case that is refused by this number: its form; ranges; a name of its own; the limits of all arrays; and in the root's
-- line arrays that are there
abbrev pub case_row : (number : ℕ) → List ℕ → ℕ → List Due
case_row number text line =
    let bytes = line_bytes text line in
    let room = room_in (line - 1) (split 10 text) in
    if number == 1 then array_row false false room any_number bytes
    else if number == 2 then array_row true false room word_limit bytes
    else if number == 3 then array_row false true room any_number bytes
    else if number == 4 then full_row (line - 1) room bytes
    else root_row (line - 2) bytes
