-- How an array is written: the words of its line, with one space between two. Numbers may be of any size; one past 2^64 - 1 stands as that.
use Rattle.std.specs.Prelude.{ℕ, ◌-◌, ◌^◌, ℤ, pos, negsuc, Bool, true, false, not, ◌&&◌, nat_lt, nat_le, is_none, is_some, if◌then◌else◌}
use Rattle.std.specs.Prelude.{List, [], ◌∷◌, ◌++◌, length, take, drop, replicate, codes, Option, Some, None, ◌==◌, ◌||◌}
use Rattle.std.specs.List.{list_all, flat_map}
use Rattle.std.specs.Option.{option_map}
use Rattle.std.specs.Str.{bytes_eq}
use Rattle.ppm_words.specs.Limits.{name_limit}
use Rattle.ppm_words.specs.Names.{is_letter, is_name_byte}
use Rattle.ppm_words.specs.declared.named_array.NamedArray.{NamedArray}
use Rattle.ppm_pieces.specs.Numbers.{is_numeral, value}
use Rattle.ppm_pieces.specs.Pieces.{halves_of}
use Rattle.ppm_text.specs.Spelling.{keyword_of}
use Rattle.ppm_case.specs.declared.run.Run.{Run}

-- words with one space between two
abbrev pub spaced : List ℕ → List ℕ
spaced word = 32 ∷ word

abbrev pub joined : List (List ℕ) → List ℕ
joined [] = []
joined (w ∷ ws) = w ++ flat_map spaced ws

-- the word with which the line of an array begins
abbrev pub array_word : List ℕ
array_word = codes "array"

-- an array as it is written: its name, its length, and its first values, by their words
pub record Written : Type 0 where
  pub name : List ℕ
  pub len : List ℕ
  pub values : List (List ℕ)

-- its line up to the line feed
abbrev pub array_text : Written → List ℕ
array_text a = joined (array_word ∷ a.name ∷ a.len ∷ a.values)

-- its line
abbrev pub array_line : Written → List ℕ
array_line a = array_text a ++ 10 ∷ []

-- a number from 0 on, if it is below 2^63
abbrev pub from_zero : ℕ → Option ℤ
from_zero n = if nat_lt n (2 ^ 63) then Some (pos n) else None

-- the negative of a number above 0, if that is not above 2^63
abbrev pub below_zero : ℕ → Option ℤ
below_zero n = if nat_le n (2 ^ 63) then Some (negsuc (n - 1)) else None

-- the number that digits after a minus spell: not 0
abbrev pub negative_in : List ℕ → Option (Option ℤ)
negative_in digits = if is_numeral digits && not (value digits == 0) then Some (below_zero (value digits)) else None

-- the number that digits spell
abbrev pub natural_in : List ℕ → Option (Option ℤ)
natural_in digits = if is_numeral digits then Some (from_zero (value digits)) else None

-- the number that a word spells, if it spells one; `Some None` where that has more than 64 bits
abbrev pub number_in : (word : List ℕ) → Option (Option ℤ)
number_in [] = None
number_in (b ∷ bs) = if b == 45 then negative_in bs else natural_in (b ∷ bs)

-- a number so many times
abbrev pub run_of : (times : ℕ) → Option ℤ → Run
run_of times number = record { number = number; times = times }

-- `V`, or `V*N`
abbrev pub run_between : (word : List ℕ) → Option (List ℕ × List ℕ) → Option Run
run_between word None = option_map (run_of 1) (number_in word)
run_between word (Some halves) = if is_numeral halves.1 then option_map (run_of (value halves.1)) (number_in halves.0) else None

-- what a word of values says: a number, and how often it stands there
abbrev pub run_in : (word : List ℕ) → Option Run
run_in word = run_between word (halves_of 42 word)

-- whether bytes are a name
abbrev pub is_name : List ℕ → Bool
is_name [] = false
is_name (b ∷ bs) = is_letter b && (list_all is_name_byte bs && nat_lt (length bs) name_limit)

-- whether they may be that of an array: they are no keyword
abbrev pub is_array_name : List ℕ → Bool
is_array_name bytes = is_name bytes && is_none (keyword_of bytes)

-- whether each word of an array has its form
abbrev pub has_form : Written → Bool
has_form a = is_array_name a.name && (is_numeral a.len && list_all (λ w. is_some (run_in w)) a.values)

-- the values that a word of them stands for
abbrev pub number_values : (times : ℕ) → Option ℤ → List ℤ
number_values times None = []
number_values times (Some z) = replicate times z

abbrev pub run_values : Option Run → List ℤ
run_values None = []
run_values (Some r) = number_values r.times r.number

-- the values that words of them stand for
abbrev pub values_in : List (List ℕ) → List ℤ
values_in words = flat_map (λ w. run_values (run_in w)) words

-- values with zeros after them, so many in all
abbrev pub filled : (len : ℕ) → List ℤ → List ℤ
filled len zs = zs ++ replicate (len - length zs) (pos 0)

-- the array that is written
abbrev pub array_of : Written → NamedArray
array_of a = record { name = a.name; values = filled (value a.len) (values_in a.values) }

-- whether the bytes after a word end it: a space, the line's end, or the text's
abbrev pub ends_word : List ℕ → Bool
ends_word [] = true
ends_word (b ∷ bs) = b == 32 || b == 10

-- whether a text begins with the word `array`
abbrev pub begins_array : List ℕ → Bool
begins_array text = bytes_eq (take 5 text) array_word && ends_word (drop 5 text)
