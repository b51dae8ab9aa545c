-- What the functions find out about the words of a line.
use Rattle.std.specs.Prelude.{◌≡◌, ◌≤◌, ℕ, ◌+◌, ◌-◌, Bool, true, false, ◌&&◌, nat_le, is_some, if◌then◌else◌, List, [], ◌∷◌, ◌++◌, length, map, Option, Some, None}
use Rattle.std.specs.List.{list_all, flat_map}
use Rattle.ppm_words.specs.Limits.{word_limit}
use Rattle.ppm_words.specs.declared.named_array.NamedArray.{NamedArray}
use Rattle.ppm_pieces.specs.Numbers.{is_numeral, value}
use Rattle.ppm_pieces.specs.Pieces.{split}
use Rattle.ppm_case.specs.declared.run.Run.{Run}
use Rattle.ppm_case.specs.declared.line.Room.{Room}
use Rattle.ppm_case.specs.declared.line.Numbers.{Numbers}
use Rattle.ppm_case.specs.Spelling.{Written, run_in, is_array_name, has_form, array_word, array_text, array_line, array_of}
use Rattle.ppm_case.specs.Rules.{run_fits, values_fit, is_in_range, Follows, AllFollow}

-- the room that a run leaves
abbrev pub room_after : Room → Run → Room
room_after room r = record { left = room.left - r.times; fits = room.fits && run_fits room.left r }

abbrev pub taken : Room → Option Run → Option Room
taken room None = None
taken room (Some r) = Some (room_after room r)

-- whether the values of words fit, if each word says one
abbrev pub judged : Room → List (List ℕ) → Option Bool
judged room words = if list_all (λ w. is_some (run_in w)) words then Some (room.fits && values_fit room.left words) else None

-- the room of an array, by the word of its length
abbrev pub room_of : (len : ℕ) → Room
room_of len = record { left = len; fits = nat_le len word_limit }

abbrev pub with_len : (len : ℕ) → Option Bool → Option Numbers
with_len len None = None
with_len len (Some fits) = Some (record { len = len; fits = fits })

-- the length and whether all fits, by the words from the length on
abbrev pub numbers_of : List (List ℕ) → Option Numbers
numbers_of [] = None
numbers_of (l ∷ ws) = if is_numeral l then with_len (value l) (judged (room_of (value l)) ws) else None

-- a line is the word `array`, a name and numbers
pub record HasHead (line name numbers : List ℕ) : Type 0 where
  pub words : split 32 line ≡ array_word ∷ name ∷ split 32 numbers
  pub name_is : is_array_name name ≡ true

-- an array has this name, these words after it, and this length
pub record IsWordsOf (a : Written) (name numbers : List ℕ) (len : ℕ) : Type 0 where
  pub name_is : a.name ≡ name
  pub numbers_are : split 32 numbers ≡ a.len ∷ a.values
  pub len_is : value a.len ≡ len

-- they are those of an array that has its form, with its numbers in their ranges
pub record CanStand (name numbers : List ℕ) (len : ℕ) : Type 0 where
  pub array : Written
  pub form : has_form array ≡ true
  pub range : is_in_range array ≡ true
  pub of_it : IsWordsOf array name numbers len

-- a line is that of an array that may stand after others
pub record IsNext (arrays : List NamedArray) (line name numbers : List ℕ) (len : ℕ) : Type 0 where
  pub array : Written
  pub same : line ≡ array_text array
  pub follows : Follows arrays array
  pub of_it : IsWordsOf array name numbers len

-- words that say values for which there is room
pub record HasRoom (words : List (List ℕ)) : Type 0 where
  pub room : ℕ
  pub few : room ≤ word_limit
  pub fits : values_fit room words ≡ true

-- lines of arrays were read from a text: these, so many, and this is left
pub record AreRead (text : List ℕ) (arrays : List NamedArray) (lines : ℕ) (left : List ℕ) : Type 0 where
  pub written : List Written
  pub follow : AllFollow [] written
  pub are : arrays ≡ map array_of written
  pub same : text ≡ flat_map array_line written ++ left
  pub count : lines ≡ length written
