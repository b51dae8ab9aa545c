-- The words of a line of a listing, and what could stand in place of one.
use Rattle.std.specs.Prelude.{ℕ, zero, suc, ◌+◌, ◌-◌, Bool, true, false, List, [], ◌∷◌, ◌++◌, length, map, codes, decimal, Option, Some, None}
use Rattle.std.specs.Str.{bytes_eq}
use Rattle.ppm_pieces.specs.Pieces.{halves_of, split}
use Rattle.ppm_listing.specs.declared.keyword.Keyword.{Keyword}
use Rattle.ppm_listing.specs.Tokens.{keyword_text}
use Rattle.ppm_listing_reader.specs.declared.form.Sort.{Sort}
use Rattle.ppm_listing_reader.specs.declared.form.Sort.TheVariants as sort
use Rattle.ppm_listing_reader.specs.declared.token.Token.{Token}
use Rattle.ppm_listing_reader.specs.Tokens.{token_of}
use Rattle.ppm_notes.specs.declared.wanted.Wanted.{Wanted}
use Rattle.ppm_notes.specs.declared.wanted.Wanted.TheVariants as wanted
use Rattle.ppm_explain.specs.Words.{quoted}

-- the first piece of some bytes: what stands in front of the first separator, or all
abbrev pub first_of : Option (List ℕ × List ℕ) → List ℕ → List ℕ
first_of None bytes = bytes
first_of (Some halves) bytes = halves.0

abbrev pub first_piece : (separator : ℕ) → List ℕ → List ℕ
first_piece separator bytes = first_of (halves_of separator bytes) bytes

-- the first word of a line
abbrev pub first_word : List ℕ → List ℕ
first_word bytes = first_piece 32 bytes

-- what some bytes have after so many pieces; nothing where they have no more
abbrev pub after_half : (List ℕ → Option (List ℕ)) → Option (List ℕ × List ℕ) → Option (List ℕ)
after_half more None = None
after_half more (Some halves) = more halves.1

abbrev pub after_pieces : (separator : ℕ) → ℕ → List ℕ → Option (List ℕ)
after_pieces separator zero bytes = Some bytes
after_pieces separator (suc n) bytes = after_half (after_pieces separator n) (halves_of separator bytes)

-- what a text has after so many lines
abbrev pub or_empty : Option (List ℕ) → List ℕ
or_empty None = []
or_empty (Some rest) = rest

abbrev pub text_after : ℕ → List ℕ → List ℕ
text_after lines text = or_empty (after_pieces 10 lines text)

-- what a line has after so many words
abbrev pub after_words : ℕ → List ℕ → Option (List ℕ)
after_words n bytes = after_pieces 32 n bytes

-- the word after so many others; nothing where there is none
abbrev pub word_of : Option (List ℕ) → List ℕ
word_of None = []
word_of (Some rest) = first_word rest

abbrev pub word_at : ℕ → List ℕ → List ℕ
word_at n line = word_of (after_words n line)

-- the tokens of words
abbrev pub tokens_in : Option (List ℕ) → List Token
tokens_in None = []
tokens_in (Some bytes) = map token_of (split 32 bytes)

-- the column of what stands after so many words, from 1; that of the end where there is nothing
abbrev pub column_in : List ℕ → Option (List ℕ) → ℕ
column_in bytes None = length bytes + 1
column_in bytes (Some rest) = length bytes - length rest + 1

-- whether a line is the first of a capsule
abbrev pub begins_capsule : List ℕ → Bool
begins_capsule bytes = bytes_eq (first_word bytes) (codes "capsule")

abbrev pub one_if : Bool → ℕ
one_if true = 1
one_if false = 0

-- how many of the first so many lines are
abbrev pub capsules_in : ℕ → List (List ℕ) → ℕ
capsules_in zero lines = 0
capsules_in (suc n) [] = 0
capsules_in (suc n) (l ∷ ls) = one_if (begins_capsule l) + capsules_in n ls

-- a sort of words
abbrev pub sort_text : Sort → List ℕ
sort_text sort.Register = codes "a register"
sort_text sort.Number = codes "a number"
sort_text sort.Constant = codes "a constant"
sort_text sort.Slot = codes "a slot or `-`"
sort_text sort.Version = codes "`1`"
sort_text sort.Slots = codes "`slots`"
sort_text sort.Entry = codes "`entry`"
sort_text sort.Proc = codes "`proc`"

-- what could stand at a place
abbrev pub wanted_text : Wanted → List ℕ
wanted_text (wanted.Word s) = sort_text s
wanted_text (wanted.Number n) = quoted (decimal n)
wanted_text wanted.End = codes "the end of the line"

-- some keywords, after others
abbrev pub more_keywords : List Keyword → List ℕ
more_keywords [] = []
more_keywords (k ∷ ks) = codes ", " ++ quoted (keyword_text k) ++ more_keywords ks

-- some keywords, with a comma between each two
abbrev pub keywords_text : List Keyword → List ℕ
keywords_text [] = []
keywords_text (k ∷ ks) = quoted (keyword_text k) ++ more_keywords ks

-- the end of a line, or of the text
abbrev pub end_name : Bool → List ℕ
end_name true = codes "the end of the text"
end_name false = codes "the end of the line"

-- what stands in front of a carriage return, and that
abbrev pub return_text : List ℕ → List ℕ
return_text [] = codes "a carriage return"
return_text (b ∷ bs) = codes "the word " ++ quoted (b ∷ bs) ++ codes ", then a carriage return"

-- some bytes, which a carriage return may part
abbrev pub parted_text : Option (List ℕ × List ℕ) → List ℕ → List ℕ
parted_text None bytes = codes "the word " ++ quoted bytes
parted_text (Some halves) bytes = return_text halves.0

-- a word; between two blanks there may be none
abbrev pub word_text : List ℕ → List ℕ
word_text [] = codes "a blank"
word_text (b ∷ bs) = parted_text (halves_of 13 (b ∷ bs)) (b ∷ bs)

-- what stands after some words: another one, or the end of the line, which may be that of the text
abbrev pub behind_text : (last : Bool) → Option (List ℕ) → List ℕ
behind_text last None = end_name last
behind_text last (Some rest) = word_text (first_word rest)

-- an empty line, or the end of the text
abbrev pub empty_name : Bool → List ℕ
empty_name true = codes "the end of the text"
empty_name false = codes "an empty line"

-- what stands in a line after some words
abbrev pub thing_text : (last : Bool) → (line : List ℕ) → Option (List ℕ) → List ℕ
thing_text last [] rest = empty_name last
thing_text last (b ∷ bs) rest = behind_text last rest
