-- The text of a case as it is written: values in their longest rows, without the zeros at the end.
use Rattle.std.specs.Prelude.{ℕ, ◌+◌, ◌==◌, ℤ, pos, negsuc, Bool, false, if◌then◌else◌, List, [], ◌∷◌, ◌++◌, length, map, decimal}
use Rattle.std.specs.List.{flat_map}
use Rattle.std.specs.Fmt.{signed_decimal}
use Rattle.ppm_words.specs.declared.named_array.NamedArray.{NamedArray}
use Rattle.ppm_code.specs.declared.code.CodeParts.{CodeParts}
use Rattle.ppm_listing.specs.Listing.{listing_of}
use Rattle.ppm_case.specs.declared.row.Row.{Row}
use Rattle.ppm_case.specs.Spelling.{Written, array_line}

-- a value so many times
abbrev pub row : ℤ → ℕ → Row
row z n = record { number = z; times = n }

-- whether two values are the same
abbrev pub same_value : ℤ → ℤ → Bool
same_value (pos n) (pos m) = n == m
same_value (negsuc n) (negsuc m) = n == m
same_value (pos n) (negsuc m) = false
same_value (negsuc n) (pos m) = false

-- a value more in front of rows: the first is longer by it, or it begins one; a zero in front of none is left out
abbrev pub in_front : ℤ → List Row → List Row
in_front z [] = if same_value z (pos 0) then [] else row z 1 ∷ []
in_front z (r ∷ rs) = if same_value r.number z then row z (1 + r.times) ∷ rs else row z 1 ∷ r ∷ rs

-- the longest rows of values, without zeros at the end
abbrev pub rows_of : List ℤ → List Row
rows_of [] = []
rows_of (z ∷ zs) = in_front z (rows_of zs)

-- the word of a row
abbrev pub row_text : Row → List ℕ
row_text r = if r.times == 1 then signed_decimal r.number else (signed_decimal r.number ++ 42 ∷ decimal r.times)

-- an array as `write_case` writes it
abbrev pub written : NamedArray → Written
written a = record { name = a.name; len = decimal (length a.values); values = map row_text (rows_of a.values) }

-- the text of a case, as it is written
abbrev pub case_text : CodeParts → List NamedArray → List ℕ
case_text code input = flat_map (λ a. array_line (written a)) input ++ listing_of code
