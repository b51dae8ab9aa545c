-- The rules that the line of an array keeps beside its form.
use Rattle.std.specs.Prelude.{◌≡◌, ℕ, ◌+◌, ◌-◌, Bool, true, false, ◌&&◌, ◌||◌, nat_le, nat_lt, is_some, List, [], ◌∷◌, ◌++◌, length, Option, Some, None}
use Rattle.std.specs.List.{list_any}
use Rattle.std.specs.Str.{bytes_eq}
use Rattle.ppm_words.specs.Limits.{array_limit, word_limit}
use Rattle.ppm_words.specs.Inputs.{value_count}
use Rattle.ppm_words.specs.declared.named_array.NamedArray.{NamedArray}
use Rattle.ppm_pieces.specs.Numbers.{value}
use Rattle.ppm_case.specs.declared.run.Run.{Run}
use Rattle.ppm_case.specs.Spelling.{Written, run_in, has_form, array_of}

-- bytes of a case
abbrev pub case_limit : ℕ
case_limit = 536870912

-- whether a number and how often it stands are in their ranges, and there is room for them
abbrev pub run_fits : (room : ℕ) → Run → Bool
run_fits room r = is_some r.number && (nat_le 1 r.times && nat_le r.times room)

-- whether what a word says is in its range, and there is room for it, if it says a run
abbrev pub said_fits : (room : ℕ) → Option Run → Bool
said_fits room None = false
said_fits room (Some r) = run_fits room r

-- how many values a word stands for
abbrev pub times_of : Option Run → ℕ
times_of None = 0
times_of (Some r) = r.times

-- whether all values that words say are in their ranges, and no more than there is room for
abbrev pub values_fit : (room : ℕ) → List (List ℕ) → Bool
values_fit room [] = true
values_fit room (w ∷ ws) = said_fits room (run_in w) && values_fit (room - times_of (run_in w)) ws

-- whether all numbers of an array are in their ranges; each count then is, since no array is longer than it may be
abbrev pub is_in_range : Written → Bool
is_in_range a = nat_le (value a.len) word_limit && values_fit (value a.len) a.values

-- whether an array has this name
abbrev pub is_named : List NamedArray → (name : List ℕ) → Bool
is_named arrays name = list_any (λ a. bytes_eq a.name name) arrays

-- whether an array of so many words is one too many, or one with too many words
abbrev pub is_past : List NamedArray → (len : ℕ) → Bool
is_past arrays len = nat_le array_limit (length arrays) || nat_lt word_limit (value_count arrays + len)

-- an array may stand after others: it is written as it should be, its name is new, and all are within their limits
pub record Follows (arrays : List NamedArray) (a : Written) : Type 0 where
  pub form : has_form a ≡ true
  pub range : is_in_range a ≡ true
  pub new : is_named arrays a.name ≡ false
  pub within : is_past arrays (value a.len) ≡ false

-- each array of some may stand after those in front of it
abbrev pub AllFollow : (arrays : List NamedArray) → List Written → Type 0
AllFollow arrays [] = Unit {0}
AllFollow arrays (a ∷ more) = Follows arrays a × AllFollow (arrays ++ array_of a ∷ []) more
