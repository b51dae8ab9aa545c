-- The rules that a line of a saved text has to keep, beside its form.
use Rattle.std.specs.Prelude.{ℕ, ◌+◌, ◌*◌, ◌==◌, Bool, true, false, ◌&&◌, ◌||◌, nat_le, nat_lt, if◌then◌else◌, List, [], ◌∷◌, length, Option, Some, None}
use Rattle.std.specs.List.{list_any, sum}
use Rattle.std.specs.Str.{bytes_eq}
use Rattle.ppm_words.specs.Limits.{array_limit, word_limit, processor_limit}
use Rattle.ppm_pieces.specs.Pieces.{split}
use Rattle.ppm_cells.specs.Limits.{most_saved_pool_words}
use Rattle.ppm_saved.specs.Names.{lengths_of}
use Rattle.ppm_saved.specs.declared.names.NamedLength.{NamedLength}
use Rattle.ppm_saved.specs.declared.run.Run.{Run}
use Rattle.ppm_saved_reader.specs.declared.lines.Sizes.{Sizes}
use Rattle.ppm_saved_reader.specs.Lines.{run_in}

-- bytes of a saved text
abbrev pub saved_limit : ℕ
saved_limit = 671088640

-- whether a number is from one to another
abbrev pub is_from_to : (least most n : ℕ) → Bool
is_from_to least most n = nat_le least n && nat_le n most

-- how many lines bytes have: one for each line feed
abbrev pub line_feeds : List ℕ → ℕ
line_feeds [] = 0
line_feeds (b ∷ bs) = if b == 10 then 1 + line_feeds bs else line_feeds bs

-- whether so many processors may have pools of so many words
abbrev pub do_pools_fit : (processors room : ℕ) → Bool
do_pools_fit processors room = nat_le (processors * room) most_saved_pool_words

-- whether a machine of these sizes may be stopped
abbrev pub sizes_fit : Sizes → Bool
sizes_fit z =
    is_from_to 1 processor_limit z.processors
    && (is_from_to 64 most_saved_pool_words z.room && (is_from_to 2 4096 z.slots && do_pools_fit z.processors z.room))

-- whether an array has this name
abbrev pub is_twice : List NamedLength → (name : List ℕ) → Bool
is_twice arrays name = list_any (λ a. bytes_eq a.name name) arrays

-- whether an array of so many words is one too many, or one with too many words
abbrev pub is_past : List NamedLength → (len : ℕ) → Bool
is_past arrays len = nat_le array_limit (length arrays) || nat_lt word_limit (sum (lengths_of arrays) + len)

-- how many words a machine of these sizes has, with these arrays
abbrev pub words_for : Sizes → List NamedLength → ℕ
words_for z arrays = 1 + 2 * z.processors + z.processors * (5 + z.slots + z.room) + sum (lengths_of arrays)

-- the runs of the lines in front that are such, by the pieces between line feeds; what is after the last line feed is no line
abbrev pub run_or_none : Option (Option ℕ × ℕ) → List (Option ℕ × ℕ) → List (Option ℕ × ℕ)
run_or_none None rs = []
run_or_none (Some r) rs = r ∷ rs

abbrev pub runs_in : List (List ℕ) → List (Option ℕ × ℕ)
runs_in [] = []
runs_in (p ∷ []) = []
runs_in (p ∷ q ∷ ps) = run_or_none (run_in p) (runs_in (q ∷ ps))

-- whether all lines are
abbrev pub is_run : Option (Option ℕ × ℕ) → Bool
is_run None = false
is_run (Some r) = true

abbrev pub are_runs : List (List ℕ) → Bool
are_runs [] = true
are_runs (p ∷ []) = true
are_runs (p ∷ q ∷ ps) = is_run (run_in p) && are_runs (q ∷ ps)

-- how many words runs have
abbrev pub word_sum : List (Option ℕ × ℕ) → ℕ
word_sum [] = 0
word_sum (r ∷ rs) = r.1 + word_sum rs

-- whether lines have another number of words than this: more in front, or fewer in all
abbrev pub is_other_count : (count : ℕ) → (text : List ℕ) → Bool
is_other_count count text =
    nat_lt count (word_sum (runs_in (split 10 text))) || (are_runs (split 10 text) && nat_lt (word_sum (runs_in (split 10 text))) count)

-- whether the last of some runs has this word
abbrev pub ends_with : List Run → (word : ℕ) → Bool
ends_with [] word = false
ends_with (r ∷ []) word = r.word == word
ends_with (r ∷ q ∷ rs) word = ends_with (q ∷ rs) word

-- whether the last word is this one, if there is one
abbrev pub is_last : Option ℕ → (word : ℕ) → Bool
is_last None word = false
is_last (Some w) word = w == word
