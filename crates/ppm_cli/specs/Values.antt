-- The values of options in the matches of a command.
use Rattle.std.specs.Prelude.{◌*◌, ℕ, Bool, true, false, List, [], ◌∷◌, Option, Some, None, if◌then◌else◌, nat_le, ◌&&◌, codes, option_and_then, option_map}
use Rattle.std.specs.Str.{bytes_eq}
use Rattle.std.specs.Str.Parse.{digits_value, without_leading_plus}
use Rattle.clap.specs.Words.{Row, Text, first_of, one_of}
use Rattle.clap.specs.ValueTests.{is_unsigned_in}
use Rattle.ppm_words.specs.declared.idle.Idle.{Idle}
use Rattle.ppm_words.specs.declared.idle.Idle.TheVariants.{Leave, Park}
use Rattle.ppm_cells.specs.Limits.{most_pool_words, most_saved_pool_words}
use Rattle.ppm_cells.specs.declared.shape.Takeover.{Takeover}
use Rattle.ppm_cells.specs.declared.shape.Takeover.TheVariants.{ByPlaces, ByEntries}
use Rattle.ppm_cli.specs.CommandLine.{Form, Number, Choice, AnyText, OptionRule, is_free_text, takeover, swept_takeovers, counts, idle, input, any_input, explained, strands_form, traced_form, only}
use Rattle.ppm_cli.specs.declared.explain.ExplainedText.{ExplainedText}
use Rattle.ppm_cli.specs.declared.explain.ExplainedText.TheVariants as texts
use Rattle.ppm_cli.specs.declared.input.InputKind.{InputKind}
use Rattle.ppm_cli.specs.declared.input.InputKind.TheVariants as kinds
use Rattle.ppm_cli.specs.declared.strands.StrandsForm.{StrandsForm}
use Rattle.ppm_cli.specs.declared.strands.StrandsForm.TheVariants as told
use Rattle.ppm_cli.specs.declared.takeover.SweptTakeovers.{SweptTakeovers}
use Rattle.ppm_cli.specs.declared.takeover.SweptTakeovers.TheVariants as swept
use Rattle.ppm_cli.specs.declared.trace.TracedForm.{TracedForm}
use Rattle.ppm_cli.specs.declared.trace.TracedForm.TheVariants as forms
use Rattle.ppm_cli.specs.declared.trace.TracedLines.{TracedLines}
use Rattle.ppm_cli.specs.declared.trace.TracedLines.TheVariants as lines

-- the number that decimal digits write; a plus may stand in front
abbrev pub value_of_digits : Text → ℕ
value_of_digits text = digits_value 10 (without_leading_plus text)

-- the number that a text writes, if it writes one in the range of the form
abbrev pub number_in : Form → Text → Option ℕ
number_in (Number low high) text = if is_unsigned_in low high text then Some (value_of_digits text) else None
number_in _ text = None

-- the number, if it is in the range
abbrev pub kept_in : ℕ → ℕ → ℕ → Option ℕ
kept_in low high n = if nat_le low n && nat_le n high then Some n else None

-- the number of an option in the matches of its command: clap puts the default there where the words do not give the option
abbrev pub number_given : OptionRule → List Row → Option ℕ
number_given o rows = option_and_then (number_in o.form) (one_of o.name rows)

-- the text, if the form takes it
abbrev pub text_in : Form → Text → Option Text
text_in AnyText text = if is_free_text text then Some text else None
text_in _ text = None

-- the text of an option in the matches of its command, with the default there, too
abbrev pub text_given : OptionRule → List Row → Option Text
text_given o rows = option_and_then (text_in o.form) (first_of o.name rows)

-- the text, if the form takes it; `unstated` says that there is none
abbrev pub stated_in : Form → Text → Option (Option Text)
stated_in form text = if bytes_eq text (codes "unstated") then Some None else option_map (λ t. Some t) (text_in form text)

-- the text of an option in the matches of its command, if it is stated there
abbrev pub stated_given : OptionRule → List Row → Option (Option Text)
stated_given o rows = option_and_then (stated_in o.form) (first_of o.name rows)

-- the value that a word stands for among these words, which stand in the order of the values
abbrev pub value_among : {T : Type 0} → List Text → List T → Text → Option T
value_among (first ∷ words) (value ∷ values) word = if bytes_eq word first then Some value else value_among words values word
value_among _ _ word = None

-- the value that a text stands for, if it is one of the words of the form
abbrev pub choice_in : {T : Type 0} → Form → List T → Text → Option T
choice_in (Choice words) values text = value_among words values text
choice_in _ values text = None

-- the value of an option in the matches of its command, by the word that is chosen there
abbrev pub choice_given : {T : Type 0} → OptionRule → List T → List Row → Option T
choice_given o values rows = option_and_then (choice_in o.form values) (first_of o.name rows)

-- what is taken over of a dead processor
abbrev pub takeover_given : List Row → Option Takeover
takeover_given rows = choice_given takeover (ByPlaces ∷ ByEntries ∷ []) rows

-- under which takeovers a sweep has its runs
abbrev pub swept_takeovers_given : List Row → Option SweptTakeovers
swept_takeovers_given rows = choice_given swept_takeovers (swept.ByPlaces ∷ swept.ByEntries ∷ swept.Both ∷ []) rows

-- what a processor does that finds no work
abbrev pub idle_given : List Row → Option Idle
idle_given rows = choice_given idle (Leave ∷ Park ∷ []) rows

-- the form of a trace
abbrev pub traced_form_given : List Row → Option TracedForm
traced_form_given rows = choice_given traced_form (forms.Text ∷ forms.Json ∷ forms.Svg ∷ []) rows

-- what is told of a run of strands
abbrev pub strands_form_given : List Row → Option StrandsForm
strands_form_given rows = choice_given strands_form (told.Arrays ∷ told.Text ∷ []) rows

-- which lines of a trace are written
abbrev pub traced_lines_given : List Row → Option TracedLines
traced_lines_given rows = choice_given only (lines.Turns ∷ lines.Rows ∷ lines.Marks ∷ []) rows

-- what comes of a value, if there is one: as Rust's `and_then`, the value first
abbrev pub and_then : {A B : Type 0} → Option A → (A → Option B) → Option B
and_then value f = option_and_then f value

-- the words, if so many processors may have pools of so many
abbrev pub fitting_room : ℕ → ℕ → Option ℕ
fitting_room processors words = if nat_le (processors * words) most_pool_words then Some words else None

-- the words of the pool of each of so many places
abbrev pub room_given : OptionRule → ℕ → List Row → Option ℕ
room_given o processors rows = and_then (number_given o rows) (fitting_room processors)

-- the words, if so many processors may have pools of so many where all words are written out
abbrev pub fitting_saved_room : ℕ → ℕ → Option ℕ
fitting_saved_room processors words = if nat_le (processors * words) most_saved_pool_words then Some words else None

-- the words of the pool of each of so many places where all words are written out
abbrev pub saved_room_given : OptionRule → ℕ → List Row → Option ℕ
saved_room_given o processors rows = and_then (number_given o rows) (fitting_saved_room processors)

-- whether what is counted is told
abbrev pub are_counts_given : List Row → Option Bool
are_counts_given rows = choice_given counts (false ∷ true ∷ []) rows

-- whether the text that is read is a case, and not a source
abbrev pub is_case_given : List Row → Option Bool
is_case_given rows = choice_given input (false ∷ true ∷ []) rows

-- which text is explained
abbrev pub explained_given : List Row → Option ExplainedText
explained_given rows = choice_given explained (texts.Source ∷ texts.Listing ∷ texts.Case ∷ texts.Saved ∷ []) rows

-- which text is read, where it may be a saved one
abbrev pub input_given : List Row → Option InputKind
input_given rows = choice_given any_input (kinds.Source ∷ kinds.Case ∷ kinds.Saved ∷ []) rows
