-- What holds of the whole command line.
use Rattle.std.specs.Prelude.{◌≡◌, ◌&&◌, Bool, true, not, List, [], ◌∷◌, codes, map}
use Rattle.std.specs.List.{list_all, list_any}
use Rattle.std.specs.Str.{bytes_eq}
use Rattle.clap.specs.Words.{Text}
use Rattle.clap.specs.ValueTests.{is_unsigned_in}
use Rattle.ppm_cli.specs.CommandLine.{CommandRule, Form, Number, Choice, AnyText, is_free_text}

-- the word is a value of this form
abbrev pub is_value_of : Form → Text → Bool
is_value_of (Number low high) word = is_unsigned_in low high word
is_value_of (Choice words) word = list_any (bytes_eq word) words
is_value_of AnyText word = is_free_text word

-- no name stands twice
abbrev pub are_distinct : List Text → Bool
are_distinct [] = true
are_distinct (name ∷ names) = not (list_any (bytes_eq name) names) && are_distinct names

-- the options of a command have names of their own, `--help` being clap's, and each default is a value of its option
abbrev pub is_sound_command : CommandRule → Bool
is_sound_command c =
    are_distinct (codes "help" ∷ map (λ o. o.name) c.options) && list_all (λ o. is_value_of o.form o.default) c.options

-- the commands have names of their own, and each is sound
abbrev pub IsSound : List CommandRule → Type 0
IsSound table = (are_distinct (map (λ c. c.name) table) ≡ true) × (list_all is_sound_command table ≡ true)
