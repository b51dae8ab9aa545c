-- The application of `clap` that a table of commands is.
use Rattle.std.specs.Prelude.{true, List, [], ◌∷◌, Option, Some, None, codes, fold, map}
use Rattle.clap.specs.Words.{App, Rule, new_app, new_rule, with_rule, with_subcommand}
use Rattle.clap.specs.Simple.{on_top}
use Rattle.clap.specs.declared.builder.ArgAction.TheVariants.{Set}
use Rattle.clap.specs.declared.builder.value_parser.ValueParser.{ValueParser}
use Rattle.clap.specs.declared.builder.value_parser.ValueParser.TheVariants as parsers
use Rattle.ppm_cli.specs.CommandLine.{CommandRule, Form, Number, Choice, AnyText, OptionRule, command_line, free_text}
use Rattle.ppm_cli.specs.declared.table.CommandRow.{CommandRow}
use Rattle.ppm_cli.specs.declared.table.NumberOption.{NumberOption}
use Rattle.ppm_cli.specs.declared.table.ChoiceOption.{ChoiceOption}
use Rattle.ppm_cli.specs.declared.table.TextOption.{TextOption}
use Rattle.ppm_cli.specs.declared.table.OptionRow.{OptionRow}
use Rattle.ppm_cli.specs.declared.table.OptionRow.TheVariants as row

-- what clap asks of a value: to be a number in the range; of a choice and of a text it asks nothing
abbrev pub parser_of : Form → Option ValueParser
parser_of (Number low high) = Some (parsers.Unsigned low high)
parser_of (Choice words) = None
parser_of AnyText = None

-- the argument that an option is: `--name` with one value, given at most once
abbrev pub argument_of : OptionRule → Rule
argument_of o = record (new_rule o.name) {
  long = Some o.name;
  action = Some Set;
  parser = parser_of o.form;
  defaults = o.default ∷ [];
}

-- an application with these options more
abbrev pub with_options : App → List OptionRule → App
with_options a options = fold (λ b o. with_rule b (argument_of o)) a options

-- the subcommand that a command is
abbrev pub command_application : CommandRule → App
command_application c = with_options (new_app c.name) c.options

-- an application with these commands more
abbrev pub with_commands : App → List CommandRule → App
with_commands a commands = fold (λ b c. with_subcommand b (command_application c).top) a commands

-- the program alone, without clap's subcommand `help`
abbrev pub bare_application : App
bare_application = on_top (λ s. record s { disable_help_subcommand = true }) (new_app (codes "ppm"))

-- the program with the commands of a table
abbrev pub application_of : List CommandRule → App
application_of table = with_commands bare_application table

-- the program with all its commands
abbrev pub ppm_application : App
ppm_application = application_of command_line

-- the rule that a row of the source states of a number option
abbrev pub number_rule : NumberOption → OptionRule
number_rule o = record { name = o.name.now; form = Number o.low o.high; default = o.default.now }

-- of a choice among words
abbrev pub choice_rule : ChoiceOption → OptionRule
choice_rule o =
    record { name = o.name.now; form = Choice (map (λ word. word.now) o.words.now); default = o.default.now }

-- of a text
abbrev pub text_rule : TextOption → OptionRule
text_rule o = free_text o.name.now o.default.now

-- of any option
abbrev pub option_rule : OptionRow → OptionRule
option_rule (row.Number o) = number_rule o
option_rule (row.Choice o) = choice_rule o
option_rule (row.Text o) = text_rule o

-- and of a command
abbrev pub command_rule : CommandRow → CommandRule
command_rule c = record { name = c.name.now; options = map option_rule c.options.now }
