-- The application of any table of commands is one of which clap's laws of a parse and of refusals speak.
use Rattle.std.proofs.Common.{◌≡◌, ℕ, Bool, true, false, not, ◌&&◌, List, [], ◌∷◌, ◌++◌, map, refl, sym, ap, ap₂, ◌∙◌, append-nil, append_assoc}
use Rattle.std.specs.List.{list_all, list_any}
use Rattle.clap.specs.Walk.{Rule, is_early_multiple}
use Rattle.clap.specs.Faults.{has_free_rules}
use Rattle.clap.specs.Simple.{built_leaf, filled_from, help_rule, inherited, is_ready_leaf, is_simple_leaf, marked_built, with_leaf_noted}
use Rattle.clap.specs.Simple.{new_shape}
use Rattle.clap.specs.Words.{App, Shape, Text, is_simple_and_free}
use Rattle.ppm_cli.specs.Application.{application_of, argument_of, bare_application, with_commands, with_options}
use Rattle.ppm_cli.specs.CommandLine.{CommandRule, OptionRule}

-- ---- what the folds make

-- a subcommand's shape, by its name and arguments
abbrev shape : Text → List Rule → Shape
shape name rules = record (new_shape name) { rules = rules }

-- the shape of a command's application
abbrev leaf : CommandRule → Shape
leaf c = shape c.name (map argument_of c.options)

-- options are added after those that stand there
options_shape : (name : Text) (rules : List Rule) (options : List OptionRule) →
    (with_options (record { top = shape name rules; subs = [] }) options).top ≡ shape name (rules ++ map argument_of options)
options_shape name rules [] = ap (shape name) (sym (append-nil rules))
options_shape name rules (o ∷ os) =
    options_shape name (rules ++ argument_of o ∷ []) os ∙ ap (shape name) (append_assoc rules (argument_of o ∷ []) (map argument_of os))

-- the program, by whether it has no commands, and its commands
abbrev program : Bool → List Shape → App
program b subs = record { top = record bare_application.top { is_leaf = b }; subs = subs }

-- and so are commands
commands_shape : (subs : List Shape) (table : List CommandRule) → with_commands (program false subs) table ≡ program false (subs ++ map leaf table)
commands_shape subs [] = ap (program false) (sym (append-nil subs))
commands_shape subs (c ∷ cs) =
    ap (λ s. with_commands (program false (subs ++ s ∷ [])) cs) (options_shape c.name [] c.options)
    ∙ commands_shape (subs ++ leaf c ∷ []) cs ∙ ap (program false) (append_assoc subs (leaf c ∷ []) (map leaf cs))

-- ---- what building makes of the arguments

-- the arguments of a built subcommand: its options, numbered from i, and `--help`
abbrev flags : ℕ → List OptionRule → List Rule
flags i options = filled_from i (map argument_of options ++ help_rule ∷ [])

-- each option is a simple argument
all_simple : (options : List OptionRule) → list_all (λ (a : Rule). a.is_simple) (map argument_of options) ≡ true
all_simple [] = refl
all_simple (o ∷ os) = all_simple os

-- each argument of a built subcommand is simple,
flags_simple : (i : ℕ) (options : List OptionRule) → list_all (λ (a : Rule). a.is_simple) (flags i options) ≡ true
flags_simple i [] = refl
flags_simple i (o ∷ os) = flags_simple i os

-- none has a rule on another,
flags_free : (i : ℕ) (options : List OptionRule) → list_all (λ (a : Rule). a.is_free) (flags i options) ≡ true
flags_free i [] = refl
flags_free i (o ∷ os) = flags_free i os

-- and none is a positional with several values
flags_in_order : (n i : ℕ) (options : List OptionRule) → list_any (is_early_multiple n) (flags i options) ≡ false
flags_in_order n i [] = refl
flags_in_order n i (o ∷ os) = flags_in_order n i os

-- ---- the subcommands

-- what the subcommands inherit from
abbrev above : Bool → Shape
above b = with_leaf_noted (marked_built (program b []).top)

-- the subcommands as built
abbrev built_subcommands : Bool → List CommandRule → List Shape
built_subcommands b table = map built_leaf (map (inherited (above b)) (map leaf table))

-- each command is simple,
leaves_simple : (table : List CommandRule) → list_all is_simple_leaf (map leaf table) ≡ true
leaves_simple [] = refl
leaves_simple (c ∷ cs) = ap₂ ◌&&◌ (all_simple c.options) (leaves_simple cs)

-- is so when it is built,
leaves_ready : (b : Bool) (table : List CommandRule) → list_all is_ready_leaf (built_subcommands b table) ≡ true
leaves_ready b [] = refl
leaves_ready b (c ∷ cs) =
    ap₂ ◌&&◌ (ap₂ ◌&&◌ (flags_simple 1 c.options) (ap not (flags_in_order _ 1 c.options))) (leaves_ready b cs)

-- and has no rule of one argument on another
leaves_free : (b : Bool) (table : List CommandRule) → list_all has_free_rules (built_subcommands b table) ≡ true
leaves_free b [] = refl
leaves_free b (c ∷ cs) = ap₂ ◌&&◌ (flags_free 1 c.options) (leaves_free b cs)

-- the program with such commands
program_is_free : (b : Bool) (table : List CommandRule) → is_simple_and_free (program b (map leaf table)) ≡ true
program_is_free true table = ap₂ ◌&&◌ (ap₂ ◌&&◌ (leaves_simple table) (leaves_ready true table)) (leaves_free true table)
program_is_free false table = ap₂ ◌&&◌ (ap₂ ◌&&◌ (leaves_simple table) (leaves_ready false table)) (leaves_free false table)

-- whatever commands and options a table has
pub table_is_free : (table : List CommandRule) → is_simple_and_free (application_of table) ≡ true
table_is_free [] = program_is_free true []
table_is_free (c ∷ cs) =
    ap is_simple_and_free (ap (λ s. with_commands (program false (s ∷ [])) cs) (options_shape c.name [] c.options) ∙ commands_shape (leaf c ∷ []) cs)
    ∙ program_is_free false (c ∷ cs)
