-- The command line as a table of rules: the commands, and their options with ranges and defaults.
use Prim.Native.String.{String}
use Rattle.std.specs.Prelude.{ℕ, Bool, true, List, [], ◌∷◌, codes, decimal, map, not, nat_eq}
use Rattle.clap.specs.Words.{Text}
use Rattle.ppm_words.specs.Limits.{processor_limit, entry_limit, turn_limit}
use Rattle.ppm_cells.specs.Limits.{most_pool_words, most_saved_pool_words}

-- what the value of an option is: a whole number from the least to the most, one of these words, or any text that does not begin with a hyphen
pub data Form : Type 0 where
  Number : ℕ → ℕ → Form
  Choice : List Text → Form
  AnyText : Form

-- an option `--name`: the form of its value, and the word that stands for the value where the option is not given
pub record OptionRule : Type 0 where
  pub name : Text
  pub form : Form
  pub default : Text

-- a command: its name and its options
pub record CommandRule : Type 0 where
  pub name : Text
  pub options : List OptionRule

-- an option whose value is a whole number in a range, with its default
abbrev pub number : String → ℕ → ℕ → ℕ → OptionRule
number name low high default =
    record { name = codes name; form = Number low high; default = decimal default }

-- an option whose value is one of some words, with its default
abbrev pub choice : String → List String → String → OptionRule
choice name words default =
    record { name = codes name; form = Choice (map codes words); default = codes default }

-- a text that does not begin with a hyphen
abbrev pub is_free_text : Text → Bool
is_free_text [] = true
is_free_text (c ∷ text) = not (nat_eq c 45)

-- an option whose value is any such text, by its name and its default
abbrev pub free_text : Text → Text → OptionRule
free_text name default = record { name = name; form = AnyText; default = default }

-- an option whose value is any such text, by its name and its default, written as strings
abbrev pub text : String → String → OptionRule
text name default = free_text (codes name) (codes default)

-- a command with its options
abbrev pub command : String → List OptionRule → CommandRule
command name options = record { name = codes name; options = options }

-- ---- the options that several commands have

-- how many processors run
abbrev pub processors : OptionRule
processors = number "processors" 1 processor_limit 4

-- how many run where the input is made
abbrev pub few_processors : OptionRule
few_processors = number "processors" 1 16 4

-- the most turns: of work by each processor, of a serial run, or the acts of a replay
abbrev pub turns : OptionRule
turns = number "turns" 1 turn_limit 16777216

-- the most capsules of a depth-first run
abbrev pub capsules : OptionRule
capsules = number "capsules" 1 4294967295 16777216

-- the words of a place's pool of blocks; all pools together have no more than the most of one
abbrev pub room : OptionRule
room = number "room" 64 most_pool_words 65536

-- the words of a place's pool where all words are written out; all pools together have no more than the most of one
abbrev pub saved_room : OptionRule
saved_room = number "room" 64 most_saved_pool_words 16384

-- those words by default where a sweep copies them for each run
abbrev pub copied_room : OptionRule
copied_room = number "room" 64 most_pool_words 16384

-- the entries of a place's deque
abbrev pub slots : OptionRule
slots = number "slots" 2 entry_limit 4096

-- and where all words are written out
abbrev pub few_slots : OptionRule
few_slots = number "slots" 2 4096 256

-- those entries by default where a sweep copies them for each run
abbrev pub copied_slots : OptionRule
copied_slots = number "slots" 2 entry_limit 256

-- the acts after which a run is stopped
abbrev pub after : OptionRule
after = number "after" 0 turn_limit 0

-- how many looks in a row a processor makes before it leaves or parks
abbrev pub looks : OptionRule
looks = number "looks" 1 1048576 1000

-- where the random words begin
abbrev pub seed : OptionRule
seed = number "seed" 0 4294967295 1

-- the values that are made and summed
abbrev pub size : OptionRule
size = number "size" 1 4096 64

-- the faults that are drawn
abbrev pub count : OptionRule
count = number "count" 0 4096 0

-- the faults that a sweep puts into a run at most
abbrev pub met : OptionRule
met = number "faults" 1 2 1

-- the first act of the base run before which faults are put
abbrev pub from : OptionRule
from = number "from" 0 268435455 0

-- the acts from that one on before which faults are put
abbrev pub acts : OptionRule
acts = number "acts" 1 turn_limit 268435456

-- how many of these acts are drawn before which the first fault is put; with 0 none is drawn, and it is put before each. Of strands: how many
-- schedules are drawn; with 0 none is, and one may be stated
abbrev pub runs : OptionRule
runs = number "runs" 0 65536 0

-- the acts that are made before the first one that a trace tells
abbrev pub traced_from : OptionRule
traced_from = number "from" 0 turn_limit 0

-- the acts that a trace tells at most
abbrev pub traced_acts : OptionRule
traced_acts = number "acts" 1 1048576 65536

-- below which number the strands are of which schedules are drawn
abbrev pub strands : OptionRule
strands = number "strands" 1 65536 3

-- the steps of each drawn schedule
abbrev pub steps : OptionRule
steps = number "steps" 1 4096 64

-- the plan of faults
abbrev pub faults : OptionRule
faults = text "faults" "none"

-- the schedule of acts
abbrev pub schedule : OptionRule
schedule = text "schedule" "none"

-- what is taken over of a dead processor: its place, or the entries of its deque
abbrev pub takeover : OptionRule
takeover = choice "takeover" ("place" ∷ "entry" ∷ []) "place"

-- under which takeovers a sweep has its runs
abbrev pub swept_takeovers : OptionRule
swept_takeovers = choice "takeover" ("place" ∷ "entry" ∷ "both" ∷ []) "both"

-- what a processor does that finds no work: it leaves, or it parks
abbrev pub idle : OptionRule
idle = choice "idle" ("leave" ∷ "park" ∷ []) "leave"

-- the form of a trace: lines of text, events in JSON for a viewer, or a picture in SVG
abbrev pub traced_form : OptionRule
traced_form = choice "form" ("text" ∷ "json" ∷ "svg" ∷ []) "text"

-- what is told of a run of strands: what it came to, or each turn of which others saw something too
abbrev pub strands_form : OptionRule
strands_form = choice "form" ("arrays" ∷ "text" ∷ []) "arrays"

-- which lines of a trace are written: all, those that end a row, or those with a mark
abbrev pub only : OptionRule
only = choice "only" ("turns" ∷ "rows" ∷ "marks" ∷ []) "turns"

-- whether the strands of a code may race
abbrev pub racy : OptionRule
racy = choice "racy" ("no" ∷ "yes" ∷ []) "no"

-- whether the arrays of a source are written before its code
abbrev pub arrays : OptionRule
arrays = choice "arrays" ("no" ∷ "yes" ∷ []) "no"

-- whether the text that is read is a source or a case
abbrev pub input : OptionRule
input = choice "input" ("source" ∷ "case" ∷ []) "source"

-- whether what is counted in the run is told
abbrev pub counts : OptionRule
counts = choice "counts" ("no" ∷ "yes" ∷ []) "no"

-- and where the run may go on from a saved text, whether it is that
abbrev pub any_input : OptionRule
any_input = choice "input" ("source" ∷ "case" ∷ "saved" ∷ []) "source"

-- which text is explained
abbrev pub explained : OptionRule
explained = choice "input" ("source" ∷ "listing" ∷ "case" ∷ "saved" ∷ []) "source"

-- the plan that is explained, and the schedule: `unstated` says that there is none
abbrev pub stated_plan : OptionRule
stated_plan = text "plan" "unstated"

abbrev pub stated_schedule : OptionRule
stated_schedule = text "schedule" "unstated"

-- whether the trap of a source is explained
abbrev pub trap : OptionRule
trap = choice "trap" ("no" ∷ "yes" ∷ []) "no"

-- ---- the commands

-- the whole command line
abbrev pub command_line : List CommandRule
command_line =
    command "run"
    (processors ∷ turns ∷ room ∷ slots ∷ looks ∷ seed ∷ faults ∷ takeover ∷ idle ∷ input ∷ counts ∷ [])
    ∷ command "serial" (turns ∷ [])
    ∷ command "code" (arrays ∷ [])
    ∷ command "check" (racy ∷ [])
    ∷ command "depth" (capsules ∷ [])
    ∷ command "races" (capsules ∷ [])
    ∷ command "strands" (schedule ∷ turns ∷ strands_form ∷ runs ∷ seed ∷ strands ∷ steps ∷ [])
    ∷ command "replay" (processors ∷ turns ∷ room ∷ slots ∷ takeover ∷ schedule ∷ any_input ∷ counts ∷ [])
    ∷ command "self" (few_processors ∷ size ∷ seed ∷ count ∷ [])
    ∷ command "stop" (processors ∷ after ∷ saved_room ∷ few_slots ∷ schedule ∷ any_input ∷ [])
    ∷ command "resume" (turns ∷ looks ∷ seed ∷ faults ∷ counts ∷ [])
    ∷ command "sweep"
    (processors ∷ turns ∷ copied_room ∷ copied_slots ∷ swept_takeovers ∷ schedule ∷ met ∷ from ∷ acts ∷ runs ∷ seed ∷ capsules ∷ input ∷ [])
    ∷ command "ram" (processors ∷ turns ∷ room ∷ slots ∷ looks ∷ seed ∷ faults ∷ takeover ∷ idle ∷ [])
    ∷ command "trace"
    (processors ∷ traced_from ∷ traced_acts ∷ room ∷ slots ∷ takeover ∷ schedule ∷ traced_form ∷ only ∷ any_input ∷ [])
    ∷ command "show" []
    ∷ command "explain" (explained ∷ stated_plan ∷ stated_schedule ∷ processors ∷ trap ∷ turns ∷ [])
    ∷ []
