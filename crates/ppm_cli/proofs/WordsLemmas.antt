-- What a parse says of the command that the words give.
use Rattle.std.proofs.Common.{◌≡◌, true, List, [], ◌∷◌, Option, Some, None, option_map, refl, sym, ap, ap₂, ◌∙◌, subst}
use Rattle.clap.specs.Words.{App, Kinds, IsAmong, Text, Row, fault_of, is_simple, is_simple_and_free, subcommand_of}
use Rattle.clap.proofs.WalkLemmas.{both}
use Rattle.ppm_cli.specs.declared.command.Command.{Command}
use Rattle.ppm_cli.specs.Application.{ppm_application}
use Rattle.ppm_cli.specs.CommandLine.{command_line}
use Rattle.ppm_cli.proofs.TableLemmas.{table_is_free}
use Rattle.ppm_cli.specs.Words.{command_in, command_named, without_fault, command_of}

-- clap's laws of refusals and of a parse hold for the program
pub ppm_is_free : is_simple_and_free ppm_application ≡ true
ppm_is_free = table_is_free command_line

pub ppm_is_simple : is_simple ppm_application ≡ true
ppm_is_simple = (both _ _ ppm_is_free).0

some_is : {A : Type 0} {a b : A} → Some a ≡ Some b → a ≡ b
some_is e = cc

-- a subcommand that was met, by its name and its rows, gives the command of that name
pub by_parts : {B : Type 0} (met : Option B) (name : B → Text) (rows : B → List Row) (n : Text) (r : List Row)
    → Some n ≡ option_map name met → Some r ≡ option_map (λ (p : Text × List Row). p.1) (option_map (λ b. (name b, rows b)) met)
    → command_named n r ≡ command_in (option_map (λ b. (name b, rows b)) met)
by_parts None name rows n r e f = cc
by_parts (Some b) name rows n r e f = ap₂ command_named (some_is e) (some_is f)

-- words without a fault give the command of the subcommand that was met
pub given : (a : App) (words : List Text) (rows : Option (Text × List Row)) (command : Option Command) → a ≡ ppm_application →
    fault_of a words ≡ [] → rows ≡ subcommand_of a words → command ≡ command_in rows → command ≡ command_of words
given a words rows command e f g h =
    h ∙ ap command_in g ∙ ap (λ b. command_in (subcommand_of b words)) e
    ∙ ap (λ k. without_fault k (command_in (subcommand_of ppm_application words))) (sym f ∙ ap (λ b. fault_of b words) e)

-- a kind among the faults is a fault
some_fault : (kinds : Kinds) (k : _) (command : Option Command) → IsAmong k kinds → without_fault kinds command ≡ None
some_fault [] k command h = absurd h
some_fault (x ∷ kinds) k command h = refl

-- words with a fault give no command
pub refused : (a : App) (words : List Text) (k : _) → a ≡ ppm_application → IsAmong k (fault_of a words) → None ≡ command_of words
refused a words k e h = sym (some_fault (fault_of ppm_application words) k _ (subst (λ b. IsAmong k (fault_of b words)) e h))
