-- Applications that grow by an option.
use Rattle.std.proofs.Common.{◌≡◌, ℕ, ◌<◌, ◌+◌, List, length, take, map, get_or, ap, ◌∙◌, add-one}
use Rattle.std.proofs.Math.Seq.{take-suc}
use Rattle.std.proofs.lemmas.List.{map-append}
use Rattle.std.proofs.lemmas.List.Sums.{fold-append}
use Rattle.clap.specs.Words.{App, with_rule, with_subcommand}
use Rattle.ppm_cli.specs.Application.{argument_of, command_rule, option_rule, command_application, with_commands, with_options}
use Rattle.ppm_cli.specs.declared.table.CommandRow.{CommandRow}
use Rattle.ppm_cli.specs.declared.table.OptionRow.{OptionRow}

-- the options up to one more are those before it and that one
pub with_option_more : (a : App) (options : List OptionRow) (i : ℕ) (d : OptionRow) → i < length options →
    with_options a (map option_rule (take (i + 1) options))
    ≡ with_rule (with_options a (map option_rule (take i options))) (argument_of (option_rule (get_or options i d)))
with_option_more a options i d h =
    ap (λ n. with_options a (map option_rule (take n options))) (add-one i)
    ∙ ap (λ os. with_options a (map option_rule os)) (take-suc options i d h)
    ∙ ap (λ os. with_options a os) (map-append option_rule (take i options) _)
    ∙ fold-append (λ b o. with_rule b (argument_of o)) a (map option_rule (take i options)) _

-- and so it is with commands
pub with_command_more : (a : App) (commands : List CommandRow) (i : ℕ) (d : CommandRow) → i < length commands →
    with_commands a (map command_rule (take (i + 1) commands))
    ≡ with_subcommand (with_commands a (map command_rule (take i commands))) (command_application (command_rule (get_or commands i d))).top
with_command_more a commands i d h =
    ap (λ n. with_commands a (map command_rule (take n commands))) (add-one i)
    ∙ ap (λ os. with_commands a (map command_rule os)) (take-suc commands i d h)
    ∙ ap (λ os. with_commands a os) (map-append command_rule (take i commands) _)
    ∙ fold-append (λ b c. with_subcommand b (command_application c).top) a (map command_rule (take i commands)) _
