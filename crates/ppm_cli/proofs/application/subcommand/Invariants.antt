use Rattle.std.proofs.Common.{◌≡◌, false, map, take}
use Rattle.clap.specs.Words.{app_of, new_app}
use Rattle.clap.specs.declared.builder.command.Command.TheViews.{out-Command as fields_of}
use Rattle.ppm_cli.specs.Application.{option_rule, with_options}
use Rattle.ppm_cli.proofs.application.subcommand.Given as goal

-- the command has the options so far
abbrev pub invariant-loop-option : goal.invariant-loop-option
invariant-loop-option l =
    (app_of l.made ≡ with_options (new_app l.command.name.now) (map option_rule (take l.option-index l.command.options.now)))
    × ((fields_of l.made).has_globals ≡ false)
