use Rattle.std.proofs.Common.{◌≡◌, map, take}
use Rattle.clap.specs.Words.{app_of}
use Rattle.ppm_cli.specs.Application.{command_rule, with_commands}
use Rattle.ppm_cli.proofs.application.with_subcommands.Given as goal

-- the program has the commands so far
abbrev pub invariant-loop-command : goal.invariant-loop-command
invariant-loop-command l = app_of l.program ≡ with_commands (app_of l.fn.program) (map command_rule (take l.command-index l.commands))
