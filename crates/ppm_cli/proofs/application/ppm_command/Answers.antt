use Rattle.std.proofs.Common.{◌≡◌, IfOk, subst}
use Rattle.std.specs.Fmt.{digits}
use Rattle.clap.specs.Words.{app_of}
use Rattle.ppm_cli.specs.Application.{with_commands}
use Rattle.ppm_cli.specs.CommandLine.{command_line}
use Rattle.ppm_cli.proofs.application.ppm_command.Goals as goal

-- the rows of the source are those of the table
pub returns : goal.returns
unfolding digits
returns c =
    subst (λ b. IfOk c.with_subcommands.result (λ m. app_of m ≡ with_commands b command_line)) c.bare_command.ensures.app c.with_subcommands.ensures
