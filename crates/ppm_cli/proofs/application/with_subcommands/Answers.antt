use Rattle.std.proofs.Common.{ap, ap₂, sym, ◌∙◌}
use Rattle.clap.specs.Words.{App, with_subcommand}
use Rattle.ppm_cli.proofs.ApplicationLemmas.{with_command_more}
use Rattle.ppm_cli.proofs.application.with_subcommands.Goals as goal

-- one command more
pub loop-command-preserved : goal.loop-command-preserved
loop-command-preserved c =
    c.in_ok-program.ensures.shape c.in_ok-subcommand.ensures.local
    ∙ ap₂ with_subcommand c.loop-command.invariant (ap (λ (a : App). a.top) c.in_ok-subcommand.ensures.app)
    ∙ sym (with_command_more _ _ _ _ c.loop-command-test.true)
