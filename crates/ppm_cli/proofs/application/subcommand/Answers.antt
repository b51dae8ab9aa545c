use Rattle.std.proofs.Common.{ap₂, sym, ◌∙◌, ◌||◌}
use Rattle.clap.specs.Words.{with_rule}
use Rattle.ppm_cli.proofs.ApplicationLemmas.{with_option_more}
use Rattle.ppm_cli.proofs.application.subcommand.Goals as goal

-- one option more, and it is not global
pub loop-option-preserved : goal.loop-option-preserved
loop-option-preserved c = (
  c.in_ok-made.ensures.shape c.argument.ensures.local
      ∙ ap₂ with_rule c.loop-option.invariant.0 c.argument.ensures.rule
      ∙ sym (with_option_more _ _ _ _ c.loop-option-test.true),
  c.in_ok-made.ensures.globals ∙ ap₂ ◌||◌ c.loop-option.invariant.1 c.argument.ensures.local,
)
