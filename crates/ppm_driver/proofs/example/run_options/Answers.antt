use Rattle.ppm_driver.proofs.ExampleLemmas.{example_are_run}
use Rattle.ppm_driver.proofs.example.run_options.Goals as goal

-- they are in their ranges
pub returns-clause-in_range : goal.returns-clause-in_range
returns-clause-in_range c = example_are_run c.args.options c.requires
