use Rattle.crossbeam_utils.specs.Token.{parker_view}
use Rattle.ppm_threads.proofs.TokenLemmas.{takes}
use Rattle.ppm_threads.proofs.parking.sleep.Goals as goal

pub park_as-requires-clause-rule : goal.park_as-requires-clause-rule
park_as-requires-clause-rule g c = takes c.args.pass.id (parker_view c.args.pass)
