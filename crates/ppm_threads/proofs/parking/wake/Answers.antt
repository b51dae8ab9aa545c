use Rattle.crossbeam_utils.specs.Token.{parker_view}
use Rattle.ppm_threads.proofs.TokenLemmas.{admits, gives}
use Rattle.ppm_threads.proofs.parking.wake.Goals as goal

pub pass-pass-requires : goal.pass-pass-requires
pass-pass-requires c = admits

pub unpark_as-requires-clause-rule : goal.unpark_as-requires-clause-rule
unpark_as-requires-clause-rule c = gives c.pass-pass.result.id (parker_view c.pass-pass.result)
