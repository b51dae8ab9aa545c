use Rattle.ppm_threads.proofs.TokenLemmas.{admits}
use Rattle.ppm_threads.proofs.parking.park.Goals as goal

pub pass-pass-requires : goal.pass-pass-requires
pass-pass-requires g c = admits
