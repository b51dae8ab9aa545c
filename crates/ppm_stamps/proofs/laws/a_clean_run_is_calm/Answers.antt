use Rattle.std.proofs.Common.{arith}
use Rattle.ppm_stamps.specs.Stamps.{nothing, fresh}
use Rattle.ppm_stamps.proofs.RaceLemmas.{clean}
use Rattle.ppm_stamps.proofs.laws.a_clean_run_is_calm.Goals as goal

-- by induction on the bound
pub returns : goal.returns
returns c = λ start code local n t a u h.
    let it = clean code local n nothing t a fresh u (λ k no. absurd (cc)) (λ x. omega arith) (λ x. omega arith) h in
    (it.calm, it.end)
