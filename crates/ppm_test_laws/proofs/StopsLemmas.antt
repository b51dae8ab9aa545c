-- A capsule of no instructions makes no steps.
use Rattle.std.proofs.Common.{◌≡◌, ◌<◌, ℕ, zero, suc, List, [], ◌∷◌, length, refl, sym, arith}
use Rattle.ppm_strands.specs.Tree.{Words}
use Rattle.ppm_strands.specs.Capsule.{Ends}
use Rattle.ppm_strands.specs.Equalities.{numbers}
use Rattle.ppm_strands.specs.Stopped.{at, steps}
use Rattle.ppm_test_laws.specs.Stops.{capsule_of}
use Rattle.ppm_test_laws.specs.declared.stops.Ask.{Ask}

-- at its end a capsule stays
ended : (n r : ℕ) (m : Words) → (steps {E = ℕ} numbers n (at (Ends r) m)).words ≡ m
ended zero r m = refl
ended (suc n) r m = ended n r m

pub none_left : (rest : List Ask) (n r : ℕ) (m : Words) → length rest < 1 → m ≡ (steps numbers n (at (capsule_of rest r) m)).words
none_left [] n r m h = sym (ended n r m)
none_left (a ∷ rest) n r m h = absurd (omega (arith, h))
