-- The capsules of a code whose paths are filled.
use Rattle.std.proofs.Common.{◌≡◌, true, false, replicate}
use Rattle.std.specs.Prelude.{ℕ}
use Rattle.ppm_code.specs.declared.code.CodeParts.{CodeParts}
use Rattle.ppm_code.specs.Strands.{instrs_of}
use Rattle.ppm_unseen.specs.Conditions.{IsOrdered, IsFilled}
use Rattle.ppm_filled.specs.Racing.{Place, At, HasTrapped, racing_code}
use Rattle.ppm_filled.specs.Correct.{HasFilledPaths}
use Rattle.ppm_filled.proofs.OrderLemmas.{ordered}
use Rattle.ppm_filled.proofs.FillLemmas.{out, fills, builds}

-- at each place: a capsule of the code, or the end of a strand of which a branch trapped
pub each : (code : CodeParts) → HasFilledPaths code → (array_words : ℕ) (place : Place)
    → IsOrdered ((racing_code code array_words).capsule place)
    × IsFilled ((racing_code code array_words).builds place) ((racing_code code array_words).capsule place)
each code r words (At point) = let is = instrs_of code point.capsule in (
  ordered words is (r.free point.capsule) (replicate 64 0),
  λ o. (
    out words is o (r.free point.capsule) (r.filled point.capsule) (replicate 64 0),
    fills words is o (r.free point.capsule) (r.filled point.capsule) (replicate 64 0),
    builds words is o (r.free point.capsule) (r.filled point.capsule) (replicate 64 0),
  ),
)
each code r words (HasTrapped result) = (tt, λ o. (λ x. false, λ x h. no_builds h, λ x h. h))
  where
    no_builds : {A : Type 0} → false ≡ true → A
    no_builds h = cc
