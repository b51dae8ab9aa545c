-- The pools, place by place.
use Rattle.std.proofs.Common.{◌≡◌, ◌∙◌, ℕ, suc, ◌+◌, List, ap, ap₂, arith}
use Rattle.ppm_cells.specs.declared.shape.Shape.{Shape}
use Rattle.ppm_following.specs.Room.{given_by, larger, most_given}

-- a place more
pub most_step : (s : Shape) (words : List ℕ) (n most given new : ℕ) → most ≡ most_given s words n → given ≡ given_by s words n → new ≡ larger most given
    → new ≡ most_given s words (n + 1)
most_step s words n most given new so one is =
    let next : suc n ≡ n + 1 = omega arith in
    is ∙ ap₂ larger so one ∙ ap (most_given s words) next
