-- The end of a capsule that goes on with another one.
use Rattle.std.proofs.Common.{◌≡◌, ℕ, zero, suc, Bool, ap, ◌≤◌, arith}
use Rattle.ppm_cells.specs.declared.shape.Shape.{Shape}
use Rattle.ppm_code.specs.declared.act.End.TheVariants.{Next}
use Rattle.ppm_code.specs.declared.code.CodeParts.{CodeParts}
use Rattle.ppm_step.specs.declared.frame.Home.{Home}
use Rattle.ppm_step.specs.declared.row.Seat.{Seat}
use Rattle.ppm_step.specs.Frames.{ending}
use Rattle.ppm_step.specs.Standings.{rest_is_there, running_if, went_rest}

-- after its one store comes the restart word
pub stands_behind : (s : Shape) (code : CodeParts) (seat : Seat) (home : Home) (capsule n found : ℕ) (there : Bool) → n ≤ 0
    → there ≡ rest_is_there s seat (ending code home (Next capsule) 1)
    → running_if seat (ending code home (Next capsule) 1) there ≡ went_rest s seat found (ending code home (Next capsule) n)
stands_behind s code seat home capsule zero found there few is =
    ap (λ (b : Bool). running_if seat (ending code home (Next capsule) 1) b) is
stands_behind s code seat home capsule (suc n) found there few is =
    absurd (omega (arith, few))
