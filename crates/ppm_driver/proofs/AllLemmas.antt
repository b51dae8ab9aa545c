-- Where there is one processor, all obey where it does.
use Rattle.std.proofs.Common.{◌≡◌, ◌<◌, ℕ, zero, suc, List, [], ◌∷◌, arith}
use Rattle.std.specs.List.{All}
use Rattle.ppm_cells.specs.declared.shape.Shape.{Shape}
use Rattle.ppm_code.specs.declared.code.CodeParts.{CodeParts}
use Rattle.ppm_plan.specs.Schedules.{Planned}
use Rattle.ppm_step.specs.declared.turn.Turn.{Turn}
use Rattle.ppm_step.specs.State.{State}
use Rattle.ppm_step.specs.Among.{IsTurnAmong}
use Rattle.ppm_choice.specs.declared.limits.Limits.{Limits}
use Rattle.ppm_choice.specs.Deeds.{AreOf}
use Rattle.ppm_choice.specs.Obeying.{ObeysIn, ObeyAll}

first_of_one : (c p : ℕ) → c < p → p ≡ 1 → c ≡ 0
first_of_one c p less one = omega (arith, less, one)

-- turns of one processor are its own
own : (p : ℕ) (turns : List Turn) → p ≡ 1 → All (IsTurnAmong p) turns → AreOf 0 turns
own p [] one among = tt
own p (turn ∷ turns) one among = (
  first_of_one turn.processor p (among 0 turn (omega arith)).processor one,
  own p turns one (λ k d less. among (suc k) d (omega (arith, less))),
)

module _ (plan : Planned) (limits : Limits) (s : Shape) (code : CodeParts) where
  pub of_all : (state : State) (turns : List Turn) → s.processors ≡ 1 → ObeyAll plan limits s code state turns
      → AreOf 0 turns × ObeysIn plan limits 0 s code state turns
  of_all state turns one all = (own s.processors turns one all.among, all.obeys 0 (omega (arith, one)))
