-- When what a capsule has settled does not stand.
use Rattle.std.specs.Prelude.{ℕ, List, [], ◌∷◌}
use Rattle.ppm_unseen.specs.Run.{System, State, AllStill, now, settled}
use Rattle.ppm_unseen.specs.Conditions.{Stands}
use Rattle.ppm_code.specs.Strands.{Result}
use Rattle.ppm_filled.specs.Racing.{OwnWord, Place, Exit}
use Rattle.ppm_interleaving.specs.declared.deed.Turn.{Turn}
use Rattle.ppm_interleaving.specs.declared.deed.Turn.TheVariants.{Step, Fault}
use Rattle.ppm_interleaving.specs.Turns.{Moment, ComesBy, IsRun, came, deeds, turns}

-- turns without a fault
abbrev pub HaveNoFault : List Turn → Type 0
HaveNoFault [] = Unit {0}
HaveNoFault (Step i ∷ h) = HaveNoFault h
HaveNoFault (Fault i ∷ h) = ⊥

module _ (s : System OwnWord Place Exit Result) where
  -- after these moments it stands, of each strand: what the capsule under way has settled would, made again now, change nothing. It is what `Stands`
  -- of `ppm_unseen` asks at each moment of a run without faults.
  abbrev pub AllStand : List Moment → Type 0
  AllStand h = (i : ℕ) (σ : State OwnWord Place Exit) (c : ComesBy s i h σ) → AllStill (now s (deeds h)) (settled (came s c))

  -- of strand i it does not
  abbrev pub Falls : List Moment → ℕ → Type 0
  Falls h i = (σ : State OwnWord Place Exit) × (c : ComesBy s i h σ) × (AllStill (now s (deeds h)) (settled (came s c)) → ⊥)

  -- where something falls in the run of a schedule without faults, what is done does not stand as the law on invisible faults asks
  abbrev pub FallsRefute : Type 0
  FallsRefute = (h : List Moment) (i : ℕ) → HaveNoFault (turns h) → IsRun s h → Falls h i → Stands s → ⊥
