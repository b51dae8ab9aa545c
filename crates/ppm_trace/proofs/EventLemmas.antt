-- The events of a turn, told from a scene of the machine.
use Rattle.std.proofs.Common.{◌≡◌, ◌∙◌, ℕ, ap}
use Rattle.ppm_lines.specs.Events.{begun_at, events_at}
use Rattle.ppm_lines.specs.Scene.{Scene}
use Rattle.ppm_step.specs.Locals.{standing_of}
use Rattle.ppm_step.specs.Standings.{Standing}
use Rattle.ppm_step.specs.declared.local.Local.{Local}
use Rattle.ppm_step.specs.declared.turn.Turn.{Turn}

-- by what the scene is, and by where the processor stands
module _ (scene of_machine : Scene) (local : Local) (standing : Standing) (same : scene ≡ of_machine)
    (stands : standing_of of_machine.shape of_machine.code local ≡ standing) where
  pub turn_is : (turn : Turn) (n k : ℕ) → n ≡ k
      → events_at scene turn (standing_of scene.shape scene.code local) n ≡ events_at of_machine turn standing k
  turn_is turn n k at =
      ap (λ s. events_at s turn (standing_of s.shape s.code local) n) same
      ∙ ap (λ st. events_at of_machine turn st n) stands ∙ ap (events_at of_machine turn standing) at

  pub begun_is : (n k own processor : ℕ) → n ≡ k → own ≡ processor
      → begun_at scene n own (standing_of scene.shape scene.code local) ≡ begun_at of_machine k processor standing
  begun_is n k own processor at is =
      ap (λ s. begun_at s n own (standing_of s.shape s.code local)) same
      ∙ ap (begun_at of_machine n own) stands ∙ ap (λ t. begun_at of_machine t own standing) at
      ∙ ap (λ p. begun_at of_machine k p standing) is
